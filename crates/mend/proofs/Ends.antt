-- What the call answers, from what its parts found.
use mathlib.Core.Path.{◌≡◌, refl, sym, ap, ap₂, ◌∙◌}
use mathlib.Core.Bool.{Bool, true, false, cond, ◌&&◌}
use mathlib.Core.List.{List, [], ◌∷◌, ◌++◌, append-nil, append_assoc}
use mathlib.Core.Logic.{inl, inr}
use Prim.Native.Nat.{ℕ, ◌+◌, ◌*◌, ◌/◌, ◌-◌, ◌^◌, ◌≤◌, ◌<◌}
use native.Mathlib.Omega.{arith}
use lib.Dec.{eqb, leb}
use lib.ListN.{length, take, length-append, drop_of_length-le}
use lib.Seq.{take_at}
use Rattle.std.specs.Prelude.{Option, Some, None}
use Rattle.areas.specs.Put.{Puts, over}
use Rattle.lists.specs.Table.{table}
use Rattle.lists.proofs.Facts.{facts}
use Rattle.lists.proofs.Tables.{same-joined}
use Rattle.text.specs.Inner.Within.{Within}
use Rattle.text.specs.Text.{bad}
use Rattle.text.proofs.Parts.{in-front, bad-short}
use Rattle.plan.specs.Block.{block}
use Rattle.plan.specs.Inner.File.{entry_holdings}
use Rattle.plan.specs.Inner.Memory.{at}
use Rattle.plan.specs.Reading.{reads}
use Rattle.plan.specs.Refusals.{Test, test, first, device_block, count_in, verdict}
use Rattle.plan.specs.Reading.{Read}
use Rattle.plan.specs.Refusals.{Verdict}
use Rattle.plan.proofs.Firsts.{AllPass, Stops, here, passes-or-stops, first-accepts, first_stops, stops-front, stops-back, stops-joined, all_append, all-joined}
use Rattle.plan.proofs.Good.{zero-accepts}
use Rattle.planfile.specs.Parts.{front_tests}
use Rattle.planfile.proofs.Marked.{first-behind}
use Rattle.planfile.proofs.Scans.{front-passes}
use Rattle.mend.specs.Claims.{damaged, claimant, uncontested}
use Rattle.mend.specs.Mended.{rebuilt, mended}
use Rattle.mend.specs.Rescue.{longest, good_tests, claim_tests, result_tests, rescue_tests, refusal, Lent, lent, Rescues}
use Rattle.mend.specs.Told.{Prints}
use Rattle.mend.specs.Inner.Steps.{Fronted, marks, marked_at, pointed_all, claimants_in, contested, router_in, routers_over, lines_in, Finishes, Ready, rest_tests, Mends}
use Rattle.mend.proofs.Blocks.{mended-long}
use Rattle.mend.proofs.Claimed.{claimants-are, claimant-at, claimant-most, ports-are, answer, contested-none, contested-first}
use Rattle.mend.proofs.Passing.{good-passes}
use Rattle.mend.proofs.Result.{fronted, reader-says}
use Rattle.mend.proofs.Texts.{mark-there, lines-text}

-- ---- areas

-- a word put over the whole of an area
pub put-over : {t w after : List ℕ} {place : ℕ} → Puts t 0 w after place → length t ≡ length w → after ≡ w
unfolding over
put-over {t} {w} p e = let l : length t ≤ length w = omega arith in (in-front p (omega arith)).1 ∙ rw drop_of_length-le (append-nil w)

-- the place behind a text is small
pub ends-small : {w t after : List ℕ} {place : ℕ} → Within longest t 0 w after place → longest ≤ length t → place ≤ longest
ends-small p room = omega (arith, p.short, (in-front p.put (omega (arith, p.short, room))).0)

-- ---- what was made is the mended file

module _ (file : List ℕ) (front : Fronted file) where
  router-is : (d : ℕ) → d < 32 → router_in (table 256 (claimant file)) d ≡ rebuilt file d
  unfolding router_in rebuilt
  router-is d h =
      rw (
        ports-are file d h,
        same-joined 8 (λ p. entry_holdings p (at (table 256 (claimant file)) (8 * d + p)) 0) (λ p. entry_holdings p (claimant file (8 * d + p)) 0)
            (λ p l. rw (claimant-at file (8 * d + p) (omega arith))),
      )

  pub made-is : routers_over (table 256 (claimant file)) (marks file) (count_in file) file ≡ mended file
  unfolding routers_over mended
  made-is = ap (λ l. block file 0 ++ l) (same-joined (count_in file) _ _ (λ d h. by-mark d h))
    where
      by-mark : (d : ℕ) → d < count_in file → cond (marked_at (marks file) d) (router_in (table 256 (claimant file)) d) (block file (1 + d)) ≡ cond (damaged file d) (rebuilt file d) (device_block file d)
      by-mark d h = let l : d < 32 = omega (arith, front.few) in rw (mark-there file d l h, router-is d l)

-- from a copy of the file, by its length
pub built : {made file : List ℕ} (claimants : List ℕ) (damaged : List Bool) → Fronted file → made ≡ file → routers_over claimants damaged (length made / 512 - 1) made ≡ routers_over claimants damaged (count_in file) file
built {file = file} claimants damaged front e = let n : length file / 512 - 1 ≡ count_in file = omega (arith, front.long) in rw (e, n)

-- ---- the end

module _ {made claimants : List ℕ} {damaged : List Bool} {before : Lent} {read : Read} (e : read ≡ reads made) where
  pub ends-refused : (read.number ≡ 0 → ⊥) → Finishes made claimants damaged before read.number read.block 0 before
  unfolding reads
  ends-refused z = record { answers = ap (λ (r : Read). record { number = r.number; at = r.block }) e; done = λ w. absurd (z w); kept = λ w. (refl, refl) }

  pub ends-done : {area text shown : List ℕ} {used : ℕ} → read.number ≡ 0 → area ≡ made → Within longest before.text 0 (lines_in claimants damaged 32) shown used
      → text ≡ shown → Finishes made claimants damaged before 0 0 used (lent area text)
  unfolding reads
  ends-done z a w t =
      record {
        answers = sym (zero-accepts made (ap (λ (r : Read). r.number) (sym e) ∙ z));
        done = λ _. (a, rw t w);
        kept = λ n. absurd (n refl);
      }

-- ---- what the search of the claims found

module _ (file : List ℕ) {pointed claimants : List ℕ} (p : pointed ≡ pointed_all file) (c : claimants ≡ claimants_in pointed) where
  pub claimants-is : claimants ≡ table 256 (claimant file)
  claimants-is = c ∙ ap claimants_in p ∙ claimants-are file

  pub claimants-most : (t : ℕ) → t < 256 → at claimants t ≤ 256
  claimants-most t h = rw (claimants-is, claimant-at file t h) (claimant-most file t)

  pub answer-is : {marked : List Bool} {found : Option ℕ} → marked ≡ marks file → found ≡ contested pointed claimants marked → found ≡ answer file
  answer-is m e = e ∙ rw (p, claimants-is, m)

-- ---- the rest, where nothing is wrong with block 0 and the good blocks

module _ {file : List ℕ} {marked : List Bool} (ready : Ready file marked) where
  front-pass : AllPass (front_tests file)
  front-pass = front-passes file refl ready.front

  pub ready-front : Fronted file
  ready-front = fronted file front-pass

  -- what was built, in front of anything, is the mended file
  module _ {claimants : List ℕ} (c : claimants ≡ table 256 (claimant file)) {made : List ℕ} (e : made ≡ routers_over claimants marked (count_in file) file) where
    pub built-is : made ≡ mended file
    built-is = e ∙ rw (c, ready.same) (made-is file ready-front)

    pub built-long : length made ≡ length file
    built-long = ap length built-is ∙ mended-long file ready-front

    pub built-room : (rest : List ℕ) → length file ≤ length (made ++ rest)
    built-room rest = omega (arith, length-append made rest, built-long)

    pub built-size : (rest : List ℕ) → length (take (length file) (made ++ rest)) ≡ length file
    built-size rest = ap length (take_at made rest (length file) built-long) ∙ built-long

    pub built-prefix : (rest : List ℕ) → take (length file) (made ++ rest) ≡ mended file
    built-prefix rest = take_at made rest (length file) built-long ∙ built-is

  -- a port is claimed twice
  pub mends-contested : {before : Lent} {number : ℕ} → Some number ≡ answer file → Mends file before 28 number 0 before
  unfolding rest_tests claim_tests
  mends-contested {number = number} e =
      let f = contested-first file ready-front e in
      let stop : Stops (test 28 (1 + f.device) (uncontested file f.device) ∷ []) (record { number = 28; at = 1 + f.device }) = here f.fails in
      record {
        answers =
            ap (λ k. record { number = 28; at = k }) f.is
            ∙ sym (first_stops (stops-front (result_tests file)
            (stops-joined (λ d. test 28 (1 + d) (uncontested file d) ∷ []) (count_in file) f.device (λ d h. (f.before d h, tt)) stop f.within)));
        made = λ w. absurd (omega (arith, w));
        kept = λ w. (refl, refl);
      }

  -- none is, and the reader says what is left
  pub mends-finished : {made claimants : List ℕ} {before after : Lent} {number block used : ℕ} → answer file ≡ None → made ≡ mended file → claimants ≡ table 256 (claimant file)
      → Finishes made claimants marked before number block used after → Mends file before number block used after
  unfolding rest_tests claim_tests
  mends-finished {before = before} {after} {used = used} z m c f =
      let pass : AllPass (claim_tests file) = all-joined (λ d. test 28 (1 + d) (uncontested file d) ∷ []) (count_in file) (λ d h. (contested-none file ready-front z d h, tt)) in
      record {
        answers =
            f.answers ∙ ap verdict m ∙ reader-says file front-pass (good-passes file ready.good) ∙ sym (first-behind (claim_tests file) (result_tests file) pass);
        made = λ w. let d = f.done w in
            (d.0 ∙ m, rw (← lines-text file ready-front, ← c, ← ready.same) d.1);
        kept = f.kept;
      }

-- ---- the call

module _ (file : List ℕ) (before : Lent) where
  abbrev area : ℕ
  area = length before.area

  abbrev text : ℕ
  text = length before.text

  abbrev areas : List Test
  areas = test 3 0 (eqb area (length file) && leb longest text) ∷ []

  kept-as-is : {number block : ℕ} → (number ≡ 0 → ⊥) → record { number = number; at = block } ≡ refusal file area text → Rescues file before number block 0 before
  kept-as-is z e = record { answers = e; made = λ w. absurd (z w); kept = λ _. (refl, refl) }

  pub rescues-misfit : ((area ≡ length file) × (longest ≤ text) → ⊥) → Rescues file before 3 0 0 before
  unfolding refusal rescue_tests
  rescues-misfit n =
      kept-as-is (λ w. omega (arith, w))
      (sym (first_stops (stops-front (result_tests file) (stops-front (claim_tests file) (stops-front (good_tests file) (stops-front {xs = areas} (front_tests file) (here (by-test (eqb area (length file) && leb longest text) refl))))))))
    where
      by-test : (b : Bool) → (eqb area (length file) && leb longest text) ≡ b → (eqb area (length file) && leb longest text) ≡ false
      by-test false e = e
      by-test true e = let f = simp facts at e in absurd (n (f.0, f.1))

  module _ (same : area ≡ length file) (room : longest ≤ text) where
    fit : AllPass areas
    fit = (simp facts (same, room), tt)

    -- tests behind those that are passed
    front-stops : {v : Verdict} → Stops (front_tests file) v → refusal file area text ≡ v
    unfolding refusal rescue_tests
    front-stops s = first_stops (stops-front (result_tests file) (stops-front (claim_tests file) (stops-front (good_tests file) (stops-back areas fit s))))

    pub rescues-front : {number block : ℕ} → record { number = number; at = block } ≡ first (front_tests file) → (number ≡ 0 → ⊥) → Rescues file before number block 0 before
    rescues-front e z =
        elim (passes-or-stops (front_tests file)) [
          | inl p ↦ absurd (z (ap (λ (v : Verdict). v.number) (e ∙ first-accepts (front_tests file) p)))
          | inr s ↦ kept-as-is z (e ∙ sym (front-stops s))
        ]

    module _ (front : AllPass (front_tests file)) where
      before-good : AllPass (areas ++ front_tests file)
      before-good = all_append areas (front_tests file) fit front

      good-stops : {v : Verdict} → Stops (good_tests file) v → refusal file area text ≡ v
      unfolding refusal rescue_tests
      good-stops s = first_stops (stops-front (result_tests file) (stops-front (claim_tests file) (stops-back (areas ++ front_tests file) before-good s)))

      pub rescues-good : {number block : ℕ} → record { number = number; at = block } ≡ first (good_tests file) → (number ≡ 0 → ⊥) → Rescues file before number block 0 before
      rescues-good e z =
          elim (passes-or-stops (good_tests file)) [
            | inl p ↦ absurd (z (ap (λ (v : Verdict). v.number) (e ∙ first-accepts (good_tests file) p)))
            | inr s ↦ kept-as-is z (e ∙ sym (good-stops s))
          ]

      rest-decides : AllPass (good_tests file) → refusal file area text ≡ first (rest_tests file)
      unfolding refusal rescue_tests rest_tests
      rest-decides g =
          ap first (append_assoc (areas ++ front_tests file ++ good_tests file) (claim_tests file) (result_tests file))
          ∙ first-behind (areas ++ front_tests file ++ good_tests file) (claim_tests file ++ result_tests file) (all_append (areas ++ front_tests file) (good_tests file) before-good g)

      pub rescues-rest : {after : Lent} {number block used : ℕ} → AllPass (good_tests file) → Mends file before number block used after → Rescues file before number block used after
      rescues-rest g m =
          record {
            answers = m.answers ∙ sym (rest-decides g);
            made = λ w. let d = m.made w in let f = in-front d.1.put (omega (arith, d.1.short, room)) in (d.0, f.0, f.1);
            kept = m.kept;
          }

-- ---- the same for whoever prints it

module _ {file : List ℕ} {before : Lent} {number block used : ℕ} {area text : List ℕ} (r : Rescues file before number block used (lent area text)) where
  is_number : number ≡ (refusal file (length before.area) (length before.text)).number
  is_number = ap (λ (v : Verdict). v.number) r.answers

  pub prints-done : number ≡ 0 → Prints file before 0 used (lent area text)
  prints-done z =
      record { answers = sym z ∙ is_number; made = λ _. r.made z; kept = λ n. absurd (n refl); silent = λ n. absurd (n refl) }

  module _ (z : number ≡ 0 → ⊥) where
    -- both areas are as they were
    same_area : area ≡ before.area
    same_area = ap (λ (l : Lent). l.area) (r.kept z).1

    same_text : text ≡ before.text
    same_text = ap (λ (l : Lent). l.text) (r.kept z).1

    pub prints-nothing : length text < longest → Prints file before number 0 (lent area text)
    prints-nothing h =
        record {
          answers = is_number;
          made = λ w. absurd (z w);
          kept = λ _ room. absurd (omega (arith, h, room, ap length same_text));
          silent = λ _ _. (refl, (r.kept z).1);
        }

    pub prints-bad : {after : List ℕ} {place : ℕ} → longest ≤ length text → number < 2 ^ 32 → block < 2 ^ 32 → Puts text 0 (bad number block) after place
        → Prints file before number place (lent area after)
    prints-bad room h l p =
        let f = in-front p (omega (arith, room, bad-short number block h l)) in
        let b : bad number block ≡ bad number (refusal file (length before.area) (length before.text)).at = ap (λ (v : Verdict). bad number v.at) r.answers in
        record {
          answers = is_number;
          made = λ w. absurd (z w);
          kept = λ _ _. (same_area, f.0 ∙ ap length b, f.1 ∙ ap₂ over b same_text);
          silent = λ _ none. absurd (none (rw (← same_text) room));
        }

    pub bad-room : {after : List ℕ} {place : ℕ} → longest ≤ length text → number < 2 ^ 32 → block < 2 ^ 32 → Puts text 0 (bad number block) after place → place ≤ 26
    bad-room room h l p = omega (arith, (in-front p (omega (arith, room, bad-short number block h l))).0, bad-short number block h l)

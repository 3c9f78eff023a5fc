-- The theorems of a rescue: what a mended file is; that a file with nothing damaged comes out as it is; and that a mended file has nothing to mend.
use mathlib.Core.Path.{◌≡◌, refl, sym, ap, ◌∙◌}
use mathlib.Core.Bool.{Bool, true, false, cond, not, ◌&&◌, false≢true}
use mathlib.Core.List.{List, [], ◌∷◌, ◌++◌, append_assoc}
use mathlib.Core.Logic.{inl, inr}
use Prim.Native.Nat.{ℕ, zero, suc, ◌+◌, ◌*◌, ◌/◌, ◌%◌, ◌≤◌, ◌<◌}
use native.Mathlib.Omega.{arith}
use lib.Dec.{eqb, leb}
use lib.ListN.{length}
use borrow.Author.Tests.{eq-eqb, ne_eqb}
use Rattle.lists.specs.Table.{joined, every}
use Rattle.lists.proofs.Facts.{facts}
use Rattle.lists.proofs.Tables.{same-joined}
use Rattle.lists.proofs.Tests.{every-all}
use Rattle.plan.specs.Block.{block}
use Rattle.plan.specs.Fields.{peer_number, nobody, joins, sources_fit}
use Rattle.plan.specs.Refusals.{Test, test, accepts, first, join_tests, device_block, count_in, master_in, events_in, ports_of, peer_of, source_of, tests, verdict}
use Rattle.plan.specs.Refusals.{Verdict}
use Rattle.plan.proofs.Firsts.{AllPass, Stops, passes-or-stops, first-accepts, first_stops, stops-front, stops-back, all-front, all_back, all-joined}
use Rattle.plan.proofs.Good.{Good, good}
use Rattle.plan.proofs.Runs.{whole-file}
use Rattle.planfile.specs.Parts.{front_tests, of_device}
use Rattle.planfile.proofs.Marked.{first-behind}
use Rattle.mend.specs.Claims.{damaged, uncontested}
use Rattle.mend.specs.Mended.{rebuilt, mended}
use Rattle.mend.specs.Rescue.{longest, good_tests, claim_tests, result_tests, rescue_tests, refusal, rebuilt_lines, rescue_text}
use Rattle.mend.specs.Kept.{Router, Keeps}
use Rattle.mend.specs.Inner.Steps.{Fronted}
use Rattle.mend.proofs.Blocks.{mended-long, mended-header, mended-good, mended-rebuilt, mended-count}
use Rattle.mend.proofs.Passing.{Passed, all-passed, passes-before, result-decides}
use Rattle.mend.proofs.Rebuilt.{Claimant, by-nobody, by-port, claimant-of, rebuilt-row}
use Rattle.mend.proofs.Result.{fronted, reader-says}

-- a connection that is good points back
pub points-back : (ports : ℕ → ℕ) (peer : ℕ → ℕ → ℕ) (d p : ℕ) → joins ports peer d p ≡ true → (peer d p ≡ nobody → ⊥) → let q = peer d p in
    (q % 8 < ports (q / 8)) × (peer (q / 8) (q % 8) ≡ 8 * d + p) × (q ≡ 8 * d + p → ⊥)
unfolding joins
points-back ports peer d p e z =
    let q = peer d p in
    let f = simp facts at (rw (ne_eqb q nobody z) at e) in
    (f.0.0, f.0.1, λ s. other (eqb q (8 * d + p)) f.1 (eq-eqb q (8 * d + p) s))
  where
    other : (b : Bool) → not b ≡ true → b ≡ true → ⊥
    other true e f = false≢true e
    other false e f = false≢true f

-- ---- what a mended file is

module _ (file : List ℕ) (area text : ℕ) (e : (refusal file area text).number ≡ 0) where
  abbrev passed : Passed file area text
  passed = all-passed file area text e

  front : Fronted file
  front = fronted file passed.front

  pub mended-accepted : verdict (mended file) ≡ accepts
  mended-accepted = reader-says file passed.front passed.good ∙ first-accepts (result_tests file) passed.result

  right : Good (mended file)
  right = good (mended file) mended-accepted

  router : (d : ℕ) → d < count_in file → damaged file d ≡ true → Router file d (device_block (mended file) d)
  router d h z = rw (mended-rebuilt file front d h z) (rebuilt-row file front d h)

  pub keeps : Keeps file (mended file)
  keeps =
      record {
        accepted = mended-accepted;
        long = mended-long file front;
        header = mended-header file front;
        good = mended-good file front;
        rebuilt = router;
        links = links;
        no-others = no-others;
      }
    where
      links : (d p : ℕ) → d < count_in file → p < 8 → damaged file d ≡ false → (peer_of file d p ≡ nobody → ⊥) → let t = peer_of file d p in
          (peer_of (mended file) d p ≡ t) × (peer_of (mended file) (t / 8) (t % 8) ≡ 8 * d + p)
      links d p h l z there =
          let same : peer_of (mended file) d p ≡ peer_of file d p = ap (λ s. peer_number s p) (mended-good file front d h z) in
          let back = points-back (ports_of (mended file)) (peer_of (mended file)) d p (right.joined d (rw (mended-count file front) h) p l) (λ w. there (sym same ∙ w)) in
          (same, rw same at back.1)

      no-others : (d p : ℕ) → d < count_in file → p < 8 → damaged file d ≡ true → (peer_of (mended file) d p ≡ nobody → ⊥) → let q = peer_of (mended file) d p in
          (q / 8 < count_in file) × (damaged file (q / 8) ≡ false) × (peer_of file (q / 8) (q % 8) ≡ 8 * d + p)
      no-others d p h l z there = by-case (claimant-of file (8 * d + p) (omega (arith, front.few))) ((router d h z).peers p l)
        where
          by-case : {c : ℕ} → Claimant file (8 * d + p) c → peer_of (mended file) d p ≡ c → let q = peer_of (mended file) d p in
              (q / 8 < count_in file) × (damaged file (q / 8) ≡ false) × (peer_of file (q / 8) (q % 8) ≡ 8 * d + p)
          by-case (by-nobody g) w = absurd (there w)
          by-case (by-port k a b c) w = rw w (a, b, c)

-- ---- nothing is damaged

none-joined : {A : Type 0} (n : ℕ) (f : ℕ → List A) → ((d : ℕ) → d < n → f d ≡ []) → joined n f ≡ []
unfolding joined
none-joined zero f h = refl
none-joined (suc n) f h = rw (none-joined n f (λ d l. h d (omega arith)), h n (omega arith))

module _ (file : List ℕ) (whole : (d : ℕ) → d < count_in file → damaged file d ≡ false) where
  -- nothing is said
  pub nothing_said : rescue_text file ≡ []
  unfolding rescue_text
  nothing_said = none-joined (count_in file) (λ d. cond (damaged file d) (rebuilt_lines file d) []) (λ d l. rw (whole d l))

  -- it comes out as it is
  pub comes-out : Fronted file → mended file ≡ file
  unfolding mended
  comes-out front =
      ap (λ l. block file 0 ++ l) (same-joined (count_in file) (λ d. cond (damaged file d) (rebuilt file d) (device_block file d)) (device_block file) (λ d h. rw (whole d h)))
      ∙ sym (whole-file file (count_in file) front.long)

  all-good : good_tests file ≡ joined (count_in file) (of_device file)
  unfolding good_tests
  all-good = same-joined (count_in file) (λ d. cond (damaged file d) [] (of_device file d)) (of_device file) (λ d h. rw (whole d h))

  all-uncontested : AllPass (claim_tests file)
  unfolding claim_tests uncontested
  all-uncontested = all-joined (λ d. test 28 (1 + d) (uncontested file d) ∷ []) (count_in file) (λ d h. (rw (whole d h), tt))

  abbrev devices : List Test
  devices = joined (count_in file) (of_device file)

  abbrev connections : List Test
  connections = joined (count_in file) (join_tests (ports_of file) (peer_of file))

  abbrev sources : List Test
  sources = test 27 0 (sources_fit (events_in file) (source_of file) (count_in file)) ∷ []

  same-result : Fronted file → first (result_tests file) ≡ first (connections ++ sources)
  unfolding result_tests
  same-result front =
      let stays : every (count_in file) (λ d. not (damaged file d && eqb (master_in file) (d + 1))) ≡ true = every-all (count_in file) _ (λ d h. rw (whole d h)) in
      rw (comes-out front, stays) (first-behind (test 23 (master_in file) true ∷ []) (connections ++ sources) (refl, tt))

  -- and is refused as the reader refuses it
  module _ (area text : ℕ) (same : area ≡ length file) (room : longest ≤ text) where
    abbrev fits : List Test
    fits = test 3 0 (eqb area (length file) && leb longest text) ∷ []

    fit : AllPass fits
    fit = (simp facts (same, room), tt)

    -- where the blocks are refused, and where they are not
    by_blocks : {v : Verdict} → Stops (front_tests file ++ devices) v → refusal file area text ≡ verdict file
    unfolding refusal rescue_tests verdict tests front_tests
    by_blocks {v} s =
        let t : Stops (fits ++ front_tests file ++ good_tests file) v = rw all-good (stops-back fits fit s) in
        first_stops (stops-front (result_tests file) (stops-front (claim_tests file) t))
        ∙ sym (first_stops (stops-front sources (stops-front connections s)))

    by_result : AllPass (front_tests file ++ devices) → refusal file area text ≡ verdict file
    unfolding verdict tests front_tests
    by_result p =
        let front = all-front (front_tests file) devices p in
        result-decides file area text (passes-before file area text same room front (rw all-good (all_back (front_tests file) devices p)) all-uncontested)
        ∙ same-result (fronted file front)
        ∙ sym (ap first (append_assoc (front_tests file ++ devices) connections sources) ∙ first-behind (front_tests file ++ devices) (connections ++ sources) p)

    pub refused-alike : refusal file area text ≡ verdict file
    refused-alike = elim (passes-or-stops (front_tests file ++ devices)) [ inl p ↦ by_result p | inr s ↦ by_blocks s ]

-- ---- a mended file is rescued again

module _ (file : List ℕ) (area text : ℕ) (e : (refusal file area text).number ≡ 0) where
  nothing_left : (d : ℕ) → d < count_in (mended file) → damaged (mended file) d ≡ false
  unfolding damaged
  nothing_left d h = rw ((good (mended file) (mended-accepted file area text e)).device d h).check

  -- nothing is refused, nothing changes, and nothing is said
  pub rescued-again : (other : ℕ) → longest ≤ other → (refusal (mended file) (length (mended file)) other ≡ accepts) × (mended (mended file) ≡ mended file) × (rescue_text (mended file) ≡ [])
  rescued-again other room =
      let front : Fronted (mended file) = again in (
        refused-alike (mended file) nothing_left (length (mended file)) other refl room ∙ mended-accepted file area text e,
        comes-out (mended file) nothing_left front,
        nothing_said (mended file) nothing_left,
      )
    where
      again : Fronted (mended file)
      again =
          let f = fronted file (all-passed file area text e).front in
          record { few = rw (mended-count file f) f.few; long = rw (mended-count file f) (mended-long file f ∙ f.long) }

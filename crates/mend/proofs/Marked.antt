-- The marks of damaged blocks, what is taken of a block by its mark, and the scan that sets them.
use mathlib.Core.Path.{◌≡◌, refl, sym, ap, ◌∙◌}
use mathlib.Core.Bool.{Bool, true, false, cond, not, ◌&&◌}
use mathlib.Core.List.{List, [], ◌∷◌}
use Prim.Native.Nat.{ℕ, ◌+◌, ◌/◌, ◌%◌, ◌≤◌, ◌<◌}
use native.Mathlib.Omega.{arith}
use lib.Dec.{eqb, ltb}
use lib.ListN.{length, set}
use borrow.Author.Count.{below_more}
use borrow.Author.Tests.{ltb-true, lt-ltb, ne_eqb}
use Rattle.lists.proofs.Tables.{get_d-table, same-table}
use Rattle.lists.proofs.Tests.{same_truth}
use Rattle.lists.proofs.Facts.{facts}
use Rattle.lists.proofs.Filled.{Filled, filled_more, filled-all}
use Rattle.plan.specs.Fields.{nobody}
use Rattle.std.specs.Prelude.{Ok, Err}
use Rattle.answers.proofs.Refusals.{positive}
use Rattle.plan.specs.declared.Fault.{Fault}
use Rattle.plan.specs.Refusals.{Test, test, first, device_tests, device_block, count_in, master_in}
use Rattle.plan.proofs.Firsts.{AllPass, Stops, first_stops, first-accepts, accepts-all, all-joined, stops-joined}
use Rattle.planfile.specs.Parts.{of_device, refusal_in, peer_read}
use Rattle.planfile.proofs.Scans.{device-refusal, device-at, device-numbered, stops-there}
use Rattle.mend.specs.Claims.{damaged, pointed}
use Rattle.mend.specs.Rescue.{good_tests}
use Rattle.mend.specs.Inner.Steps.{Fronted, Scans, marks, marked_at, by_check}

-- ---- marks

-- a mark says that there is such a device, and that its block is damaged
pub marks-at : (file : List ℕ) (d : ℕ) → d < 32 → marked_at (marks file) d ≡ (ltb d (count_in file) && damaged file d)
unfolding marks
marks-at file d h = get_d-table 32 _ d false h

but-not : (a b : Bool) → (a && b) ≡ true → (a && not b) ≡ false
but-not true b e = ap not e
but-not false b e = refl

and-not : (a b : Bool) → (a && b) ≡ false → (a && not b) ≡ a
and-not true b e = ap not e
and-not false b e = refl

-- where a port leads, by the mark of its block
module _ {file : List ℕ} (front : Fronted file) {q : ℕ} (h : q < 256) where
  pub marked-leads : marked_at (marks file) (q / 8) ≡ true → nobody ≡ pointed file q
  unfolding pointed
  marked-leads z = simp (but-not (ltb (q / 8) (count_in file)) (damaged file (q / 8)) (sym (marks-at file (q / 8) (omega arith)) ∙ z))

  there : (ltb (q / 8 + 1) (length file / 512) && ltb (q % 8) 8) ≡ ltb (q / 8) (count_in file)
  there =
      let l = front.long in
      same_truth _ _ (λ z. let w = simp facts at z in lt-ltb (q / 8) (count_in file) (omega arith)) (λ z. let w : q / 8 < count_in file = ltb-true _ _ z in simp facts (omega arith, omega arith))

  pub unmarked-leads : marked_at (marks file) (q / 8) ≡ false → peer_read file (q / 8) (q % 8) ≡ pointed file q
  unfolding pointed peer_read
  unmarked-leads z = simp (there, and-not (ltb (q / 8) (count_in file)) (damaged file (q / 8)) (sym (marks-at file (q / 8) (omega arith)) ∙ z))

-- ---- the scan

-- the check is the first test of a block, and no other has its number
checked-first : (k : ℕ) (a b c d : Bool) → eqb (first (test 21 k a ∷ test 22 k b ∷ test 23 k c ∷ test 24 k d ∷ [])).number 21 ≡ not a
unfolding first
checked-first k false b c d = refl
checked-first k true false c d = refl
checked-first k true true false d = refl
checked-first k true true true false = refl
checked-first k true true true true = refl

-- the tests of a block, if it is good
abbrev good : List ℕ → ℕ → List Test
good file d = cond (damaged file d) [] (of_device file d)

-- the good ones of the first d of n blocks pass, and the damaged ones are marked
pub record Marked (file : List ℕ) (n d : ℕ) (found : List Bool) : Type 0 where
  pub counted : n ≡ count_in file
  pub filled : Filled 32 n false (damaged file) d found
  pub pass : (e : ℕ) → e < d → AllPass (good file e)

module _ {file : List ℕ} (front : Fronted file) {n d : ℕ} {found : List Bool} (v : Marked file n d found) where
  module _ (h : d < n) where
    said : refusal_in file (d + 1) ≡ (first (of_device file d)).number
    said = let l = front.long in let c = v.counted in device-refusal file d (omega arith)

    by-number : eqb (refusal_in file (d + 1)) 21 ≡ damaged file d
    unfolding device_tests damaged
    by-number = rw said (checked-first (1 + d) _ _ _ _)

    -- a refusal of a good block ends the scan
    pub stops-good : {f : Fault} → by_check d (refusal_in file (d + 1)) (Err f) → Scans file (Err f)
    unfolding good_tests
    stops-good {f} r =
        let some : refusal_in file (d + 1) ≡ 0 → ⊥ = λ z. omega (arith, positive f.refusal, r.0) in
        let whole : damaged file d ≡ false = sym by-number ∙ ne_eqb _ 21 r.1 in
        let stop : Stops (good file d) (record { number = refusal_in file (d + 1); at = d + 1 }) =
        rw whole (stops-there (refusal_in file (d + 1)) (device-at (count_in file) (master_in file) d (device_block file d)) said some) in
        record {
          answers =
              (λ i. record { number = sym r.0 i; at = r.2 i })
              ∙ sym (first_stops (stops-joined (good file) (count_in file) d v.pass stop (omega (arith, v.counted))));
          marked = tt;
        }

    passes : (b : Bool) → refusal_in file (d + 1) ≡ cond b 21 0 → damaged file d ≡ b → AllPass (good file d)
    passes true r p = rw p tt
    passes false r p = rw p (accepts-all (of_device file d) (device-numbered (count_in file) (master_in file) d (device_block file d)) (sym said ∙ r))

    told : (b : Bool) → eqb (cond b 21 0) 21 ≡ b
    told true = refl
    told false = refl

    -- a good block that passes, or a damaged one, does not
    pub marks-more : (b : Bool) → by_check d (refusal_in file (d + 1)) (Ok b) → Marked file n (d + 1) (set found d b)
    marks-more b r =
        let is : damaged file d ≡ b = sym by-number ∙ ap (λ k. eqb k 21) r ∙ told b in
        record {
          counted = v.counted;
          filled = filled_more v.filled h (sym is);
          pass = below_more _ _ v.pass (passes b r is);
        }

  pub marks-all : n ≤ d → Scans file (Ok found)
  unfolding good_tests marks
  marks-all h =
      record {
        answers = sym (first-accepts _ (all-joined (good file) (count_in file) (λ e l. v.pass e (omega (arith, v.counted)))));
        marked = rw (← v.counted) (filled-all v.filled h ∙ same-table 32 _ _ (λ e l. both-said (ltb e n) (damaged file e)));
      }
    where
      both-said : (a b : Bool) → cond a b false ≡ (a && b)
      both-said true b = refl
      both-said false b = refl

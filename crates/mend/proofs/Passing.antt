-- What it is that nothing is refused: each part of the tests is passed.
use mathlib.Core.Path.{◌≡◌}
use mathlib.Core.Bool.{Bool, true, false, cond, ◌&&◌}
use mathlib.Core.List.{List, [], ◌∷◌, ◌++◌}
use mathlib.Core.Logic.{inl, inr}
use Prim.Native.Nat.{ℕ, ◌≤◌, ◌<◌}
use native.Mathlib.Omega.{arith}
use lib.Dec.{eqb, leb}
use lib.ListN.{length}
use Rattle.lists.specs.Table.{joined}
use Rattle.lists.proofs.Facts.{facts}
use Rattle.plan.specs.Fields.{sources_fit}
use Rattle.plan.specs.Refusals.{Test, test, first, join_tests, device_block, count_in, master_in, events_in, source_of, ports_of, peer_of}
use Rattle.plan.proofs.Firsts.{AllPass, Numbered, passes-or-stops, all_append, all-front, all_back}
use Rattle.planfile.specs.Parts.{front_tests, of_device}
use Rattle.planfile.proofs.Marked.{Each, stops-each, each_append, each-joined, each-table, first-behind}
use Rattle.planfile.proofs.Scans.{front-numbered, device-numbered}
use Rattle.mend.specs.Claims.{damaged}
use Rattle.mend.specs.Mended.{mended}
use Rattle.mend.specs.Rescue.{longest, good_tests, claim_tests, result_tests, rescue_tests, refusal}

-- every test is refused with a number that is not 0, so 0 says that all are passed
abbrev Refusing : List Test → Type 0
Refusing = Each (λ k a. 0 < k)

numbered : (ts : List Test) → Numbered ts → Refusing ts
numbered [] p = tt
numbered (t ∷ ts) p = (omega (arith, p.0), numbered ts p.1)

none-refused : (ts : List Test) → Refusing ts → (first ts).number ≡ 0 → AllPass ts
none-refused ts r e = elim (passes-or-stops ts) [ inl p ↦ p | inr s ↦ absurd (omega (arith, stops-each (λ k a. 0 < k) r s)) ]

module _ (file : List ℕ) where
  good-refuse : Refusing (good_tests file)
  unfolding good_tests
  good-refuse = each-joined (λ k a. 0 < k) (λ d. cond (damaged file d) [] (of_device file d)) (λ d. by-test d (damaged file d)) (count_in file)
    where
      by-test : (d : ℕ) (b : Bool) → Refusing (cond b [] (of_device file d))
      by-test d true = tt
      by-test d false = numbered (of_device file d) (device-numbered (count_in file) (master_in file) d (device_block file d))

  pub good-passes : (first (good_tests file)).number ≡ 0 → AllPass (good_tests file)
  good-passes = none-refused (good_tests file) good-refuse

  claims-refuse : Refusing (claim_tests file)
  unfolding claim_tests
  claims-refuse = each-joined (λ k a. 0 < k) _ (λ d. (omega arith, tt)) (count_in file)

  result-refuse : Refusing (result_tests file)
  unfolding result_tests join_tests
  result-refuse =
      let joins : Refusing (joined (count_in file) (join_tests (ports_of (mended file)) (peer_of (mended file)))) =
      each-joined (λ k a. 0 < k) (join_tests (ports_of (mended file)) (peer_of (mended file))) (λ d. each-table (λ k a. 0 < k) 8 _ (λ p. omega arith)) (count_in file) in
      let sources : Refusing (test 27 0 (sources_fit (events_in file) (source_of (mended file)) (count_in file)) ∷ []) = (omega arith, tt) in
      (omega arith, each_append (λ k a. 0 < k) (joined (count_in file) (join_tests (ports_of (mended file)) (peer_of (mended file)))) _ joins sources)

  -- the parts
  pub record Passed (area text : ℕ) : Type 0 where
    pub same : area ≡ length file
    pub room : longest ≤ text
    pub front : AllPass (front_tests file)
    pub good : AllPass (good_tests file)
    pub claims : AllPass (claim_tests file)
    pub result : AllPass (result_tests file)

  module _ (area text : ℕ) where
    abbrev areas : List Test
    areas = test 3 0 (eqb area (length file) && leb longest text) ∷ []

    pub all-passed : (refusal file area text).number ≡ 0 → Passed area text
    unfolding refusal rescue_tests
    all-passed e =
        let p : AllPass (areas ++ front_tests file ++ good_tests file ++ claim_tests file ++ result_tests file) =
        none-refused _
        (each_append _ (areas ++ front_tests file ++ good_tests file ++ claim_tests file) (result_tests file)
        (each_append _ (areas ++ front_tests file ++ good_tests file) (claim_tests file)
        (each_append _ (areas ++ front_tests file) (good_tests file)
        (each_append _ areas (front_tests file) (omega arith, tt) (numbered (front_tests file) (front-numbered file))) good-refuse) claims-refuse) result-refuse) e in
        let q = all-front (areas ++ front_tests file ++ good_tests file ++ claim_tests file) (result_tests file) p in
        let r = all-front (areas ++ front_tests file ++ good_tests file) (claim_tests file) q in
        let s = all-front (areas ++ front_tests file) (good_tests file) r in
        let fit = simp facts at (all-front areas (front_tests file) s).0 in
        record {
          same = fit.0;
          room = fit.1;
          front = all_back areas (front_tests file) s;
          good = all_back (areas ++ front_tests file) (good_tests file) r;
          claims = all_back (areas ++ front_tests file ++ good_tests file) (claim_tests file) q;
          result = all_back (areas ++ front_tests file ++ good_tests file ++ claim_tests file) (result_tests file) p;
        }

    abbrev before : List Test
    before = areas ++ front_tests file ++ good_tests file ++ claim_tests file

    pub passes-before : area ≡ length file → longest ≤ text → AllPass (front_tests file) → AllPass (good_tests file) → AllPass (claim_tests file) → AllPass before
    passes-before e l f g c =
        all_append (areas ++ front_tests file ++ good_tests file) (claim_tests file)
        (all_append (areas ++ front_tests file) (good_tests file) (all_append areas (front_tests file) (simp facts (e, l), tt) f) g) c

    -- where all before them are passed, the tests of the result decide
    pub result-decides : AllPass before → refusal file area text ≡ first (result_tests file)
    unfolding refusal rescue_tests
    result-decides p = first-behind before (result_tests file) p

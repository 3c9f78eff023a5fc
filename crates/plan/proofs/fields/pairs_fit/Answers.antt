-- `plan::fields::pairs_fit` meets its contract. The invariant: `all` says whether the pairs so far fit. Assumes nothing.
use mathlib.Core.Path.{◌≡◌, refl, ap₂, ◌∙◌}
use mathlib.Core.Bool.{Bool, ◌&&◌, and-true, and-false}
use mathlib.Core.List.{List}
use Prim.Native.Nat.{ℕ, ◌+◌, ◌/◌}
use native.Mathlib.Numerals.{add-one}
use native.Mathlib.Omega.{arith}
use lib.ListN.{length, get_or, take, drop, length-take, length-drop}
use Rattle.std.proofs.lemmas.List.{take_all}
use Rattle.std.specs.Simd.{first_chunks}
use Rattle.lists.specs.Table.{every}
use Rattle.lists.proofs.Tests.{every-same}
use Rattle.plan.specs.Fields.{pair_fits}
use Rattle.plan.specs.Header.{pair_at}
use Rattle.plan.proofs.Loads.{pair-run}
use Rattle.plan.proofs.fields.pairs_fit.Invariants.{fits}
use Rattle.plan.proofs.fields.pairs_fit.Goals.{then-pair_fits, else-pair_fits}
use Rattle.plan.proofs.fields.pairs_fit.Goals as goal

-- a pair more
turn : (pairs : List (List ℕ)) (k : ℕ) {all one now : Bool} → all ≡ every k (fits pairs) → one ≡ fits pairs k → now ≡ (all && one) → now ≡ every (k + 1) (fits pairs)
unfolding every
turn pairs k e f g = rw add-one (g ∙ ap₂ (λ (a b : Bool). a && b) e f)

pub loop-pair-init : goal.loop-pair-init
unfolding every
loop-pair-init c = refl

pub loop-pair-preserved : goal.loop-pair-preserved
loop-pair-preserved c =
    let now : c.if-pair_fits.all ≡ (c.loop-pair.all && c.pair_fits.result) =
    elim c.if-pair_fits.branch [
      | then-pair_fits w ↦ simp (w.if-pair_fits.true, and-true) w.all-is
      | else-pair_fits w ↦ simp (w.if-pair_fits.false, and-false) (w.all-is ∙ w.if-pair_fits.false)
    ] in
    turn _ _ c.loop-pair.invariant c.pair_fits.ensures now

-- all of them, by where they stand
all-fit : (loads : List ℕ) (pairs : List (List ℕ)) (n : ℕ) {all : Bool} → length loads ≡ 66
    → pairs ≡ first_chunks 2 (length (take 64 (drop 2 loads)) / 2) (take 64 (drop 2 loads)) → n ≡ 32 → all ≡ every n (fits pairs)
    → all ≡ every 32 (λ k. pair_fits (get_or loads (pair_at k 1) 0) (get_or loads (pair_at k 0) 0))
all-fit loads pairs n long p e a =
    let whole : take 64 (drop 2 loads) ≡ drop 2 loads = take_all 64 (drop 2 loads) (omega (arith, length-drop 2 loads)) in
    let count : length (drop 2 loads) / 2 ≡ 32 = omega (arith, length-drop 2 loads) in
    let is : pairs ≡ first_chunks 2 32 (drop 2 loads) = rw (whole, count) at p in
    a ∙ rw (is, e) (every-same 32 (fits (first_chunks 2 32 (drop 2 loads))) _ (λ k h. ap₂ pair_fits (pair-run loads k 1 h (omega arith)) (pair-run loads k 0 h (omega arith))))

pub returns : goal.returns
returns c =
    let f = c.as_chunks.ensures in
    let long : length c.args.loads.now ≡ 66 = omega arith in
    let n : c.loop-pair.pair-index ≡ 32 = omega (arith, f.front_len, length-take 64 (drop 2 c.args.loads.now), length-drop 2 c.args.loads.now) in
    all-fit c.args.loads.now c.as_chunks.result.0.now _ long f.front n c.loop-pair.invariant

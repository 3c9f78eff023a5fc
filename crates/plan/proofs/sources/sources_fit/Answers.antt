-- `plan::sources::sources_fit` meets its contract. The loop's invariant: the devices before d fit, and what was seen of them shares events alone
-- with a mask exactly where each of theirs does. Assumes nothing.
use mathlib.Core.Path.{◌≡◌, sym, ap, ◌∙◌}
use mathlib.Core.Bool.{Bool, true, false}
use mathlib.Core.List.{List}
use Prim.Native.Nat.{ℕ, min, ◌<◌, ◌≤◌}
use native.Mathlib.Omega.{arith}
use lib.Bits.{bit_and}
use lib.ListN.{get_or, take}
use borrow.Author.Tests.{eq-eqb, ne_eqb}
use Rattle.std.specs.Ordering.{ord_min, nat_cmp}
use Rattle.std.proofs.lemmas.Bool.Decides.{nat_tests}
use Rattle.std.proofs.lemmas.List.{get_or-take, length-take}
use Rattle.plan.specs.Fields.{share_events, sources_fit}
use Rattle.plan.proofs.Shared.{sources-fewer, sources-same}
use Rattle.plan.proofs.sources.sources_fit.Invariants.{none, one-bad, one_more_lem}
use Rattle.plan.proofs.sources.sources_fit.Goals as goal

-- what the test says
differ : (events a b : ℕ) → (bit_and (bit_and a b) events ≡ bit_and a b → ⊥) → share_events events a b ≡ false
unfolding share_events
differ events a b n = ne_eqb _ _ n

agree : (events a b : ℕ) → bit_and (bit_and a b) events ≡ bit_and a b → share_events events a b ≡ true
unfolding share_events
agree events a b e = eq-eqb _ _ e

-- the first of the sources, and then all of them
all-of : (events n low : ℕ) (source : List ℕ) (r : Bool) → low ≡ min n 32 → sources_fit events (λ d. get_or (take low source) d 0) low ≡ r
    → r ≡ sources_fit events (λ d. get_or source d 0) (min n 32)
all-of events n low source r m e =
    sym e ∙ sources-same events low _ _ (λ d h. get_or-take low source d 0 h) ∙ ap (sources_fit events (λ d. get_or source d 0)) m

least : (n low : ℕ) → low ≡ ord_min nat_cmp n 32 → low ≡ min n 32
least n low e = grind (arith, nat_tests)

pub loop-mask-init : goal.loop-mask-init
loop-mask-init c = none _ _

pub returns-then-again-events : goal.returns-then-again-events
returns-then-again-events c =
    let a = c.args in
    let m = least a.n _ c.min.ensures in
    let d : c.loop-mask.mask-index < c.min.result = omega (arith, length-take c.min.result a.source) in
    all-of a.events a.n _ a.source false m (one-bad _ _ _ _ _ c.loop-mask.invariant (differ _ _ _ c.if-again-events.true) d)

pub loop-mask-preserved : goal.loop-mask-preserved
loop-mask-preserved c = one_more_lem _ _ _ _ c.loop-mask.invariant (agree _ _ _ c.if-again-events.false)

pub returns : goal.returns
returns c =
    let a = c.args in
    let m = least a.n _ c.min.ensures in
    let d : c.min.result ≤ c.loop-mask.mask-index = omega (arith, length-take c.min.result a.source) in
    all-of a.events a.n _ a.source true m (sources-fewer _ _ _ _ d c.loop-mask.invariant.fits)

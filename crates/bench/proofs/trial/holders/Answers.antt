use mathlib.Core.Path.{refl, ap, ◌∙◌}
use Prim.Native.Nat.{◌*◌}
use lib.ListN.{get_or}
use native.Mathlib.Omega.{arith}
use Rattle.bits.proofs.Sets.{bit-two}
use Rattle.state.specs.State.{word}
use Rattle.bench.specs.Trials.{holders}
use Rattle.bench.proofs.Tried.{holders-few, holders-more}
use Rattle.bench.proofs.trial.holders.Goals as goal

pub loop-d-init : goal.loop-d-init
unfolding holders
loop-d-init c = (omega arith, refl)

pub overflow_add-held : goal.overflow_add-held
overflow_add-held c =
    let l = c.loop-d in
    let a = c.args in
    omega (arith, l.invariant.1, holders-few l.d a.k a.state.now, c.get-held.ensures, bit-two (get_or a.state.now (33 * l.d) 0) a.k)

pub loop-d-preserved : goal.loop-d-preserved
unfolding word
loop-d-preserved c =
    let l = c.loop-d in
    (omega arith, holders-more l.d _ _ l.invariant.1 c.get-held.ensures)

pub returns : goal.returns
returns c = c.loop-d.invariant.1 ∙ ap (λ n. holders n c.args.k c.args.state.now) (omega arith)

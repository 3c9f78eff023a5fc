use mathlib.Core.Path.{◌≡◌, refl, sym, ap, ◌∙◌}
use mathlib.Core.Logic.{inl, inr}
use Prim.Native.Nat.{◌+◌, ◌*◌}
use native.Mathlib.Omega.{arith}
use Rattle.lists.proofs.Loops.{none, turn, done}
use Rattle.state.specs.Queue.{queue_time, queue_time_all}
use Rattle.state.proofs.Queues.{turned}
use Rattle.state.proofs.Times.{timed-in}
use Rattle.state.proofs.port.queue_time.Goals as goal
use Rattle.state.proofs.port.queue_time.Goals.{then-index-but, else-index-but}

pub loop-p-init : goal.loop-p-init
loop-p-init c = none

pub loop-p-preserved : goal.loop-p-preserved
loop-p-preserved c =
    let is : c.index.result ≡ c.unwrap-port.result = c.index.ensures.equal in
    let place : c.unwrap-port.result ≡ 8 * c.in-Some.device + c.loop-p.p = rw c.unwrap-port.ensures at c.port.ensures.number in
    turn c.loop-p.invariant (omega arith)
    (turned (λ q port s. queue_time c.args.v port s) is (place ∙ ap (λ d. 8 * d + c.loop-p.p) c.in-Some.ensures.number)
    (elim c.if-index-but.branch [ then-index-but w ↦ inl (w.if-index-but.true, w.words-is ∙ w.wait_time.ensures) | else-index-but w ↦ inr (w.if-index-but.false, w.words-is) ]))

pub returns : goal.returns
unfolding queue_time_all
returns c =
    let area = c.in-Some-as_mut_array.ensures.cases in
    rw area.same at (done c.loop-p.invariant c.loop-p-test.false) ∙ sym (timed-in _ _ _ _ area.long (c.in-Some.ensures.there.0 refl))

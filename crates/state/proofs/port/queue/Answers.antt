use mathlib.Core.Path.{◌≡◌, ap, ◌∙◌}
use mathlib.Core.Logic.{inl, inr}
use Prim.Native.Nat.{◌+◌, ◌*◌}
use native.Mathlib.Omega.{arith}
use lib.ListN.{get_or}
use Rattle.device.specs.Kinds.{kind_of}
use Rattle.lists.proofs.Loops.{none, turn}
use Rattle.state.specs.Queue.{queue_at}
use Rattle.state.proofs.Queues.{turned}
use Rattle.state.proofs.port.queue.Goals as goal
use Rattle.state.proofs.port.queue.Goals.{then-q-but, else-q-but}

pub loop-p-init : goal.loop-p-init
loop-p-init c = none

pub loop-p-preserved : goal.loop-p-preserved
loop-p-preserved c =
    let a = c.args in
    let is : c.index-q.result ≡ c.unwrap-port.result = c.index-q.ensures.equal in
    let place : c.unwrap-port.result ≡ 8 * c.in-Some.device + c.loop-p.p = rw c.unwrap-port.ensures at c.port.ensures.number in
    turn c.loop-p.invariant (omega arith)
    (turned (λ q port s. queue_at (get_or a.permissions.now q 0) (kind_of a.kind) a.k port s) is (place ∙ ap (λ d. 8 * d + c.loop-p.p) c.in-Some.ensures.number)
    (elim c.if-q-but.branch [ then-q-but w ↦ inl (w.if-q-but.true, w.state-is ∙ w.queue_port.ensures) | else-q-but w ↦ inr (w.if-q-but.false, w.state-is) ]))

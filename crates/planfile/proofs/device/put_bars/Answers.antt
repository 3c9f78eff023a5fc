-- `planfile::device::put_bars` meets its contract. The invariant: the first j masks are put. Assumes nothing.
use native.Mathlib.Omega.{arith}
use Rattle.planfile.proofs.Entered.{none, turn, done}
use Rattle.planfile.proofs.device.put_bars.Goals as goal

pub loop-j-init : goal.loop-j-init
loop-j-init c = none

pub loop-j-preserved : goal.loop-j-preserved
loop-j-preserved c = turn c.loop-j.invariant (omega arith) c.put.ensures

pub returns : goal.returns
returns c = rw c.index-d.ensures.equal at (done c.loop-j.invariant (omega arith))

-- `planfile::device::put_entries` meets its contract. The invariant: the entries of the first p ports are put. Assumes nothing.
use native.Mathlib.Omega.{arith}
use Rattle.planfile.proofs.Entered.{none, turn, done}
use Rattle.planfile.proofs.device.put_entries.Goals as goal

pub loop-p-init : goal.loop-p-init
loop-p-init c = none

pub loop-p-preserved : goal.loop-p-preserved
loop-p-preserved c = turn c.loop-p.invariant (omega arith) c.put_entry.ensures

pub returns : goal.returns
returns c = rw c.index-d.ensures.equal at (done c.loop-p.invariant (omega arith))

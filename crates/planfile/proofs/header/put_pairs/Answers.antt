-- `planfile::header::put_pairs` meets its contract. The invariant: the first k pairs are put. Assumes nothing.
use native.Mathlib.Omega.{arith}
use Rattle.planfile.proofs.Entered.{none, turn, done}
use Rattle.planfile.proofs.header.put_pairs.Goals as goal

pub loop-k-init : goal.loop-k-init
loop-k-init c = none

pub loop-k-preserved : goal.loop-k-preserved
loop-k-preserved c = turn c.loop-k.invariant (omega arith) c.put_pair.ensures

pub returns : goal.returns
returns c = done c.loop-k.invariant (omega arith)

-- `planfile::header::loads` meets its contract. The invariant: the common loads and the first k pairs stand where they have to. Assumes nothing.
use Prim.Native.Nat.{◌+◌, ◌-◌, ◌*◌}
use Rattle.lists.proofs.Filled.{Filled}
use Rattle.plan.specs.Header.{header_in}
use Rattle.plan.specs.Inner.Memory.{at}
use Rattle.planfile.proofs.header.loads.Given as goal

abbrev pub invariant-loop-k : goal.invariant-loop-k
invariant-loop-k l = Filled 66 66 0 (at (header_in l.block).loads) (2 + 2 * l.k) l.out

abbrev pub decreases-loop-k : goal.decreases-loop-k
decreases-loop-k l = 32 - l.k

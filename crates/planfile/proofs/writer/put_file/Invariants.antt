use Prim.Native.Nat.{◌-◌}
use Rattle.planfile.proofs.WrittenBlocks.{Blocks}
use Rattle.planfile.proofs.writer.put_file.Given as goal

abbrev pub invariant-loop-d : goal.invariant-loop-d
invariant-loop-d l = Blocks l.plan.core l.plan.peers l.plan.barred l.area l.d

abbrev pub decreases-loop-d : goal.decreases-loop-d
decreases-loop-d l = l.plan.core.devices - l.d

use Prim.Native.Nat.{◌-◌}
use Rattle.mend.specs.Inner.Steps.{peers_in}
use Rattle.mend.proofs.Over.{Over}
use Rattle.mend.proofs.routers.put_blocks.Given as goal

abbrev pub invariant-loop-d : goal.invariant-loop-d
invariant-loop-d l = Over (peers_in l.claimants) l.damaged l.initial.area l.n l.d l.area

abbrev pub decreases-loop-d : goal.decreases-loop-d
decreases-loop-d l = l.n - l.d

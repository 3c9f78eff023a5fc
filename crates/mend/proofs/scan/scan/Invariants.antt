use Prim.Native.Nat.{◌-◌}
use Rattle.mend.proofs.Marked.{Marked}
use Rattle.mend.proofs.scan.scan.Given as goal

abbrev pub invariant-loop-d : goal.invariant-loop-d
invariant-loop-d l = Marked l.file l.n l.d l.damaged

abbrev pub decreases-loop-d : goal.decreases-loop-d
decreases-loop-d l = l.n - l.d

use Prim.Native.Nat.{◌-◌}
use lib.ListN.{length, get_or}
use Rattle.areas.proofs.Written.{Written}
use Rattle.areas.proofs.copy.Given as goal

abbrev pub invariant-loop-i : goal.invariant-loop-i
invariant-loop-i l = Written (length l.src) (λ k. get_or l.src k 0) l.dst l.i

abbrev pub decreases-loop-i : goal.decreases-loop-i
decreases-loop-i l = length l.src - l.i

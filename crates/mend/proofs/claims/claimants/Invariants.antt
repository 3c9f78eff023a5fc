use Prim.Native.Nat.{◌-◌}
use Rattle.mend.proofs.Claimed.{Claimed}
use Rattle.mend.proofs.claims.claimants.Given as goal

abbrev pub invariant-loop-q : goal.invariant-loop-q
invariant-loop-q l = Claimed l.pointed l.q l.out

abbrev pub decreases-loop-q : goal.decreases-loop-q
decreases-loop-q l = 256 - l.q

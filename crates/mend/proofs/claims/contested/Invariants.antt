use Prim.Native.Nat.{◌-◌}
use Rattle.mend.specs.Inner.Steps.{peers_in, contest}
use Rattle.mend.proofs.Claimed.{Lowest}
use Rattle.mend.proofs.claims.contested.Given as goal

abbrev pub invariant-loop-q : goal.invariant-loop-q
invariant-loop-q l = Lowest (contest l.pointed (peers_in l.claimants) l.damaged) l.q l.low

abbrev pub decreases-loop-q : goal.decreases-loop-q
decreases-loop-q l = 256 - l.q

-- `planfile::header::put_pairs` meets its contract. The invariant: the first k pairs are put. Assumes nothing.
use Prim.Native.Nat.{◌-◌}
use Rattle.plan.specs.Inner.File.{pair_holdings}
use Rattle.planfile.proofs.Entered.{Entered}
use Rattle.planfile.proofs.header.put_pairs.Given as goal

abbrev pub invariant-loop-k : goal.invariant-loop-k
invariant-loop-k l = Entered 32 (pair_holdings l.loads) l.initial.block l.block l.k

abbrev pub decreases-loop-k : goal.decreases-loop-k
decreases-loop-k l = 32 - l.k

use Prim.Native.Nat.{◌-◌, ◌≤◌}
use lib.ListN.{length}
use Rattle.bench.specs.Inner.Idle.{Copies}
use Rattle.bench.proofs.rounds.copy.Given as goal

abbrev pub invariant-loop-i : goal.invariant-loop-i
invariant-loop-i l = (l.from ≤ l.i) × (l.i ≤ l.to) × (l.to ≤ length l.old) × (l.to ≤ length l.initial.next) × Copies l.from l.i l.old l.initial.next l.next

abbrev pub decreases-loop-i : goal.decreases-loop-i
decreases-loop-i l = l.to - l.i

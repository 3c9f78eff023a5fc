-- `calls::empty` meets its contract. The invariant: the ports before port p are emptied, and all else is as it was. Assumes nothing.
use mathlib.Core.Path.{◌≡◌}
use Prim.Native.Nat.{◌-◌, ◌≤◌}
use lib.ListN.{length}
use Rattle.state.specs.State.{words}
use Rattle.calls.proofs.Zeros.{Emptied}
use Rattle.calls.proofs.empty.Given as goal

abbrev pub invariant-loop-p : goal.invariant-loop-p
invariant-loop-p l = (l.p ≤ 8) × (length l.initial.state ≡ words) × Emptied l.d l.p l.initial.state l.state

abbrev pub decreases-loop-p : goal.decreases-loop-p
decreases-loop-p l = 8 - l.p

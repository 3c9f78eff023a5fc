-- `state::write_first` meets its contract. The invariant: the ports before port q are written, in an area that is 0 otherwise. Assumes nothing.
use Prim.Native.Nat.{◌-◌, ◌≤◌}
use Rattle.state.proofs.Written.{Begun}
use Rattle.state.proofs.first.write_first.Given as goal

abbrev pub invariant-loop-q : goal.invariant-loop-q
invariant-loop-q l = (l.q ≤ 256) × Begun l.peers l.q l.state

abbrev pub decreases-loop-q : goal.decreases-loop-q
decreases-loop-q l = 256 - l.q

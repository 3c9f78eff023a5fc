-- `bench::settling::quiet` meets its contract. The invariant: nothing waits at the ports before port q. Assumes nothing.
use mathlib.Core.Path.{◌≡◌}
use Prim.Native.Nat.{ℕ, ◌-◌, ◌*◌, ◌<◌, ◌≤◌}
use Rattle.bench.proofs.SettlingLoop.{Still}
use Rattle.bench.proofs.settling.quiet.Given as goal

abbrev pub invariant-loop-q : goal.invariant-loop-q
invariant-loop-q l = (l.q ≤ l.q-end) × (l.q-end ≡ 8 * l.n) × ((j : ℕ) → j < l.q → Still l.state j)

abbrev pub decreases-loop-q : goal.decreases-loop-q
decreases-loop-q l = l.q-end - l.q

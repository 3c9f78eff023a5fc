-- `planfile::device::put_entries` meets its contract. The invariant: the entries of the first p ports are put. Assumes nothing.
use mathlib.Core.List.{List}
use Prim.Native.Nat.{ℕ, ◌+◌, ◌-◌, ◌*◌}
use Rattle.plan.specs.Inner.File.{Holding, entry_holdings}
use Rattle.plan.specs.Inner.Memory.{at, peer_at}
use Rattle.planfile.proofs.Entered.{Entered}
use Rattle.planfile.proofs.device.put_entries.Given as goal

-- what is put for port p
abbrev pub entry_of : ℕ → List ℕ → List (List ℕ) → ℕ → List Holding
entry_of d permissions peers p = entry_holdings p (peer_at peers d p) (at permissions (8 * d + p))

abbrev pub invariant-loop-p : goal.invariant-loop-p
invariant-loop-p l = Entered 8 (entry_of l.d l.permissions l.peers) l.initial.block l.block l.p

abbrev pub decreases-loop-p : goal.decreases-loop-p
decreases-loop-p l = 8 - l.p

-- `plan::joins::bad_block` meets its contract. The outer invariant: the connections of the devices before d point back; the inner one:
-- those of the ports before p do. Assumes nothing.
use mathlib.Core.Path.{◌≡◌}
use mathlib.Core.Bool.{true}
use mathlib.Core.List.{[]}
use Prim.Native.Nat.{ℕ, ◌-◌, ◌<◌, ◌≤◌}
use lib.ListN.{get_or}
use Rattle.plan.specs.Fields.{joins}
use Rattle.plan.proofs.Connections.{Passed}
use Rattle.plan.proofs.joins.bad_block.Given as goal

abbrev pub invariant-loop-p : goal.invariant-loop-p
invariant-loop-p l = (l.p ≤ 8) × ((j : ℕ) → j < l.p → joins (λ e. get_or l.ports e 0) (λ e q. get_or (get_or l.peers e []) q 0) l.d j ≡ true)

abbrev pub decreases-loop-p : goal.decreases-loop-p
decreases-loop-p l = 8 - l.p

abbrev pub invariant-loop-d : goal.invariant-loop-d
invariant-loop-d l = (l.d ≤ 32) × Passed (λ e. get_or l.ports e 0) (λ e q. get_or (get_or l.peers e []) q 0) l.d

abbrev pub decreases-loop-d : goal.decreases-loop-d
decreases-loop-d l = 32 - l.d

abbrev pub invariant-search : goal.invariant-search
invariant-search l = Unit {0}

abbrev pub decreases-search : goal.decreases-search
decreases-search l = 0

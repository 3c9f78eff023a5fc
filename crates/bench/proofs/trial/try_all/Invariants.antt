use Rattle.std.proofs.Common.{◌≡◌, ◌-◌, ◌≤◌}
use Rattle.lists.specs.Table.{table}
use Rattle.state.specs.State.{words}
use Rattle.bench.proofs.Tried.{Found}
use Rattle.bench.proofs.trial.try_all.Given as goal

-- the invariant: what is found of the places before i stands in the table
abbrev pub invariant-loop-i : goal.invariant-loop-i
invariant-loop-i l =
    record { within : l.i ≤ 1024; so_far : Found l.plan l.i l.found; cleared : l.second ≡ table words (λ _. 0) }

abbrev pub decreases-loop-i : goal.decreases-loop-i
decreases-loop-i l = 1024 - l.i

use Prim.Native.Nat.{◌-◌, ◌*◌, ◌≤◌}
use Rattle.report.specs.Inner.Pieces.{PutsLines}
use Rattle.report.proofs.lines.put_lines.Given as goal

-- the lines of the places before i are put
abbrev pub invariant-loop-i : goal.invariant-loop-i
invariant-loop-i l =
    record { within : l.i ≤ 32 * l.plan.core.devices; put : PutsLines l.plan l.i l.initial.page l.page }

abbrev pub decreases-loop-i : goal.decreases-loop-i
decreases-loop-i l = 32 * l.plan.core.devices - l.i

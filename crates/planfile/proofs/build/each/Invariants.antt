use Rattle.planfile.proofs.Made.{Made}
use Rattle.planfile.proofs.build.each.Given as goal

abbrev pub invariant-loop-i : goal.invariant-loop-i
invariant-loop-i g l = Made g.row.N l.fn.none (goal.F-post g l.of) l.i l.out

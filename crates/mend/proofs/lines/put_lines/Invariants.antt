use Prim.Native.Nat.{◌-◌}
use Rattle.text.proofs.Within.{Lined}
use Rattle.mend.specs.Inner.Steps.{peers_in, lines_in, longest_router}
use Rattle.mend.proofs.lines.put_lines.Given as goal

abbrev pub invariant-loop-d : goal.invariant-loop-d
invariant-loop-d l = Lined (lines_in (peers_in l.claimants) l.damaged) longest_router 32 l.initial.page l.d l.page

abbrev pub decreases-loop-d : goal.decreases-loop-d
decreases-loop-d l = 32 - l.d

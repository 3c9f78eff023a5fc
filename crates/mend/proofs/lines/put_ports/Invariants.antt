use Prim.Native.Nat.{◌-◌}
use Rattle.text.proofs.Within.{Lined}
use Rattle.mend.specs.Inner.Steps.{peers_in, restored_lines, longest_line}
use Rattle.mend.proofs.lines.put_ports.Given as goal

abbrev pub invariant-loop-p : goal.invariant-loop-p
invariant-loop-p l = Lined (restored_lines (peers_in l.claimants) l.d) longest_line 8 l.initial.page l.p l.page

abbrev pub decreases-loop-p : goal.decreases-loop-p
decreases-loop-p l = 8 - l.p

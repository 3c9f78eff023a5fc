use lib.ListN.{length, take}
use Rattle.text.proofs.Within.{Lined}
use Rattle.reasons.specs.Inner.Pieces.{joints, longest_crossing}
use Rattle.reasons.proofs.lines.put_crossings.Given as goal

abbrev pub invariant-loop-q : goal.invariant-loop-q
invariant-loop-q l = Lined (λ i. joints l.peers (take i l.ports)) longest_crossing (length l.ports) l.initial.page l.q-index l.page

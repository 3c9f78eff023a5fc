use Rattle.text.proofs.Within.{Lined}
use Rattle.reasons.specs.Inner.Pieces.{outwards, longest_outward}
use Rattle.reasons.proofs.lines.put_outwards.Given as goal

abbrev pub invariant-loop-q : goal.invariant-loop-q
invariant-loop-q l = Lined (λ q. outwards q l.causes) longest_outward 256 l.initial.page l.q l.page

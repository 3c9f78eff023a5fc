use Rattle.text.proofs.Reading.{ReadTo}
use Rattle.text.proofs.reads.read_number.Given as goal

abbrev pub invariant-loop-b : goal.invariant-loop-b
invariant-loop-b l = ReadTo l.digits l.v l.b-index

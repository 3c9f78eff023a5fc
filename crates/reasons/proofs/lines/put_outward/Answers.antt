use native.Mathlib.Omega.{arith}
use Rattle.text.specs.Text.{ascii}
use Rattle.ways.specs.Cut.{number_of}
use Rattle.reasons.proofs.Parts.{port-put, outward-some, cause-some}
use Rattle.text.proofs.Within.{same_word, both, within}
use Rattle.reasons.proofs.lines.put_outward.Goals as goal

pub returns : goal.returns
unfolding ascii
returns c =
    let room = c.requires.1 in
    let place = port-put c.args.q (ascii " ") c.requires.0 (omega (arith, room)) c.then.ensures c.then-2.ensures in
    let front = both place 16 (omega (arith, room)) (same_word (within c.called.ensures.1 c.word.ensures) c.called.ensures.0) in
    same_word (both front 1 (omega (arith, room)) (within (omega arith) c.word-2.ensures)) (outward-some c.args.q (number_of c.args.cause) (cause-some c.args.cause))

use Rattle.text.specs.Text.{ascii}
use Rattle.text.proofs.Pages.{three-parts}
use Rattle.text.proofs.Parts.{third-room}
use Rattle.report.proofs.Parts.{front-parts}
use Rattle.report.proofs.lines.put_front.Goals as goal

pub put_field-requires : goal.put_field-requires
unfolding ascii
put_field-requires c =
    let a = c.args in
    third-room (front-parts a.line.device a.line.identifier a.line.number a.line.rounds) c.then.ensures.puts c.requires c.then-2.ensures.puts

pub returns : goal.returns
unfolding ascii
returns c =
    let a = c.args in
    three-parts (front-parts a.line.device a.line.identifier a.line.number a.line.rounds) c.then.ensures c.requires c.then-2.ensures c.put_field.ensures

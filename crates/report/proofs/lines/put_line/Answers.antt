use Rattle.text.specs.Text.{ascii}
use Rattle.text.proofs.Pages.{three-parts}
use Rattle.text.proofs.Parts.{first-room}
use Rattle.report.proofs.Parts.{line-parts}
use Rattle.report.proofs.lines.put_line.Goals as goal

pub put_front-requires : goal.put_front-requires
unfolding ascii
put_front-requires c =
    let a = c.args in
    first-room (line-parts a.line.device a.line.identifier a.line.number a.line.rounds a.line.held) a.page.now.area.now a.page.now.at c.requires

pub returns : goal.returns
unfolding ascii
returns c =
    let a = c.args in
    three-parts (line-parts a.line.device a.line.identifier a.line.number a.line.rounds a.line.held) c.put_front.ensures c.requires c.word.ensures c.then.ensures

use Rattle.text.specs.Text.{ascii}
use Rattle.text.proofs.Pages.{then}
use Rattle.report.proofs.Parts.{field-settled, field-waiting, field-refused}
use Rattle.report.proofs.lines.put_field.Goals as goal

pub returns-then-number-eq0 : goal.returns-then-number-eq0
returns-then-number-eq0 c = rw (field-settled _ _ c.if-number-eq0.true) c.number.ensures

pub returns-then-number-eq12 : goal.returns-then-number-eq12
unfolding ascii
returns-then-number-eq12 c = rw (field-waiting _ _ c.if-number-eq12.true) c.word.ensures

pub returns : goal.returns
unfolding ascii
returns c =
    let e = field-refused _ c.args.n c.if-number-eq0.false c.if-number-eq12.false in
    rw e (then c.word-2.ensures (rw e at c.requires) c.number-2.ensures)

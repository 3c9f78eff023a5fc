use Rattle.report.proofs.Texts.{not-refused}
use Rattle.settle.proofs.make.Goals as goal

pub returns : goal.returns
returns c = rw c.unwrap.ensures at (not-refused c.report.ensures c.requires)

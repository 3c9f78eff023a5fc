use borrow.Author.Rules.{rules}
use Rattle.door.proofs.Own.{settles-own}
use Rattle.door.proofs.settle.Goals as goal

pub returns : goal.returns
returns c = settles-own _ _ (search rules) c.settle.ensures

-- `calls::wipe` meets its contract: the part that was filled. Assumes nothing.
use borrow.Author.Rules.{rules}
use Rattle.calls.proofs.Zeros.{zeros-filled}
use Rattle.calls.proofs.wipe.Goals as goal

pub returns : goal.returns
returns c = zeros-filled _ _ _ _ (search rules) (search rules)

-- `calls::any_sends` meets its contract: it asks each port. Assumes nothing.
use mathlib.Core.Path.{refl}
use borrow.Author.Tests.{tests}
use Rattle.std.proofs.Common.{rules}
use Rattle.calls.proofs.Asking.{some-asked}
use Rattle.calls.proofs.any_sends.Goals as goal

pub returns : goal.returns
returns c = some-asked 8 _ _ _ _ c.any.ensures.ran refl (λ x q k. search (rules, tests)) (λ x q k. search (rules, tests))

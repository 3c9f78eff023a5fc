-- `plan::held::ports_right` meets its contract: it asks each port. Assumes nothing.
use mathlib.Core.Path.{refl}
use Rattle.std.proofs.Common.{rules}
use borrow.Author.Tests.{tests}
use Rattle.plan.proofs.Ranges.{every-asked}
use Rattle.plan.proofs.held.ports_right.Goals as goal

pub returns : goal.returns
returns c = every-asked 8 _ _ _ _ c.all.ensures.ran refl (λ x b q k. search (rules, tests))

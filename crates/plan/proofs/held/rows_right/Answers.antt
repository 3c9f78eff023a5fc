-- `plan::held::rows_right` meets its contract: it asks each device. Assumes nothing.
use mathlib.Core.Path.{refl}
use Rattle.std.proofs.Common.{rules}
use borrow.Author.Tests.{tests}
use Rattle.plan.specs.Inner.Memory.{row_right}
use Rattle.plan.proofs.Ranges.{every-asked}
use Rattle.plan.proofs.held.rows_right.Goals as goal

pub returns : goal.returns
unfolding row_right
returns c = every-asked 32 _ _ _ _ c.all.ensures.ran refl (λ x b q k. search (rules, tests))

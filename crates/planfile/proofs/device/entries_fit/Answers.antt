use mathlib.Core.Path.{refl}
use Rattle.std.proofs.Common.{rules}
use borrow.Author.Tests.{tests}
use Rattle.plan.proofs.Ranges.{every-asked}
use Rattle.planfile.proofs.device.entries_fit.Goals as goal

pub returns : goal.returns
returns c = every-asked 8 _ _ _ _ c.all.ensures.ran refl (λ x b q k. search (rules, tests))

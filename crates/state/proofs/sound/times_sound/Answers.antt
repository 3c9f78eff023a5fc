-- `state::times_sound` meets its contract: it asks each port. Assumes nothing.
use mathlib.Core.Path.{refl}
use Rattle.std.proofs.Common.{rules}
use borrow.Author.Tests.{tests}
use Rattle.plan.proofs.Ranges.{every-asked}
use Rattle.state.specs.Inner.Tests.{times_sound}
use Rattle.state.proofs.sound.times_sound.Goals as goal

pub returns : goal.returns
unfolding times_sound
returns c = every-asked 256 _ _ _ _ c.all.ensures.ran refl (λ x b q k. search (rules, tests))

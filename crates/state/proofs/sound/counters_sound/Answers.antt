-- `state::counters_sound` meets its contract: it asks each device. Assumes nothing.
use mathlib.Core.Path.{refl}
use Rattle.std.proofs.Common.{rules}
use borrow.Author.Tests.{tests}
use Rattle.plan.proofs.Ranges.{every-asked}
use Rattle.state.specs.Inner.Tests.{counters_sound}
use Rattle.state.proofs.sound.counters_sound.Goals as goal

pub returns : goal.returns
unfolding counters_sound
returns c = every-asked 32 _ _ _ _ c.all.ensures.ran refl (λ x b q k. search (rules, tests))

use mathlib.Core.Path.{sym}
use Rattle.bits.specs.Set.{size}
use Rattle.bits.proofs.Sets.{size-ones}
use Rattle.bits.proofs.count.Goals as goal

pub returns : goal.returns
unfolding size
returns c = sym (size-ones 32 c.args.x c.ranges.x.fits)

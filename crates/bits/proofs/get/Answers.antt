use mathlib.Core.Path.{sym}
use Rattle.bits.proofs.Sets.{bit_is, bit-above}
use Rattle.bits.proofs.get.Goals as goal

pub returns-then-k-gt31 : goal.returns-then-k-gt31
returns-then-k-gt31 c = sym (bit-above 32 c.args.x c.args.k c.ranges.x.fits c.if-k-gt31.true)

pub returns : goal.returns
returns c = sym (bit_is c.args.x c.args.k)

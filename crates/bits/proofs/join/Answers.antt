use mathlib.Core.Path.{sym}
use Prim.Native.Nat.{◌<◌}
use native.Mathlib.Omega.{arith}
use Rattle.bits.proofs.Sets.{one_shl, join_is, join-none}
use Rattle.bits.proofs.join.Goals as goal

pub returns-then-k-gt31 : goal.returns-then-k-gt31
returns-then-k-gt31 c = sym (join-none c.args.x c.args.k c.if-k-gt31.true)

pub returns : goal.returns
returns c = let l : c.args.k < 32 = omega arith in rw (one_shl c.args.k l) (sym (join_is c.args.x c.args.k l))

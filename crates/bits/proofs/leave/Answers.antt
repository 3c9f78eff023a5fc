use mathlib.Core.Path.{sym}
use Prim.Native.Nat.{◌<◌}
use native.Mathlib.Omega.{arith}
use Rattle.bits.proofs.Sets.{one_shl, leave-is, leave_none}
use Rattle.bits.proofs.leave.Goals as goal

pub returns-then-k-gt31 : goal.returns-then-k-gt31
returns-then-k-gt31 c = sym (leave_none c.args.x c.args.k c.if-k-gt31.true)

pub returns : goal.returns
returns c = let l : c.args.k < 32 = omega arith in rw (one_shl c.args.k l) (sym (leave-is c.args.x c.args.k l))

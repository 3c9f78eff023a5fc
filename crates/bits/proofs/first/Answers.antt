use mathlib.Core.Path.{ap, ◌∙◌}
use Prim.Native.Nat.{ℕ}
use native.Mathlib.Omega.{arith}
use Rattle.bits.specs.Set.{bit}
use Rattle.bits.specs.First.{Finds}
use Rattle.bits.proofs.Sets.{bit-zero}
use Rattle.bits.proofs.Firsts.{upper, lower}
use Rattle.bits.proofs.first.Goals as goal

pub returns-then-x-eq0 : goal.returns-then-x-eq0
unfolding Finds
returns-then-x-eq0 c = λ k h. ap (λ (y : ℕ). bit y k) c.if-x-eq0.true ∙ bit-zero k

pub overflow_add-result : goal.overflow_add-result
overflow_add-result c = omega (arith, (upper c.args.x c.args.next c.ranges.x.fits c.if-upper-gt0.true).place)

pub returns-then-upper-gt0 : goal.returns-then-upper-gt0
unfolding Finds
returns-then-upper-gt0 c = upper c.args.x c.args.next c.ranges.x.fits c.if-upper-gt0.true

pub returns : goal.returns
unfolding Finds
returns c = lower c.args.x c.args.next c.ranges.x.fits (omega arith) c.if-upper-gt0.false

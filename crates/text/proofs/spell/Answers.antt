use native.Mathlib.Omega.{arith}
use Rattle.text.proofs.Decimal.{decimal-some}
use Rattle.text.proofs.spell.Invariants.{done, turn}
use Rattle.text.proofs.spell.Goals as goal

pub overflow_sub-i : goal.overflow_sub-i
overflow_sub-i c = omega (arith, decimal-some c.loop-rest.rest)

pub bounds-area-i : goal.bounds-area-i
bounds-area-i c = omega (arith, decimal-some c.loop-rest.rest)

pub loop-rest-preserved : goal.loop-rest-preserved
loop-rest-preserved c = turn c.loop-rest.invariant c.digit.result c.digit.ensures c.loop-rest-test.true

pub overflow_sub-i-2 : goal.overflow_sub-i-2
overflow_sub-i-2 c = omega (arith, decimal-some c.loop-rest.rest)

pub bounds-area-i-2 : goal.bounds-area-i-2
bounds-area-i-2 c = omega (arith, decimal-some c.loop-rest.rest)

pub returns : goal.returns
returns c = done c.loop-rest.invariant c.digit-2.result c.digit-2.ensures c.loop-rest-test.false

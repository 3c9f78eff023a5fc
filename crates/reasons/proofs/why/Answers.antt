use mathlib.Core.Path.{refl}
use native.Mathlib.Omega.{arith}
use Rattle.std.proofs.Common.{rules}
use Rattle.reasons.proofs.Texts.{tells, small}
use Rattle.reasons.proofs.why.Goals as goal

pub overflow_cast-result : goal.overflow_cast-result
overflow_cast-result c = omega (arith, small refl c.if-text-lt-LONGEST.false c.put_why.ensures)

pub returns : goal.returns
returns c = tells refl c.if-text-lt-LONGEST.false c.put_why.ensures (search rules)

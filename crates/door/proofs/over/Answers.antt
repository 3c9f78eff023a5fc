use mathlib.Core.Path.{refl}
use borrow.Author.Rules.{rules}
use Rattle.door.proofs.Told.{held, said, wrong}
use Rattle.door.proofs.over.Goals as goal

pub returns-in-Ok-clause-accepted : goal.returns-in-Ok-clause-accepted
returns-in-Ok-clause-accepted g c z = rw (← (held _ _ c.in-Ok.ensures).1) (search rules)

pub returns-in-Ok-clause-refused : goal.returns-in-Ok-clause-refused
returns-in-Ok-clause-refused g c n = absurd (n (held _ _ c.in-Ok.ensures).0)

pub returns-in-Err-clause-accepted : goal.returns-in-Err-clause-accepted
returns-in-Err-clause-accepted g c z = absurd (wrong _ _ c.in-Err.ensures.0 z)

pub returns-in-Err-clause-refused : goal.returns-in-Err-clause-refused
returns-in-Err-clause-refused g c n = (said _ _ c.in-Err.ensures.0, refl)

use mathlib.Core.Path.{◌∙◌}
use Rattle.reasons.proofs.Words.{begun-whole}
use Rattle.reasons.proofs.given.take.Goals as goal

pub returns-in-None : goal.returns-in-None
returns-in-None c = rw c.in-None.is (c.begin.ensures ∙ begun-whole _ _ c.told-state)

-- `plan::held::is_held` meets its contract: the code computes `right`, which is true exactly of held plans. Assumes nothing.
use mathlib.Core.Path.{sym, ◌∙◌}
use Rattle.plan.proofs.BothWays.{right-held, held-right}
use Rattle.plan.proofs.Owned.{owned}
use Rattle.plan.proofs.held.is_held.Goals as goal

pub returns : goal.returns
returns c =
    let p = c.args.plan in
    let is = c.is_right.ensures in
    record { only = λ f. right-held p (owned p _ c.well_formed.0) (sym is ∙ f); all = λ h. is ∙ held-right p h }

-- `calls::reset` meets its contract: a refusal changes nothing, and else four steps, one after the other. Assumes nothing.
use mathlib.Core.Path.{refl, ap, ◌∙◌}
use Rattle.answers.proofs.Outcomes.{outcome-done}
use Rattle.std.proofs.option.Match.{if_some}
use Rattle.calls.specs.Inner.Steps.{emptied, untimed, uncounted}
use Rattle.calls.proofs.Zeros.{reset-steps}
use Rattle.calls.proofs.reset.Goals as goal

pub returns : goal.returns
returns c =
    let words = if_some _ _ _ c.unwrap-words.ensures c.as_mut_array.ensures.cases in
    outcome-done c.in_ok-d.ensures.asked refl
    (rw (c.in_ok-d.ensures.number, words.same) at
    (c.uncount.ensures
    ∙ ap (uncounted _)
    (c.unclock.ensures ∙ ap (untimed _) (c.empty.ensures ∙ ap (emptied _) c.clear.ensures))
    ∙ reset-steps _ _))

-- `calls::link` meets its contract: a refusal changes nothing, and else the link is switched. Assumes nothing.
use mathlib.Core.Path.{refl, sym, ap, ◌∙◌}
use Rattle.answers.proofs.Outcomes.{outcome-done}
use Rattle.std.proofs.option.Match.{if_some}
use Rattle.state.specs.Network.{peer}
use Rattle.calls.proofs.link.Goals as goal

pub returns : goal.returns
returns c =
    let words = if_some _ _ _ c.unwrap-words.ensures c.as_mut_array.ensures.cases in
    let ends = c.in_ok-ends.ensures.numbers in
    outcome-done c.in_ok-ends.ensures.asked refl
    (rw (ends.0, words.same) at (c.switch.ensures c.args.plan (ends.1 ∙ sym (ap (peer c.args.plan) ends.0))))

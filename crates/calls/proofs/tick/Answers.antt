-- `calls::tick` meets its contract: a refusal changes nothing, and else the counter goes on. Assumes nothing.
use mathlib.Core.Path.{refl}
use Rattle.answers.proofs.Outcomes.{outcome-done}
use Rattle.std.proofs.option.Match.{if_some}
use Rattle.calls.proofs.tick.Goals as goal

pub returns : goal.returns
returns c =
    let words = if_some _ _ _ c.unwrap-words.ensures c.as_mut_array.ensures.cases in
    outcome-done c.in_ok-master.ensures.asked refl (rw (c.in_ok-master.ensures.number, words.same) at c.advance.ensures)

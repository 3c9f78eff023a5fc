-- `state::start` meets its contract: it is done where nothing was refused. Assumes nothing.
use mathlib.Core.Path.{refl}
use mathlib.Core.Logic.{inr}
use Rattle.answers.proofs.Outcomes.{outcome-done}
use Rattle.state.proofs.first.start.Goals as goal

pub returns : goal.returns
returns c =
    let held = c.is_held.ensures.only c.if-not-is_held.false in
    outcome-done (inr (held, inr (c.in-Some.ensures.cases.long, refl))) refl c.write_first.ensures

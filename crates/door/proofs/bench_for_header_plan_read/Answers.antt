use mathlib.Core.Path.{ap, ◌∙◌}
use Rattle.plan.specs.Refusals.{Verdict}
use Rattle.door.proofs.Told.{verdict-loaded}
use Rattle.door.proofs.bench_for_header_plan_read.Goals as goal

pub returns : goal.returns
returns c =
    let says = c.number_and_block.ensures ∙ verdict-loaded _ _ _ _ c.load.ensures in
    (ap (λ (v : Verdict). v.number) says, ap (λ (v : Verdict). v.at) says)

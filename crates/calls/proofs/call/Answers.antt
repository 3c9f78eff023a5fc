-- `calls::call` meets its contract: a refusal changes nothing, and else the code is marked and queued. Assumes nothing.
use mathlib.Core.Path.{refl, ◌∙◌}
use Rattle.answers.proofs.Outcomes.{outcome-done}
use Rattle.device.proofs.Numbers.{kind-small}
use Rattle.std.proofs.option.Match.{if_some}
use Rattle.calls.proofs.Asked.{call-ready, called-in}
use Rattle.calls.proofs.call.Goals as goal

pub returns : goal.returns
returns c =
    let words = if_some _ _ _ c.unwrap-words.ensures c.as_mut_array.ensures.cases in
    let r = call-ready _ _ _ _ _ c.in_ok-call_refusal.ensures refl in
    outcome-done c.in_ok-call_refusal.ensures refl
    (rw words.same at (c.mark_and_queue.ensures c.args.plan.now.peers c.args.plan.now.barred) ∙ called-in _ _ _ _ _ r.0 r.1 r.2 (kind-small c.args.kind))

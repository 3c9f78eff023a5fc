use Rattle.std.proofs.Common.{refl, ◌∙◌, arith}
use Rattle.plan.proofs.BothWays.{held-devices}
use Rattle.calls.proofs.Asked.{called-in}
use Rattle.bench.proofs.Tried.{is-begun, is-absent, is-foreign, is-refused, is-small, is-sound, is-settled, is-waiting, ends-second, comes-refused, not-done}
use Rattle.bench.proofs.trial.attempt.Goals as goal

pub returns-then-plan-d : goal.returns-then-plan-d
returns-then-plan-d c = (is-absent _ c.requires.0 _ _ c.if-plan-d.true, c.requires.1)

pub returns-in_err-own_refusal : goal.returns-in_err-own_refusal
returns-in_err-own_refusal c =
    (comes-refused _ _ c.from_residual.ensures.1 (is-foreign _ c.requires.0 _ _ c.if-plan-d.false _ c.in_err-own_refusal.ensures), c.requires.1)

pub returns-in_err-send_refusal : goal.returns-in_err-send_refusal
returns-in_err-send_refusal c =
    let p = c.requires in
    let fresh = is-begun _ _ c.told-state c.begin.ensures in
    (comes-refused _ _ c.from_residual-in_err-send_refusal.ensures.1 (is-refused _ p.0 _ _ c.if-plan-d.false c.in_ok-own_refusal.ensures fresh _ (rw c.number.ensures at c.in_err-send_refusal.ensures)), p.1)

pub run-settled-requires : goal.run-settled-requires
run-settled-requires c =
    let p = c.requires in
    let there = c.if-plan-d.false in
    let own = c.in_ok-own_refusal.ensures in
    let fresh = is-begun _ _ c.told-state c.begin.ensures in
    let taken = c.mark_and_queue.ensures _ _ ∙ called-in _ _ _ _ _ (c.begin.auto.state ∙ c.told-state) p.2 (is-small _ p.0 _ _ there own) (omega arith) in
    (p.0, is-sound _ p.0 _ _ there own fresh (rw c.number.ensures at c.in_ok-send_refusal.ensures) taken, p.1, omega arith)

pub holders-held-requires : goal.holders-held-requires
holders-held-requires c = (held-devices _ c.requires.0).1

pub returns-in-Ok : goal.returns-in-Ok
returns-in-Ok c =
    let p = c.requires in
    let there = c.if-plan-d.false in
    let own = c.in_ok-own_refusal.ensures in
    let fresh = is-begun _ _ c.told-state c.begin.ensures in
    let taken = c.mark_and_queue.ensures _ _ ∙ called-in _ _ _ _ _ (c.begin.auto.state ∙ c.told-state) p.2 (is-small _ p.0 _ _ there own) (omega arith) in
    (is-settled _ p.0 _ _ there own fresh (rw c.number.ensures at c.in_ok-send_refusal.ensures) taken c.holders-held.ensures c.in-Ok.ensures refl, ends-second c.in-Ok.ensures)

pub returns-in-Err : goal.returns-in-Err
returns-in-Err c =
    let p = c.requires in
    let there = c.if-plan-d.false in
    let own = c.in_ok-own_refusal.ensures in
    let fresh = is-begun _ _ c.told-state c.begin.ensures in
    let taken = c.mark_and_queue.ensures _ _ ∙ called-in _ _ _ _ _ (c.begin.auto.state ∙ c.told-state) p.2 (is-small _ p.0 _ _ there own) (omega arith) in
    (is-waiting _ p.0 _ _ there own fresh (rw c.number.ensures at c.in_ok-send_refusal.ensures) taken c.holders-held.ensures c.in-Err.ensures (not-done _), ends-second c.in-Err.ensures)

-- `ways::crossings` meets its contract: the numbers of the layers are those of crossings. Assumes nothing.
use Rattle.ways.proofs.Counted.{walked, all-crossings}
use Rattle.ways.proofs.Answered.{ready, by-state, by-question, answer-refused, answer-done}
use Rattle.ways.proofs.crossings.Goals as goal

pub returns-in_err-refusal : goal.returns-in_err-refusal
returns-in_err-refusal c =
    answer-refused _ _ _ _ _ _ _ _ _ _ c.from_residual.ensures.1 (by-state _ _ _ _ _ 32 _ c.in_err-refusal.field-0.0 c.in_err-refusal.ensures)

pub returns-in_err-question_refusal : goal.returns-in_err-question_refusal
returns-in_err-question_refusal c =
    let some = c.in-Some.ensures.cases in
    rw some.same
    (answer-refused _ _ _ _ _ _ _ _ _ _ c.from_residual-in_err-question_refusal.ensures.1
    (by-question _ _ _ _ _ _ _ c.in_ok-refusal.ensures some.long c.in_err-question_refusal.ensures))

pub unwrap-requires : goal.unwrap-requires
unwrap-requires c = c.new.ensures.there.1 (ready _ _ _ _ _ c.in_ok-refusal.ensures c.in_ok-question_refusal.ensures).source-small

pub returns : goal.returns
returns c =
    let r = ready _ _ _ _ _ c.in_ok-refusal.ensures c.in_ok-question_refusal.ensures in
    answer-done _ _ _ _ _ _ _ _ _ _ (by-question _ _ _ _ _ _ _ c.in_ok-refusal.ensures c.in-Some.ensures.cases.long c.in_ok-question_refusal.ensures)
    (all-crossings _ r.held _ _ _ r.source r.sound.size _
    (walked _ r.held _ _ _ r.source r.sound _ _ c.ahead_all.ensures (rw (rw c.unwrap.ensures at c.new.ensures.number) at c.walk.ensures)) _ c.greatest.ensures)

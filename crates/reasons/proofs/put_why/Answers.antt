use mathlib.Core.Path.{refl}
use native.Mathlib.Omega.{arith}
use Rattle.text.specs.Text.{ascii}
use Rattle.answers.proofs.Refusals.{positive}
use Rattle.planfile.proofs.WasRead.{plan-held}
use Rattle.reasons.proofs.Texts.{writes-bad, writes-refusal, writes-answer}
use Rattle.reasons.proofs.put_why.Goals as goal

pub returns-in-Err : goal.returns-in-Err
returns-in-Err c = let p = positive c.in-Err.fault.refusal in writes-bad c.in-Err.ensures (λ z. omega arith) (omega arith) (omega arith) (rw c.from.ensures at c.bad.ensures)

pub put_answer-requires : goal.put_answer-requires
put_answer-requires c = (plan-held _ c.in-Ok.ensures refl (λ i. omega (arith, c.type_inv.file i)), c.requires)

pub returns-in_default : goal.returns-in_default
returns-in_default c = let x = c.in_default.ensures in writes-answer c.in-Ok.ensures refl x.0 x.1

pub returns-in-Err-put_answer : goal.returns-in-Err-put_answer
unfolding ascii
returns-in-Err-put_answer c = let x = c.in-Err-put_answer.ensures in let p = positive c.in-Err-put_answer.refusal in writes-refusal c.in-Ok.ensures refl x.0 (λ z. omega arith) (omega arith) (rw (c.from-in-Err-put_answer.ensures, x.1) at c.headed.ensures)

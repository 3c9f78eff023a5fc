-- `mend::print` meets its contract: what was rescued, or the refusal. Assumes nothing.
use native.Mathlib.Omega.{arith}
use Rattle.answers.proofs.Refusals.{positive}
use Rattle.std.proofs.Common.{rules}
use Rattle.mend.proofs.Ends.{bad-room, prints-bad}
use Rattle.mend.proofs.print.Goals as goal

pub overflow_cast-result : goal.overflow_cast-result
overflow_cast-result c =
    omega (arith, bad-room c.in-Err.ensures (λ z. omega (arith, positive c.in-Err.fault.refusal, z)) (omega arith) (omega arith) (search rules) (rw c.from.ensures at c.put_bad.ensures))

pub returns-in-Err-2 : goal.returns-in-Err-2
returns-in-Err-2 c =
    prints-bad c.in-Err.ensures (λ z. omega (arith, positive c.in-Err.fault.refusal, z)) (omega arith) (omega arith) (search rules) (rw c.from.ensures at c.put_bad.ensures)

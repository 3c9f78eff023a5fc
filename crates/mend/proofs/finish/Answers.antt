-- `mend::finish` meets its contract: what the reader refuses is no result, and all else is put into the areas. Assumes nothing.
use mathlib.Core.Path.{refl}
use native.Mathlib.Omega.{arith}
use Rattle.answers.proofs.Refusals.{positive}
use Rattle.std.proofs.lemmas.Result.{err_from_is_err_and}
use Rattle.std.proofs.Common.{rules}
use Rattle.text.proofs.Within.{in-area}
use Rattle.mend.proofs.Ends.{ends-refused, ends-done, ends-small}
use Rattle.mend.proofs.finish.Goals as goal

pub returns-in_err-read : goal.returns-in_err-read
returns-in_err-read c =
    let p = err_from_is_err_and c.from_residual.result c.from_residual.ensures.1 in
    rw (p.1, p.2) (ends-refused c.in_err-read.ensures (λ z. omega (arith, positive c.in_err-read.field-0.0.refusal, z)))

pub put_lines-requires : goal.put_lines-requires
put_lines-requires c = c.requires.1

pub overflow_cast-result : goal.overflow_cast-result
overflow_cast-result c = omega (arith, ends-small (in-area c.put_lines.ensures) c.requires.1)

pub returns : goal.returns
returns c = ends-done c.in_ok-read.ensures refl c.copy_from_slice.ensures.after (in-area c.put_lines.ensures) (search rules)

use mathlib.Core.Path.{sym}
use native.Mathlib.Omega.{arith}
use Rattle.calls.proofs.Asked.{called-not}
use Rattle.calls.proofs.take.Goals as goal

pub returns-in_default : goal.returns-in_default
returns-in_default c peers barred = sym (called-not _ _ _ _ _ (λ long h l g. omega (arith, c.in_default.ensures)))

pub returns-in_default-as_mut_array : goal.returns-in_default-as_mut_array
returns-in_default-as_mut_array c peers barred = sym (called-not _ _ _ _ _ (λ long h l g. c.in_default-as_mut_array.ensures.cases long))

pub returns : goal.returns
returns c peers barred = rw (c.in-Ok.ensures, c.in-Some.ensures.cases.same) at (c.mark_and_queue.ensures peers barred)

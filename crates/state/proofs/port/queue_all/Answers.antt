use mathlib.Core.Path.{sym}
use native.Mathlib.Omega.{arith}
use Rattle.state.proofs.Queues.{queued-not}
use Rattle.state.proofs.port.queue_all.Goals as goal

pub returns-in_default : goal.returns-in_default
returns-in_default c = sym (queued-not _ _ _ _ _ _ (λ e h g. omega (arith, c.in_default.ensures)))

pub returns-in_default-as_mut_array : goal.returns-in_default-as_mut_array
returns-in_default-as_mut_array c = sym (queued-not _ _ _ _ _ _ (λ e h g. c.in_default-as_mut_array.ensures.cases e))

-- `calls::advance` meets its contract: the counter is stored, and the Time-Code queued. Assumes nothing.
use mathlib.Core.Path.{◌≡◌, ◌∙◌}
use Prim.Native.Nat.{ℕ, ◌<◌}
use lib.ListN.{length}
use native.Mathlib.Omega.{arith}
use borrow.Author.Rules.{rules}
use Rattle.device.specs.Reaction.{next_time}
use Rattle.plan.specs.Fields.{nobody}
use Rattle.state.specs.State.{State, words, word, put, counter_at, counter}
use Rattle.state.specs.Queue.{queue_time_in}
use Rattle.state.proofs.Words.{length-put}
use Rattle.state.proofs.Times.{timed-in}
use Rattle.calls.specs.Calls.{advanced}
use Rattle.calls.proofs.advance.Goals as goal

-- what was stored and queued
is-advanced : (d v : ℕ) (s t : State) → length s ≡ words → d < 32 → v ≡ next_time (counter s d) → t ≡ queue_time_in v d nobody (put s (counter_at d) v) → t ≡ advanced d s
unfolding advanced
is-advanced d v s t long h e q = q ∙ timed-in v d nobody (put s (counter_at d) v) (length-put s (counter_at d) v ∙ long) h ∙ rw e

pub returns : goal.returns
unfolding word put
returns c = rw c.index-d.ensures.equal at (is-advanced _ _ _ _ (search rules) (omega arith) c.next_time-v.ensures c.queue_time.ensures)

use mathlib.Core.Path.{refl, sym, ap, ◌∙◌}
use mathlib.Core.Bool.{false≢true}
use native.Mathlib.Omega.{arith}
use borrow.Author.Rules.{rules}
use Rattle.device.proofs.Numbers.{kind-small}
use Rattle.state.specs.Queue.{queue_all_at}
use Rattle.state.proofs.Queues.{queued-in}
use Rattle.calls.specs.Calls.{called}
use Rattle.calls.proofs.Asked.{called-in, called-not}
use Rattle.calls.proofs.mark_and_queue.Goals as goal

pub returns-in_default : goal.returns-in_default
returns-in_default c peers barred = sym (called-not _ _ _ _ _ (λ long h l g. false≢true (c.in_default.ensures.there.1 h)))

pub returns-then-k-gt31 : goal.returns-then-k-gt31
returns-then-k-gt31 c peers barred = sym (called-not _ _ _ _ _ (λ long h l g. omega arith))

pub returns : goal.returns
unfolding called
returns c peers barred =
    let known = c.in-Some.ensures in
    let small = known.there.0 refl in
    let marked = rw known.number at (c.mark.ensures peers barred) in
    c.queue.ensures
    ∙ queued-in _ _ _ _ _ _ (search rules) small (kind-small c.args.kind)
    ∙ ap (queue_all_at _ _ _ _ _) marked
    ∙ sym (called-in _ _ _ _ _ (search rules) small (omega arith) (kind-small c.args.kind))

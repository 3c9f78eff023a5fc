use native.Mathlib.Omega.{arith}
use Rattle.state.specs.State.{word, put}
use Rattle.bench.proofs.Following.{silent, noted}
use Rattle.bench.proofs.Stepped.{fall-idle, fall-on, fall_ends, fall-tells}
use Rattle.bench.proofs.rounds.fall_one.Goals as goal

pub returns-then-left-eq0 : goal.returns-then-left-eq0
unfolding word
returns-then-left-eq0 c =
    let d = c.index-home.ensures.equal in
    silent (λ l. fall-idle _ _ _ _ l (rw d at c.if-left-eq0.true))

pub returns-then-left-ne1 : goal.returns-then-left-ne1
unfolding word put
returns-then-left-ne1 c =
    let d = c.index-home.ensures.equal in
    rw d (silent (λ l. fall-on _ _ _ _ l (rw d at c.if-left-eq0.false) (rw d at c.if-left-ne1.true)))

pub returns-then-router : goal.returns-then-router
unfolding word put
returns-then-router c =
    let d = c.index-home.ensures.equal in
    rw d (silent (λ l. fall_ends _ _ _ _ l c.leave.result (rw d at c.if-left-ne1.false) (rw d at c.leave.ensures) c.if-router.true))

pub returns : goal.returns
unfolding word put
returns c =
    let d = c.index-home.ensures.equal in
    noted (λ l. rw d (fall-tells _ _ _ _ l c.leave.result (rw d at c.if-left-ne1.false) (rw d at c.leave.ensures) c.if-router.false)) (omega arith) c.tell.ensures

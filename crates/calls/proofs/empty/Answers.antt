-- `calls::empty` meets its contract. The invariant: the ports before port p are emptied, and all else is as it was. Assumes nothing.
use mathlib.Core.Path.{◌≡◌}
use native.Mathlib.Omega.{arith}
use borrow.Author.Rules.{rules}
use Rattle.state.specs.State.{put}
use Rattle.calls.proofs.Zeros.{emptied-none, emptied-more, is-emptied}
use Rattle.calls.proofs.empty.Goals as goal

pub loop-p-init : goal.loop-p-init
loop-p-init c = (omega arith, search rules, emptied-none)

pub loop-p-preserved : goal.loop-p-preserved
unfolding put
loop-p-preserved c =
    let v = c.loop-p.invariant in (omega arith, v.1, emptied-more v.2 v.1 (omega arith) (omega arith))

pub returns : goal.returns
returns c =
    let e : c.loop-p.p ≡ 8 = omega arith in
    let v = c.loop-p.invariant in
    rw c.index-d.ensures.equal at (is-emptied _ _ v.1 (omega arith) (rw e at v.2))

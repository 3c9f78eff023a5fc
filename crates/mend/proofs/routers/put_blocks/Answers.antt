use native.Mathlib.Omega.{arith}
use borrow.Author.Rules.{rules}
use Rattle.mend.proofs.Over.{over_none, over-more, over-all}
use Rattle.mend.proofs.routers.put_blocks.Goals as goal

pub loop-d-init : goal.loop-d-init
loop-d-init c = over_none (omega arith)

pub put_block-requires : goal.put_block-requires
put_block-requires c = let d = rw c.unwrap.ensures at c.new.ensures.number in omega arith

pub loop-d-preserved : goal.loop-d-preserved
loop-d-preserved c =
    let d = rw c.unwrap.ensures at c.new.ensures.number in
    over-more c.loop-d.invariant c.loop-d-test.true (omega arith) c.core-core.ensures c.peers-peers.ensures (rw d at c.put_block.ensures)
    (search rules)

pub returns : goal.returns
returns c = over-all c.loop-d.invariant c.loop-d-test.false

-- `plan::joins::bad_block` meets its contract. The outer invariant: the connections of the devices before d point back; the inner one:
-- those of the ports before p do. Assumes nothing.
use mathlib.Core.Path.{sym, ◌∙◌}
use native.Mathlib.Omega.{arith}
use borrow.Author.Count.{below_none, below_more}
use Rattle.plan.proofs.Connections.{passed-next, block_none, block-bad}
use Rattle.plan.proofs.joins.bad_block.Goals as goal

pub search-init : goal.search-init
search-init c = tt

pub loop-d-init : goal.loop-d-init
loop-d-init c = (omega arith, below_none _)

pub loop-p-init : goal.loop-p-init
loop-p-init c = (omega arith, below_none _)

pub loop-p-smaller : goal.loop-p-smaller
loop-p-smaller c = omega arith

pub loop-p-preserved : goal.loop-p-preserved
loop-p-preserved c = (omega arith, below_more _ _ c.loop-p.invariant.1 (sym c.joins.ensures ∙ c.if-not-joins.false))

pub loop-d-smaller : goal.loop-d-smaller
loop-d-smaller c = omega arith

pub loop-d-preserved : goal.loop-d-preserved
loop-d-preserved c = (omega arith, passed-next _ _ _ c.loop-d.invariant.1 (λ p l. c.loop-p.invariant.1 p (omega arith)))

pub returns-then-n-d : goal.returns-then-n-d
returns-then-n-d c = block_none _ _ _ _ c.loop-d.invariant.1 (omega arith)

pub returns-then-not-joins : goal.returns-then-not-joins
returns-then-not-joins c =
    let passed = c.loop-d.invariant.1 in
    let before = c.loop-p.invariant.1 in
    block-bad _ _ _ _ _ passed (omega arith) before (omega arith) (sym c.joins.ensures ∙ c.if-not-joins.true)

pub returns-after-loop-d : goal.returns-after-loop-d
returns-after-loop-d c = block_none _ _ _ _ c.loop-d.invariant.1 (omega arith)

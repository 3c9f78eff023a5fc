-- `mend::claims::pointed_at` meets its contract: what is taken of a block by its mark. Assumes nothing.
use mathlib.Core.Path.{◌∙◌}
use Rattle.mend.proofs.Marked.{marked-leads, unmarked-leads}
use Rattle.mend.proofs.claims.pointed_at.Goals as goal

pub returns-then-damaged-q : goal.returns-then-damaged-q
returns-then-damaged-q c =
    let p = c.args.blocks.now.fronted in
    let q = c.index-q.ensures in
    marked-leads p (rw q.equal at q.below) (rw (c.requires, q.equal) at c.if-damaged-q.true)

pub returns : goal.returns
returns c =
    let p = c.args.blocks.now.fronted in
    let q = c.index-q.ensures in
    rw q.equal at (c.peer_at.ensures ∙ unmarked-leads p q.below (rw c.requires at c.if-damaged-q.false))

-- `mend::scan::scan` meets its contract. The invariant: the good blocks of the devices before d pass, and the damaged ones are marked. Assumes nothing.
use native.Mathlib.Omega.{arith}
use Rattle.std.proofs.lemmas.Result.{err_from_is_err_and}
use Rattle.lists.proofs.Filled.{filled_none}
use Rattle.mend.proofs.Marked.{stops-good, marks-more, marks-all}
use Rattle.mend.proofs.scan.scan.Goals as goal

pub loop-d-init : goal.loop-d-init
loop-d-init c =
    let p = c.args.blocks.now.fronted in
    let few = p.few in
    let long = p.long in
    record { counted = omega arith; filled = filled_none (omega arith); pass = λ e h. absurd (omega arith) }

pub returns-in_err-damaged : goal.returns-in_err-damaged
returns-in_err-damaged c =
    let d = rw c.unwrap.ensures at c.new.ensures.number in
    let p = err_from_is_err_and c.from_residual.result c.from_residual.ensures.1 in
    rw (p.1, p.2) (stops-good c.args.blocks.now.fronted c.loop-d.invariant c.loop-d-test.true (rw d at c.in_err-damaged.ensures))

pub loop-d-preserved : goal.loop-d-preserved
loop-d-preserved c =
    let d = rw c.unwrap.ensures at c.new.ensures.number in
    marks-more c.args.blocks.now.fronted c.loop-d.invariant c.loop-d-test.true _ (rw d at c.in_ok-damaged.ensures)

pub returns : goal.returns
returns c = marks-all c.args.blocks.now.fronted c.loop-d.invariant c.loop-d-test.false

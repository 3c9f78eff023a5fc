use native.Mathlib.Omega.{arith}
use Rattle.text.proofs.Within.{lined-none, lined-room, lined-more, lined-all}
use Rattle.mend.proofs.Texts.{none_in, one_in}
use Rattle.mend.proofs.lines.put_lines.Goals as goal

pub loop-d-init : goal.loop-d-init
loop-d-init c = lined-none (none_in _ _)

pub put_router-requires : goal.put_router-requires
put_router-requires c =
    lined-room c.loop-d.invariant (omega arith) (omega (arith, c.requires))

pub loop-d-preserved : goal.loop-d-preserved
loop-d-preserved c =
    let d = rw c.unwrap.ensures at c.new.ensures.number in
    lined-more c.loop-d.invariant (omega arith) (omega (arith, c.requires)) (one_in _ _ _) (rw d at c.put_router.ensures)

pub returns : goal.returns
returns c = lined-all c.loop-d.invariant (omega arith)

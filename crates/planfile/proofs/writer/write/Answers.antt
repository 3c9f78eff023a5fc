use native.Mathlib.Omega.{arith}
use Rattle.plan.proofs.BothWays.{written-and-read, held-devices}
use Rattle.planfile.proofs.WriterAnswers.{refused, misfit, done}
use Rattle.planfile.proofs.writer.write.Goals as goal

pub returns-then-not-is_held : goal.returns-then-not-is_held
returns-then-not-is_held c = refused c.is_held.ensures c.if-not-is_held.true

pub overflow_add-plan : goal.overflow_add-plan
overflow_add-plan c =
    let held = c.is_held.ensures.only c.if-not-is_held.false in
    omega (arith, held-devices _ held)

pub overflow_mul-plan : goal.overflow_mul-plan
overflow_mul-plan c =
    let held = c.is_held.ensures.only c.if-not-is_held.false in
    omega (arith, held-devices _ held)

pub returns-then-area-plan : goal.returns-then-area-plan
returns-then-area-plan c = misfit c.is_held.ensures c.if-not-is_held.false c.if-area-plan.true

pub put_file-requires : goal.put_file-requires
put_file-requires c =
    let held = c.is_held.ensures.only c.if-not-is_held.false in
    ((held-devices _ held).1, omega arith)

pub returns : goal.returns
returns c =
    let held = c.is_held.ensures.only c.if-not-is_held.false in
    done c.args.plan held (written-and-read c.args.plan held) c.if-area-plan.false c.put_file.ensures

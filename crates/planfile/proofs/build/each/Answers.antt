use native.Mathlib.Omega.{arith}
use Rattle.planfile.proofs.Made.{made-none, made-more}
use Rattle.planfile.proofs.build.each.Goals as goal

pub loop-i-init : goal.loop-i-init
loop-i-init g c = made-none

pub loop-i-preserved : goal.loop-i-preserved
loop-i-preserved g c = made-more c.loop-i.invariant (omega arith) c.of.ensures

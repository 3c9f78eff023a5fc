-- `calls::device_at` meets its contract: a held plan has no more than 32 devices. Assumes nothing.
use mathlib.Core.Path.{refl}
use native.Mathlib.Omega.{arith}
use Rattle.answers.proofs.Outcomes.{holds}
use Rattle.plan.proofs.BothWays.{held-devices}
use Rattle.state.specs.Sound.{state_asks}
use Rattle.calls.proofs.device_at.Goals as goal

pub unwrap-requires : goal.unwrap-requires
unwrap-requires c =
    let known = holds (state_asks c.args.plan.now c.args.state.now) refl c.in_ok-refusal.ensures refl in
    c.new.ensures.there.1 (omega (arith, held-devices c.args.plan.now known.0))

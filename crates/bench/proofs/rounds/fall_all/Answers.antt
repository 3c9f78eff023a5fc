use Prim.Native.Nat.{◌+◌, ◌*◌}
use native.Mathlib.Omega.{arith}
use Rattle.bench.specs.Round.{fall, fallen}
use Rattle.state.specs.Network.{router}
use Rattle.bench.proofs.Following.{turns-none, turns-block, turns-done}
use Rattle.bench.proofs.Idles.{falls, falls_of, rests-yet}
use Rattle.bench.proofs.rounds.fall_all.Goals as goal

pub loop-d-init : goal.loop-d-init
loop-d-init c = record { within = omega arith; leads = turns-none _ }

pub fall_device-requires : goal.fall_device-requires
fall_device-requires c =
    let l = c.loop-d in
    let d = rw c.unwrap-device.ensures at c.new.ensures.number in
    (omega (arith, l.invariant.leads.more, c.requires.0.few, c.requires.2), rw d (rests-yet (router c.args.plan.now) l.d c.requires.2 (c.requires.1.resting l.d (omega arith)) l.invariant.leads))

pub loop-d-preserved : goal.loop-d-preserved
loop-d-preserved c =
    let l = c.loop-d in
    let is_router = router c.args.plan.now in
    let d = rw c.unwrap-device.ensures at c.new.ensures.number in
    record {
      within = omega arith;
      leads = turns-done (falls is_router) _ (turns-block (falls is_router) (32 * l.d) l.invariant.leads (fall (is_router l.d) l.d) 32 {k = 32 * (l.d + 1)} (rw d at c.fall_device.ensures) (falls_of is_router l.d) (omega arith)) (omega arith) (omega arith);
    }

pub returns : goal.returns
unfolding fallen
returns c =
    let l = c.loop-d.invariant in
    turns-done _ _ l.leads (omega (arith, l.within)) (omega (arith, c.requires.0.few, l.within))

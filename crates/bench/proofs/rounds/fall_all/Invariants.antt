use Prim.Native.Nat.{ℕ, ◌-◌, ◌*◌, ◌≤◌}
use Rattle.lists.specs.Loop.{up_to}
use Rattle.plan.specs.declared.Plan.{Plan}
use Rattle.state.specs.State.{State}
use Rattle.state.specs.Network.{devices, router}
use Rattle.bench.specs.Inner.Shown.{Leads}
use Rattle.bench.specs.declared.rounds.Told.{Told}
use Rattle.bench.proofs.Idles.{falls}
use Rattle.bench.proofs.rounds.fall_all.Given as goal

-- the timers of d devices have fallen, and at most one word was told for each
pub record Fallen (plan : Plan) (s : State) (told : Told) (d : ℕ) (t : State) (now : Told) : Type 0 where
  pub within : d ≤ devices plan
  pub leads : Leads (up_to (falls (router plan)) (32 * d)) (32 * d) s told t now

abbrev pub invariant-loop-d : goal.invariant-loop-d
invariant-loop-d l = Fallen l.plan l.initial.state l.initial.told l.d l.state l.told

abbrev pub decreases-loop-d : goal.decreases-loop-d
decreases-loop-d l = l.plan.core.devices - l.d

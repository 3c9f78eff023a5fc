-- RULES, "How time is distributed": how many rounds a crossing takes at most.
use Rattle.std.specs.Prelude.{◌≡◌, ℕ, ◌*◌, ◌≤◌}
use Rattle.plan.specs.Reading.{Held}
use Rattle.plan.specs.declared.Plan.{Plan}
use Rattle.state.specs.State.{State, counter}
use Rattle.assurance.specs.Distribution.{Crosses, value, InStep, Beat}

-- under the conditions of `Distributes`, W rounds for each of n crossings are enough for a device to have the tick's value from then on
unfoldable pub Soon : ℕ → Type 0
Soon W =
    (plan : Plan) → Held plan → (master D : ℕ) (s : State) (rounds : ℕ) (at : ℕ → State) → InStep plan master D s → Beat plan master D s rounds at
    → (n e t : ℕ) → Crosses plan master s n e → W * n ≤ t → t ≤ rounds → counter (at t) e ≡ value master s

-- RULES, "How an acknowledge goes back": how many rounds a crossing takes at most.
use Rattle.std.specs.Prelude.{◌≡◌, ℕ, ◌*◌, ◌≤◌}
use Rattle.bits.specs.Set.{bit}
use Rattle.plan.specs.declared.Plan.{Plan}
use Rattle.state.specs.State.{State, register}
use Rattle.assurance.specs.Demand3.{window}
use Rattle.assurance.specs.Return.{Back, FoundBack, Given}

-- under the conditions of the return trip, W rounds for each of n crossings are enough for a device to have lost k from then on
unfoldable pub EnoughBack : ℕ → Type 0
EnoughBack W =
    (plan : Plan) (k from to D' : ℕ) (s : State) (at : ℕ → State) → Given plan k from to D' s at → FoundBack plan k from to s
    → (n e t : ℕ) → Back plan k from to s n e → W * n ≤ t → t ≤ window D' → bit (register (at t) e) k ≡ 0

-- RULES, "How an interrupt spreads": how many rounds a crossing takes at most.
use Rattle.std.specs.Prelude.{◌≡◌, ℕ, ◌+◌, ◌*◌, ◌≤◌, ◌<◌}
use Rattle.bits.specs.Set.{bit}
use Rattle.plan.specs.declared.Plan.{Plan}
use Rattle.state.specs.State.{State, register, waiting}
use Rattle.reach.specs.Walk.{Walk}
use Rattle.assurance.specs.Demand3.{Given, window}

-- under demand 3's conditions, W rounds for each of n crossings are enough for a device to hold k from then on
unfoldable pub Enough : ℕ → Type 0
Enough W =
    (plan : Plan) (k source D : ℕ) (s : State) (at : ℕ → State) → Given plan k source D s at
    → (n e t : ℕ) → Walk plan s 0 k source n e → W * n ≤ t → t ≤ window D → bit (register (at t) e) k ≡ 1

-- and no k waits after W x (D + 1) rounds and until the last round
unfoldable pub Empties : ℕ → Type 0
Empties W =
    (plan : Plan) (k source D : ℕ) (s : State) (at : ℕ → State) → Given plan k source D s at
    → (kind q t : ℕ) → kind < 2 → q < 256 → W * (D + 1) ≤ t → t ≤ window D → bit (waiting (at t) kind q) k ≡ 0

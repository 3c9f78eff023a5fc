-- RULES, "How an event ends": how many rounds it takes at most until an event is gone.
use Rattle.std.specs.Prelude.{◌≡◌, ℕ, ◌+◌, ◌*◌, ◌≤◌, ◌<◌}
use Rattle.bits.specs.Set.{bit}
use Rattle.plan.specs.declared.Plan.{Plan}
use Rattle.state.specs.State.{State, register}
use Rattle.state.specs.Network.{devices, load_of}
use Rattle.assurance.specs.Event.{lasting, Event}

-- under the conditions of an event no device holds it after W rounds for each crossing, and as many as the load of its source
unfoldable pub GoneBy : ℕ → Type 0
GoneBy W =
    (plan : Plan) (k from D : ℕ) (s : State) (at : ℕ → State) → Event plan k from D s at
    → (e t : ℕ) → e < devices plan → W * D + load_of plan from k ≤ t → t ≤ lasting plan k from D → bit (register (at t) e) k ≡ 0

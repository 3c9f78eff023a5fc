-- RULES, "How an interrupt spreads": demand 3 of the states between two rounds: right after a round, and after each call that follows it.
use Rattle.std.specs.Prelude.{◌≡◌, ℕ, zero, suc, ◌*◌, ◌≤◌, ◌<◌}
use Rattle.bits.specs.Set.{bit}
use Rattle.plan.specs.declared.Plan.{Plan}
use Rattle.state.specs.State.{State, register, waiting}
use Rattle.state.specs.Network.{devices}
use Rattle.calls.specs.Calls.{called}
use Rattle.bench.specs.Round.{round}
use Rattle.reach.specs.Walk.{Walk}
use Rattle.assurance.specs.Demand3.{Calls, crossing, window, Given}

-- u is a state after t rounds of a course: the one that the last of them makes, or one that calls lead to from there, whether the course
-- goes that way or not
abbrev pub After : Plan → ℕ → State → (ℕ → State) → ℕ → State → Type 0
After plan k s at zero u = Calls plan k s u
After plan k s at (suc t) u = Calls plan k (round plan (at t)).next u

-- what the demand says of such a state
pub record FollowsIn (plan : Plan) (k source D : ℕ) (s : State) (t : ℕ) (u : State) : Type 0 where
  pub holds : (n e : ℕ) → Walk plan s 0 k source n e → crossing * n ≤ t → bit (register u e) k ≡ 1
  pub no_other : (e : ℕ) → e < devices plan → bit (register u e) k ≡ 1 → (n : ℕ) × Walk plan s 0 k source n e
  pub gone : t ≡ window D → (kind q : ℕ) → kind < 2 → q < 256 → bit (waiting u kind q) k ≡ 0

-- demand 3 of each of them
unfoldable pub Between : Type 0
Between =
    (plan : Plan) (k source D : ℕ) (s : State) (at : ℕ → State) → Given plan k source D s at
    → (t : ℕ) (u : State) → t ≤ window D → After plan k (called plan 0 source k s) at t u → FollowsIn plan k source D s t u

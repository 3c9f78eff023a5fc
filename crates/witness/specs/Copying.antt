-- No rules: what the course of demand 3 would be if a round copied the state.
use Rattle.std.specs.Prelude.{ℕ, suc, ◌<◌}
use Rattle.plan.specs.declared.Plan.{Plan}
use Rattle.state.specs.State.{State}
use Rattle.assurance.specs.Demand3.{Calls}

-- so many rounds that leave the state as it was, each with calls after it
pub record Copies (plan : Plan) (k rounds : ℕ) (s : State) (at : ℕ → State) : Type 0 where
  pub begins : Calls plan k s (at 0)
  pub goes_on : (t : ℕ) → t < rounds → Calls plan k (at t) (at (suc t))

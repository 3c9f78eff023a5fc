-- RULES, "Why": what crossings, chain and cut ask.
use Rattle.std.specs.Prelude.{List, ◌∷◌, ◌++◌, ℕ, ◌<◌}
use Rattle.answers.specs.Ordered.{Condition, ask}
use Rattle.plan.specs.declared.Plan.{Plan}
use Rattle.state.specs.State.{State}
use Rattle.state.specs.Network.{devices}
use Rattle.state.specs.Sound.{state_asks}
use Rattle.reach.specs.Reach.{source_asks}

-- of a device e; and of a source d and an identifier k what reach asks
abbrev pub question_asks : Plan → ℕ → ℕ → ℕ → List Condition
question_asks plan d k e = ask 4 (e < devices plan) ∷ source_asks (devices plan) plan.core.source d k

-- of a plan and a state, of an area that has to fit, and of these
abbrev pub way_asks : Plan → State → Type 0 → ℕ → ℕ → ℕ → List Condition
way_asks plan s Fits d k e = state_asks plan s ++ (ask 3 Fits ∷ question_asks plan d k e)

-- RULES, "Plan file": what the writer answers, and what its area then holds.
use Rattle.std.specs.Prelude.{◌≡◌, List, [], ◌∷◌, ℕ, ◌+◌, ◌*◌, length}
use Rattle.answers.specs.Ordered.{Condition, ask, Ordered}
use Rattle.plan.specs.Reading.{Accepted, Held}
use Rattle.plan.specs.declared.Plan.{Plan}

-- a plan that no accepted file holds is refused by 1, then an area of the wrong length by 3
abbrev pub write_asks : Plan → List ℕ → List Condition
write_asks plan before = ask 1 (Held plan) ∷ ask 3 (length before ≡ 512 * (1 + plan.core.devices)) ∷ []

-- done, the area is the accepted file that holds the plan; refused, it is as it was before
pub record Writes (plan : Plan) (before : List ℕ) (number : ℕ) (after : List ℕ) : Type 0 where
  pub answers : Ordered (write_asks plan before) number
  pub made : number ≡ 0 → Accepted after plan
  pub kept : (number ≡ 0 → ⊥) → after ≡ before

-- RULES, "The C door": a plan is the bytes of its file. A file that is not accepted is refused as the reader refuses it.
use Rattle.std.specs.Prelude.{◌≡◌, List, ℕ}
use Rattle.plan.specs.Refusals.{verdict}
use Rattle.plan.specs.Reading.{plan_of}
use Rattle.plan.specs.declared.Plan.{Plan}
use Rattle.state.specs.State.{State}

-- an accepted file: the call over its plan. Any other: the reader's number, before all that the call asks, and what is kept then
pub record OnFile (file : List ℕ) (call : Plan → Type 0) (number : ℕ) (kept : Type 0) : Type 0 where
  pub accepted : (verdict file).number ≡ 0 → call (plan_of file)
  pub refused : ((verdict file).number ≡ 0 → ⊥) → (number ≡ (verdict file).number) × kept

-- a call that changes an area: refused by its file, the area is as it was
abbrev pub Changes : List ℕ → (Plan → State → ℕ → State → Type 0) → State → ℕ → State → Type 0
Changes file call before number after = OnFile file (λ plan. call plan before number after) number (after ≡ before)

-- and one that gives a value too, which is 0 then
abbrev pub Gives : {S : Type 0} → List ℕ → (Plan → S → ℕ → ℕ → S → Type 0) → S → ℕ → ℕ → S → Type 0
Gives file call before number value after = OnFile file (λ plan. call plan before number value after) number ((value ≡ 0) × (after ≡ before))

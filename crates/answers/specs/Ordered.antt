-- RULES, "What the calls answer": conditions with their numbers, tested in this order.
use Rattle.std.specs.Prelude.{◌≡◌, List, [], ◌∷◌, ◌⊎◌, ℕ}

-- the number that a call is refused with where the condition does not hold
pub record Condition : Type 1 where
  pub number : ℕ
  pub holds : Type 0

abbrev pub ask : ℕ → Type 0 → Condition
ask number holds = record { number = number; holds = holds }

-- the number of the first condition that does not hold; 0 where all hold
abbrev pub Ordered : List Condition → ℕ → Type 0
Ordered [] n = n ≡ 0
Ordered (c ∷ cs) n = ((c.holds → ⊥) × (n ≡ c.number)) ⊎ (c.holds × Ordered cs n)

-- a call on one area: done, the area is as it should be; refused, it is as it was before
pub record Outcome {S : Type 0} (conditions : List Condition) (before done : S) (number : ℕ) (after : S) : Type 0 where
  pub answers : Ordered conditions number
  pub made : number ≡ 0 → after ≡ done
  pub kept : (number ≡ 0 → ⊥) → after ≡ before

-- a call that gives a value beside what it leaves in an area: done, both are right; refused, the value is 0 and the area is as it was
pub record Tells {S : Type 0} (conditions : List Condition) (Right : ℕ → S → Type 0) (before : S) (number value : ℕ) (after : S) : Type 0 where
  pub answers : Ordered conditions number
  pub made : number ≡ 0 → Right value after
  pub kept : (number ≡ 0 → ⊥) → (value ≡ 0) × (after ≡ before)

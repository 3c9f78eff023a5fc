-- RULES, "Settling": rounds until no port waits; the least number of them.
use Rattle.std.specs.Prelude.{◌≡◌, Result, Ok, Err, cond, List, [], ◌∷◌, ◌++◌, ℕ, ◌≤◌, ◌<◌, eqb, length}
use Rattle.answers.specs.Ordered.{Condition, ask, Ordered}
use Rattle.answers.specs.Refusals.{number_of}
use Rattle.answers.specs.declared.Refusal.{Refusal}
use Rattle.lists.specs.Loop.{up_to}
use Rattle.lists.specs.Table.{table}
use Rattle.plan.specs.declared.Plan.{Plan}
use Rattle.state.specs.State.{State, words, waiting, time_waits}
use Rattle.state.specs.Sound.{state_asks}
use Rattle.bench.specs.Round.{round}

-- n rounds, with no call between them
abbrev pub rounds : Plan → ℕ → State → State
rounds plan n s = up_to (λ i t. (round plan t).next) n s

-- no port waits: neither interrupts and acknowledges, nor Time-Codes
unfoldable pub Quiet : State → Type 0
Quiet s = ((q kind : ℕ) → q < 256 → kind < 2 → waiting s kind q ≡ 0) × ((q : ℕ) → q < 256 → time_waits s q ≡ 0)

-- n is the least number of rounds after which no port waits
pub record Least (plan : Plan) (s : State) (n : ℕ) : Type 0 where
  pub quiet : Quiet (rounds plan n s)
  pub least : (m : ℕ) → m < n → Quiet (rounds plan m s) → ⊥

-- the two areas: the state, and the second one
pub record Pair : Type 0 where
  pub state : State
  pub second : List ℕ

abbrev pub pair : State → List ℕ → Pair
pair state second = record { state = state; second = second }

-- the most rounds that may be allowed
abbrev pub most_rounds : ℕ
most_rounds = 4096

abbrev pub settle_asks : Plan → Pair → ℕ → List Condition
settle_asks plan areas allowance =
    state_asks plan areas.state
    ++ (ask 3 (length areas.second ≡ words)
    ∷ ask 11 (allowance ≤ most_rounds)
    ∷ ask 12 ((n : ℕ) × (n ≤ allowance) × Quiet (rounds plan n areas.state))
    ∷ [])

-- the state after n rounds, and a second area of zeros
abbrev pub after : Plan → State → ℕ → Pair
after plan s n = record { state = rounds plan n s; second = table words (λ i. 0) }

-- the rounds that an answer speaks of: those that were played; under 12 all that were allowed; under every other refusal none
abbrev pub rounds_in : ℕ → Result ℕ Refusal → ℕ
rounds_in allowance (Ok n) = n
rounds_in allowance (Err r) = cond (eqb (number_of r) 12) allowance 0

-- done: the least number of rounds, and the state then reached; 12: the allowance, and the state after it; else nothing changes
pub record Settles (plan : Plan) (before : Pair) (allowance number value : ℕ) (now : Pair) : Type 0 where
  pub answers : Ordered (settle_asks plan before allowance) number
  pub made : number ≡ 0 → Least plan before.state value × (now ≡ after plan before.state value)
  pub still : number ≡ 12 → (value ≡ allowance) × (now ≡ after plan before.state allowance)
  pub kept : (number ≡ 0 → ⊥) → (number ≡ 12 → ⊥) → (value ≡ 0) × (now ≡ before)

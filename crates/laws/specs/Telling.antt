-- RULES, "Rounds": how often a host is told of something, in a round and in many.
use Rattle.std.specs.Prelude.{cond, List, [], ◌∷◌, ℕ, zero, suc, ◌+◌, eqb}
use Rattle.plan.specs.declared.Plan.{Plan}
use Rattle.state.specs.State.{State}
use Rattle.bench.specs.Round.{told_word, round}

-- how often a word stands in a list
unfoldable pub times : ℕ → List ℕ → ℕ
times word [] = 0
times word (w ∷ l) = cond (eqb w word) 1 0 + times word l

module _ (plan : Plan) (kind d k : ℕ) where
  -- how often the host of device d is told of k in the round from s: of an interrupt (kind 1), of an acknowledge (2), of a timeout (3); or of the
  -- Time-Code with the value k (4)
  unfoldable pub told_in : State → ℕ
  told_in s = times (told_word kind d k) (round plan s).told

  -- and in the first so many rounds of a course, where `at t` is the state after t of them
  unfoldable pub told_by : (ℕ → State) → ℕ → ℕ
  told_by at zero = 0
  told_by at (suc t) = told_by at t + told_in (at t)

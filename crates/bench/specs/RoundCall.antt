-- RULES, "Rounds": what a call of the round answers, and what each area then holds.
use Rattle.std.specs.Prelude.{◌≡◌, List, [], ◌∷◌, ◌++◌, ℕ, length}
use Rattle.answers.specs.Ordered.{Condition, ask, Ordered}
use Rattle.areas.specs.Put.{over}
use Rattle.lists.specs.Table.{table}
use Rattle.plan.specs.declared.Plan.{Plan}
use Rattle.state.specs.State.{State, words}
use Rattle.state.specs.Sound.{state_asks}
use Rattle.bench.specs.Round.{Areas, sent_words, round}

-- no round tells more words
abbrev pub told_words : ℕ
told_words = 1088

abbrev pub round_asks : Plan → State → Areas → List Condition
round_asks plan old areas =
    state_asks plan old
    ++ (ask 3 (length areas.next ≡ words) ∷ ask 3 (length areas.sent ≡ sent_words) ∷ ask 3 (length areas.told ≡ told_words) ∷ [])

-- the next state, the bytes sent, and the words told, with zeros behind them
abbrev pub played : Plan → State → Areas
played plan old =
    record { next = (round plan old).next; sent = (round plan old).sent; told = over (round plan old).told (table told_words (λ i. 0)) }

-- done, the value is how many words were told; refused, it is 0 and the areas are as they were
pub record Plays (plan : Plan) (old : State) (before : Areas) (number value : ℕ) (after : Areas) : Type 0 where
  pub answers : Ordered (round_asks plan old before) number
  pub made : number ≡ 0 → (after ≡ played plan old) × (value ≡ length (round plan old).told)
  pub kept : (number ≡ 0 → ⊥) → (after ≡ before) × (value ≡ 0)

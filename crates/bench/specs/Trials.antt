-- RULES, "What settle prints": one source and one identifier, and then all of them. The network starts afresh, the source requests, and it settles.
use Rattle.std.specs.Prelude.{◌≡◌, List, [], ◌∷◌, ℕ, zero, suc, ◌+◌, ◌*◌, ◌/◌, ◌%◌, ◌≤◌, ◌<◌, length, get_or}
use Rattle.answers.specs.Ordered.{Condition, ask, Ordered}
use Rattle.lists.specs.Table.{table}
use Rattle.bits.specs.Set.{bit}
use Rattle.plan.specs.Reading.{Held}
use Rattle.plan.specs.declared.Plan.{Plan}
use Rattle.state.specs.State.{State, words, BothFit, register}
use Rattle.state.specs.Network.{devices}
use Rattle.state.specs.Start.{started}
use Rattle.calls.specs.Calls.{called, call_asks}
use Rattle.bench.specs.Settling.{rounds, Quiet, Least, most_rounds}

-- how many of the first n devices hold identifier k
unfoldable pub holders : ℕ → ℕ → State → ℕ
holders zero k s = 0
holders (suc n) k s = holders n k s + bit (register s n) k

module _ (plan : Plan) (d k : ℕ) where
  -- the start state, in which device d has requested k
  abbrev pub requested : State
  requested = called plan 0 d k (started plan)

  -- what the request is answered with, at the start
  abbrev pub Answered : ℕ → Type 0
  Answered number = Ordered (call_asks plan 0 d k (started plan)) number

  -- after n rounds, the devices that hold k
  abbrev pub held_after : ℕ → ℕ
  held_after n = holders (devices plan) k (rounds plan n requested)

  -- what the request is answered with, or 12 where something waits still after all rounds; the rounds; and the devices then holding the bit
  pub data Tries : ℕ → ℕ → ℕ → Type 0 where
    refused : {number : ℕ} → Answered number → (number ≡ 0 → ⊥) → Tries number 0 0
    settled : {n : ℕ} → Answered 0 → n ≤ most_rounds → Least plan requested n → Tries 0 n (held_after n)
    waiting : Answered 0 → ((n : ℕ) → n ≤ most_rounds → Quiet (rounds plan n requested) → ⊥) → Tries 12 most_rounds (held_after most_rounds)

-- ---- all of them, by one call

-- place i is device i / 32 and identifier i % 32, and has three words from 3 x i on
abbrev pub FoundAt : Plan → List ℕ → ℕ → Type 0
FoundAt plan found i = Tries plan (i / 32) (i % 32) (get_or found (3 * i) 0) (get_or found (3 * i + 1) 0) (get_or found (3 * i + 2) 0)

abbrev pub found_words : ℕ
found_words = 3072

-- what is found of all 1,024 places
pub record Finds (plan : Plan) (found : List ℕ) : Type 0 where
  pub size : length found ≡ found_words
  pub each : (i : ℕ) → i < 1024 → FoundAt plan found i

-- the areas: two for states, and one for what is found
pub record Lent : Type 0 where
  pub state : List ℕ
  pub second : List ℕ
  pub found : List ℕ

abbrev pub lent : List ℕ → List ℕ → List ℕ → Lent
lent state second found = record { state = state; second = second; found = found }

-- their lengths are right
abbrev pub Fits : ℕ → ℕ → ℕ → Type 0
Fits state second found = BothFit state second × (found ≡ found_words)

abbrev pub trials_asks : Plan → Lent → List Condition
trials_asks plan areas =
    ask 1 (Held plan) ∷ ask 3 (Fits (length areas.state) (length areas.second) (length areas.found)) ∷ []

-- done, all is found, and the other two areas are zeros. Refused, nothing changes
pub record TriesAll (plan : Plan) (before : Lent) (number : ℕ) (after : Lent) : Type 0 where
  pub answers : Ordered (trials_asks plan before) number
  pub made : number ≡ 0 → Finds plan after.found × (after.state ≡ table words (λ i. 0)) × (after.second ≡ table words (λ i. 0))
  pub kept : (number ≡ 0 → ⊥) → after ≡ before

-- RULES, "Between rounds": the start state. Every connected port runs, and all else is 0.
use Rattle.std.specs.Prelude.{◌≡◌, cond, not, ◌&&◌, List, [], ◌∷◌, ℕ, eqb, length}
use Rattle.answers.specs.Ordered.{Condition, ask, Outcome}
use Rattle.plan.specs.Fields.{nobody}
use Rattle.plan.specs.Reading.{Held}
use Rattle.plan.specs.declared.Plan.{Plan}
use Rattle.state.specs.State.{State, words, running_at, state_of}
use Rattle.state.specs.Network.{peer_in}

-- of the ports that have these peers
abbrev pub start_of : List (List ℕ) → State
start_of peers =
    state_of
    (record {
      registers = λ d. 0;
      timers = λ d k. 0;
      ports = λ q i. cond (eqb i running_at && not (eqb (peer_in peers q) nobody)) 1 0;
      counters = λ d. 0;
      times = λ q. 0;
      drops = λ q kind. 0;
    })

-- it is written into an area of a state's words; one of another length stays as it was
unfoldable pub begun : List (List ℕ) → List ℕ → List ℕ
begun peers area = cond (eqb (length area) words) (start_of peers) area

abbrev pub started : Plan → State
started plan = start_of plan.peers

abbrev pub start_asks : Plan → List ℕ → List Condition
start_asks plan area = ask 1 (Held plan) ∷ ask 3 (length area ≡ words) ∷ []

-- done, the area is the start state; refused, it is as it was
abbrev pub Starts : Plan → List ℕ → ℕ → List ℕ → Type 0
Starts plan before number after = Outcome (start_asks plan before) before (started plan) number after

-- RULES, "When a link stops": a source that has requested k holds it, whatever links do, until it takes the acknowledge or its timer ends.
use Rattle.std.specs.Prelude.{◌≡◌, Bool, ◌⊎◌, ◌≢◌, ℕ, suc, ◌+◌, ◌*◌, ◌≤◌, ◌<◌}
use mathlib.Core.List.{Memᴰ}
use Rattle.answers.specs.Ordered.{Ordered}
use Rattle.bits.specs.Set.{bit}
use Rattle.plan.specs.Reading.{Held}
use Rattle.plan.specs.declared.Plan.{Plan}
use Rattle.state.specs.State.{State, register, timer}
use Rattle.state.specs.Network.{load_of}
use Rattle.state.specs.Sound.{Sound}
use Rattle.calls.specs.Calls.{call_asks, called, Takes, Ticks, Links, Resets}
use Rattle.bench.specs.Round.{of_interrupt, of_acknowledge, of_timeout, told_word, round}
use Rattle.laws.specs.Telling.{told_by}
use Rattle.laws.specs.Timing.{AcceptedAt, NoneAccepted}

-- ---- what happens meanwhile

-- between two rounds calls are made, in any number, refused or not: hosts request (kind 0) and acknowledge (kind 1) any identifier, and tick; links
-- are stopped and started, and devices other than d are reset
pub data AnyCalls (plan : Plan) (d : ℕ) (s : State) : State → Type 0 where
  none : AnyCalls plan d s s
  host : {t u : State} (kind e j number : ℕ) → AnyCalls plan d s t → kind < 2 → Takes plan kind e j t number u → AnyCalls plan d s u
  tick : {t u : State} (e number : ℕ) → AnyCalls plan d s t → Ticks plan e t number u → AnyCalls plan d s u
  link : {t u : State} (e p : ℕ) (runs : Bool) (number : ℕ) → AnyCalls plan d s t → Links plan e p runs t number u → AnyCalls plan d s u
  reset : {t u : State} (e number : ℕ) → AnyCalls plan d s t → e ≢ d → Resets plan e t number u → AnyCalls plan d s u

-- node d requests k in state s, and so many rounds are played; `at t` is the state after t of them and the calls after them
pub record Requested (plan : Plan) (d k rounds : ℕ) (s : State) (at : ℕ → State) : Type 0 where
  -- the plan is that of an accepted file, the same in every call, and the state any sound one
  pub held : Held plan
  pub sound : Sound plan s
  -- the request is taken
  pub taken : Ordered (call_asks plan 0 d k s) 0
  -- calls follow, after the request and after each round
  pub begins : AnyCalls plan d (called plan 0 d k s) (at 0)
  pub goes_on : (t : ℕ) → t < rounds → AnyCalls plan d (round plan (at t)).next (at (suc t))

module _ (plan : Plan) (d k : ℕ) (at : ℕ → State) where
  -- ---- d holds on

  -- after t rounds it still holds k, and its timer has run down by t
  pub record StillHolds (t : ℕ) : Type 0 where
    pub holds : bit (register (at t) d) k ≡ 1
    pub timed : timer (at t) d k + t ≡ load_of plan d k

  -- ---- its host hears of it

  -- the round from `at n` comes before the last for which its timer was loaded; d takes an acknowledge of k in it, and its host is told
  pub record Acknowledged (n : ℕ) : Type 0 where
    pub before : suc n < load_of plan d k
    pub accepted : (p : ℕ) × (p < 8) × AcceptedAt plan (at n) (8 * d + p) 1 k
    pub told : Memᴰ (told_word of_acknowledge d k) (round plan (at n)).told

  -- it is that last round, and its host is told of the timeout
  pub record TimedOut (n : ℕ) : Type 0 where
    pub last : suc n ≡ load_of plan d k
    pub told : Memᴰ (told_word of_timeout d k) (round plan (at n)).told

  -- one of the two, and before that round it holds k, and its host is told nothing of k: of no interrupt, no acknowledge and no timeout
  pub record Hears (n : ℕ) : Type 0 where
    pub until : (t : ℕ) → t ≤ n → StillHolds t
    pub silent : (kind : ℕ) → of_interrupt ≤ kind → kind ≤ of_timeout → told_by plan kind d k at n ≡ 0
    pub then : Acknowledged n ⊎ TimedOut n

-- for fewer rounds than its timer was loaded with, if it accepts no acknowledge of k in them
unfoldable pub HoldsOn : Type 0
HoldsOn =
    (plan : Plan) (d k rounds : ℕ) (s : State) (at : ℕ → State) → Requested plan d k rounds s at → rounds < load_of plan d k
    → ((t : ℕ) → t < rounds → NoneAccepted plan (at t) d 1 k) → StillHolds plan d k at rounds

-- in one of as many rounds as its timer was loaded with, whatever comes
unfoldable pub IsHeard : Type 0
IsHeard =
    (plan : Plan) (d k : ℕ) (s : State) (at : ℕ → State) → Requested plan d k (load_of plan d k) s at → (n : ℕ) × Hears plan d k at n

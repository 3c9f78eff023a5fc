-- RULES, "How an interrupt spreads": demand 3, clause by clause.
use Rattle.std.specs.Prelude.{◌≡◌, ◌≢◌, ℕ, suc, ◌+◌, ◌*◌, ◌≤◌, ◌<◌}
use Rattle.answers.specs.Ordered.{Ordered}
use Rattle.bits.specs.Set.{bit}
use Rattle.plan.specs.Reading.{Held}
use Rattle.plan.specs.declared.Plan.{Plan}
use Rattle.state.specs.State.{State, register, waiting}
use Rattle.state.specs.Network.{devices, load_of}
use Rattle.state.specs.Sound.{Sound}
use Rattle.calls.specs.Calls.{call_asks, called, Takes, Ticks}
use Rattle.bench.specs.Round.{round}
use Rattle.laws.specs.Alike.{SendsIt}
use Rattle.reach.specs.Walk.{Walk}
use Rattle.reach.specs.Away.{Farthest}

-- ---- what happens meanwhile

-- hosts call, as often as they like: they request (kind 0) and acknowledge (kind 1) any identifier at any device, and tick, refused or not; but no
-- call for k is taken
pub data Calls (plan : Plan) (k : ℕ) (s : State) : State → Type 0 where
  none : Calls plan k s s
  then : {t u : State} (kind d j number : ℕ) → Calls plan k s t → kind < 2
      → Takes plan kind d j t number u → (number ≡ 0 → j ≢ k) → Calls plan k s u
  tick : {t u : State} (d number : ℕ) → Calls plan k s t → Ticks plan d t number u → Calls plan k s u

-- so many rounds are played from s on, each with calls after it; `at t` is the state after t rounds and the calls after them
pub record Played (plan : Plan) (Calling : State → State → Type 0) (rounds : ℕ) (s : State) (at : ℕ → State) : Type 0 where
  pub begins : Calling s (at 0)
  pub goes_on : (t : ℕ) → t < rounds → Calling (round plan (at t)).next (at (suc t))

abbrev pub Course : Plan → ℕ → ℕ → State → (ℕ → State) → Type 0
Course plan k = Played plan (Calls plan k)

-- ---- the demand

-- the rounds that a crossing takes at most
abbrev pub crossing : ℕ
crossing = 64

abbrev pub window : ℕ → ℕ
window D = crossing * (D + 1)

-- port q sends k in the round that is played from s
abbrev pub SendsK : Plan → ℕ → State → ℕ → Type 0
SendsK plan k s q = (kind : ℕ) × (kind < 2) × SendsIt plan k s kind q

module _ (plan : Plan) (k source D : ℕ) (s : State) where
  pub record Given (at : ℕ → State) : Type 0 where
    -- the plan is that of an accepted file, the same in every call, and the state any sound one
    pub held : Held plan
    pub sound : Sound plan s
    -- k is unset, and not waiting anywhere
    pub unset : (d : ℕ) → d < devices plan → bit (register s d) k ≡ 0
    pub idle : (kind q : ℕ) → kind < 2 → q < 256 → bit (waiting s kind q) k ≡ 0
    -- a source's request for it is taken
    pub taken : Ordered (call_asks plan 0 source k s) 0
    -- D is the greatest, over the devices reached, of the least number of crossings to each
    pub farthest : Farthest plan s 0 k source D
    -- for `window D` rounds nobody requests k again or acknowledges it; other identifiers are used as they may be, and the master ticks as it may
    pub course : Course plan k (window D) (called plan 0 source k s) at
    -- every timer load of k is longer than that
    pub loads : (d : ℕ) → d < devices plan → window D < load_of plan d k

  pub record Follows (at : ℕ → State) : Type 0 where
    -- each device n crossings away holds k after `crossing` x n rounds, and from then on to the end of the window
    pub holds : (n e t : ℕ) → Walk plan s 0 k source n e → crossing * n ≤ t → t ≤ window D → bit (register (at t) e) k ≡ 1
    -- whoever holds k in the window is reached
    pub no_other : (e t : ℕ) → e < devices plan → t ≤ window D → bit (register (at t) e) k ≡ 1 → (n : ℕ) × Walk plan s 0 k source n e
    -- no port sends k twice
    pub once : (q t u : ℕ) → t < u → u < window D → SendsK plan k (at t) q → SendsK plan k (at u) q → ⊥
    -- at the end no k waits
    pub gone : (kind q : ℕ) → kind < 2 → q < 256 → bit (waiting (at (window D)) kind q) k ≡ 0

-- demand 3
unfoldable pub Demand3 : Type 0
Demand3 = (plan : Plan) (k source D : ℕ) (s : State) (at : ℕ → State) → Given plan k source D s at → Follows plan k source D s at

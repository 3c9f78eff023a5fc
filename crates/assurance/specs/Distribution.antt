-- RULES, "How time is distributed": one tick comes to every device that Time-Codes get to, two rounds a crossing, whatever other codes do.
use Rattle.std.specs.Prelude.{◌≡◌, true, false, ◌⊎◌, ◌≢◌, ℕ, suc, ◌+◌, ◌*◌, ◌/◌, ◌≤◌, ◌<◌, get_or}
use Rattle.answers.specs.Ordered.{Ordered}
use Rattle.device.specs.Reaction.{next_time}
use Rattle.plan.specs.Reading.{Held}
use Rattle.plan.specs.declared.Plan.{Plan}
use Rattle.state.specs.State.{State, running, counter, time_waits}
use Rattle.state.specs.Network.{devices, router, peer}
use Rattle.state.specs.Sound.{Sound}
use Rattle.calls.specs.Calls.{tick_asks, advanced, Takes, Ticks}
use Rattle.bench.specs.Round.{of_time, nothing, sent_bytes}
use Rattle.laws.specs.Telling.{told_by}
use Rattle.flood.specs.Flood.{Net, Crossed, Within}
use Rattle.assurance.specs.Demand3.{Played}

-- ---- what happens meanwhile

-- hosts request (kind 0) and acknowledge (kind 1) as they like, refused or not; no tick is taken
pub data Others (plan : Plan) (s : State) : State → Type 0 where
  none : Others plan s s
  then : {t u : State} (kind d k number : ℕ) → Others plan s t → kind < 2 → Takes plan kind d k t number u → Others plan s u
  tick : {t u : State} (d number : ℕ) → Others plan s t → Ticks plan d t number u → number ≢ 0 → Others plan s u

-- ---- where Time-Codes go: over every link that runs, as no permission is asked, and on through routers

abbrev pub carrying : Plan → State → ℕ → Net
carrying plan s master =
    record {
      Device = ℕ;
      Port = ℕ;
      owner = λ q. q / 8;
      leads = λ q e. (q < 256) × (running s q ≡ 1) × (e ≡ peer plan q / 8);
      passes = λ d. router plan d ≡ true;
      source = master;
    }

-- ---- the theorem

-- the rounds that a crossing takes at most
abbrev pub time_crossing : ℕ
time_crossing = 2

abbrev pub time_window : ℕ → ℕ
time_window D = time_crossing * (D + 1)

-- device e is n crossings away from the master
abbrev pub Crosses : Plan → ℕ → State → ℕ → ℕ → Type 0
Crosses plan master s = Crossed (carrying plan s master)

-- the value of a tick
abbrev pub value : ℕ → State → ℕ
value master s = next_time (counter s master)

-- the host of device e hears of a tick: it is a node that Time-Codes get to, and not the master
abbrev pub HearsTime : Plan → ℕ → State → ℕ → Type 0
HearsTime plan master s e = ((n : ℕ) × Crosses plan master s n e) × (router plan e ≡ false) × (e ≢ master)

-- port q sends a Time-Code in the round from s
abbrev pub SendsTime : Plan → State → ℕ → Type 0
SendsTime plan s q = get_or (sent_bytes plan s) q nothing < 64

module _ (plan : Plan) (master D : ℕ) where
  -- a state in which all are in step, and none of them needs more than D crossings
  pub record InStep (s : State) : Type 0 where
    pub sound : Sound plan s
    -- no Time-Code waits, and all devices that one gets to have the master's counter
    pub idle : (q : ℕ) → q < 256 → time_waits s q ≡ 0
    pub equal : (n e : ℕ) → Crosses plan master s n e → counter s e ≡ counter s master
    pub within : Within (carrying plan s master) D

  -- the master's tick is taken, and for so many rounds nobody ticks, no link changes, and no device is reset; all else goes on as it may
  pub record Beat (s : State) (rounds : ℕ) (at : ℕ → State) : Type 0 where
    pub taken : Ordered (tick_asks plan master s) 0
    pub enough : time_window D ≤ rounds
    pub passing : Played plan (Others plan) rounds (advanced master s) at

  pub record Arrives (s : State) (rounds : ℕ) (at : ℕ → State) : Type 0 where
    -- a device n crossings away has the value after `time_crossing` x n rounds, and from then on
    pub comes : (n e t : ℕ) → Crosses plan master s n e → time_crossing * n ≤ t → t ≤ rounds → counter (at t) e ≡ value master s
    -- no other counter moves, and none sooner than a round for each crossing
    pub only : (e t : ℕ) → e < 32 → t ≤ rounds
        → (counter (at t) e ≡ counter s e) ⊎ ((counter (at t) e ≡ value master s) × ((n : ℕ) × (n ≤ t) × Crosses plan master s n e))
    -- nor does one move back: each device takes it once
    pub keeps : (e t : ℕ) → e < 32 → t < rounds → counter (at t) e ≡ value master s → counter (at (suc t)) e ≡ value master s
    -- each link that runs at the master, or at a router that it gets to, carries it
    pub carries : (n q : ℕ) → Crosses plan master s n (q / 8) → (q / 8 ≡ master) ⊎ (router plan (q / 8) ≡ true) → q < 256 → running s q ≡ 1
        → (t : ℕ) × (t < rounds) × (SendsTime plan (at t) q ⊎ SendsTime plan (at t) (peer plan q))
    -- no port sends a Time-Code twice
    pub once : (q t u : ℕ) → t < u → u < rounds → SendsTime plan (at t) q → SendsTime plan (at u) q → ⊥
    -- each host that hears of it is told once; nobody else is told of it, and nobody of another Time-Code
    pub told : (e : ℕ) → HearsTime plan master s e → told_by plan of_time e (value master s) at rounds ≡ 1
    pub untold : (e v : ℕ) → e < 32 → v < 64 → (v ≡ value master s → HearsTime plan master s e → ⊥) → told_by plan of_time e v at rounds ≡ 0
    -- and all are in step again
    pub again : InStep (at rounds)

  -- ticks in any number, each with enough rounds behind it; before and between them rounds in which nobody ticks
  pub data Beats (s : State) : State → Type 0 where
    still : Beats s s
    rest : {t : State} (rounds : ℕ) (at : ℕ → State) → Beats s t → Played plan (Others plan) rounds t at → Beats s (at rounds)
    beat : {t : State} (rounds : ℕ) (at : ℕ → State) → Beats s t → Beat t rounds at → Beats s (at rounds)

  -- each of them arrives
  unfoldable pub EachArrives : (s u : State) → Beats s u → Type 0
  EachArrives s u still = Unit
  EachArrives s u (rest {t} rounds at before resting) = EachArrives s t before
  EachArrives s u (beat {t} rounds at before last) = EachArrives s t before × Arrives t rounds at

-- time is distributed: for the plan of an accepted file, the same in every call, a tick arrives at all that are in step; and so does each
-- of any number of ticks
unfoldable pub Distributes : Type 0
Distributes = (plan : Plan) → Held plan → (master D : ℕ) (s : State) (rounds : ℕ) (at : ℕ → State)
    → InStep plan master D s → Beat plan master D s rounds at → Arrives plan master D s rounds at

unfoldable pub DistributesAll : Type 0
DistributesAll = (plan : Plan) → Held plan → (master D : ℕ) (s u : State) → InStep plan master D s
    → (beats : Beats plan master D s u) → EachArrives plan master D s u beats

-- such a D there always is, and one that is less than the number of devices
unfoldable pub SomeD : Type 0
SomeD = (plan : Plan) → Held plan → (master : ℕ) → master < devices plan → (s : State) → Sound plan s → (D : ℕ) × (D < devices plan) × Within (carrying plan s master) D

-- RULES, "Between rounds": what hosts and links may do; each with its refusals in their order.
use Rattle.std.specs.Prelude.{◌≡◌, Bool, true, false, cond, not, ◌&&◌, List, [], ◌∷◌, ◌++◌, ◌≢◌, ℕ, ◌+◌, ◌*◌, ◌/◌, ◌<◌, eqb, ltb, length, get_or}
use Rattle.answers.specs.Ordered.{Condition, ask, Outcome}
use Rattle.bits.specs.Set.{bit}
use Rattle.device.specs.Reaction.{next_time, is_used}
use Rattle.plan.specs.Fields.{nobody}
use Rattle.plan.specs.declared.Plan.{Plan}
use Rattle.state.specs.State.{State, words, word, put, port_at, register, timer, running_at, running, counter_at, counter, time_at, time, drops, state_of}
use Rattle.state.specs.Network.{devices, ports_of, peer, source, handler, events}
use Rattle.state.specs.Sound.{state_asks}
use Rattle.state.specs.Queue.{sends_at, queue_all, queue_time_all}
use Rattle.state.specs.Mark.{mark}

-- ---- what a stop and a start change at a port

-- the waiting sets of port q, and what it has of Time-Codes, become 0
abbrev pub drained : ℕ → State → State
drained q s = put (put (put s (port_at q 0) 0) (port_at q 1) 0) (time_at q) 0

-- the flag that says whether a port runs
unfoldable pub flag_of : Bool → ℕ
flag_of runs = cond runs 1 0

-- it is put at both ends of a link
abbrev pub flagged : ℕ → ℕ → ℕ → State → State
flagged flag q far s = put (put s (port_at q running_at) flag) (port_at far running_at) flag

-- ---- request (kind 0) and acknowledge (kind 1) of identifier k by the host of node d

-- by the mask that the kind goes by
abbrev pub own_asks : ℕ → ℕ → List Condition
own_asks mask k = ask 5 (k < 32) ∷ ask 6 (bit mask k ≡ 1) ∷ []

-- by the profile of the identifier: an event is not acknowledged
abbrev pub profile_asks : ℕ → ℕ → ℕ → List Condition
profile_asks events kind k = ask 13 (is_used events kind k ≡ true) ∷ []

-- some port of device d runs
abbrev pub SomeRuns : ℕ → State → Type 0
SomeRuns d s = (p : ℕ) × (p < 8) × (running s (8 * d + p) ≡ 1)

-- by the state of the device: a port that runs; a port that runs and may send the kind; and the bit, which is to be 0 before a request,
-- of kind 0, and 1 before an acknowledge, of kind 1: as the kind's own number
abbrev pub send_asks : List ℕ → ℕ → ℕ → ℕ → State → List Condition
send_asks permissions kind d k s =
    ask 7 (SomeRuns d s)
    ∷ ask 8 ((p : ℕ) × (p < 8) × (sends_at (get_or permissions (8 * d + p) 0) kind (8 * d + p) s ≡ true))
    ∷ ask 9 (bit (register s d) k ≡ kind)
    ∷ []

-- ---- a device's counter goes on by one, and the Time-Code is queued at every port

unfoldable pub advanced : ℕ → State → State
advanced d s = queue_time_all (next_time (counter s d)) d nobody (put s (counter_at d) (next_time (counter s d)))

module _ (plan : Plan) where
  -- what every call asks first: the plan, the state, the device
  abbrev pub device_asks : ℕ → State → List Condition
  device_asks d s = state_asks plan s ++ (ask 4 (d < devices plan) ∷ [])

  -- whose they are: sources request, handlers acknowledge
  abbrev pub owns : ℕ → ℕ → ℕ
  owns kind d = cond (eqb kind 0) (source plan d) (handler plan d)

  abbrev pub call_asks : ℕ → ℕ → ℕ → State → List Condition
  call_asks kind d k s = device_asks d s ++ own_asks (owns kind d) k ++ profile_asks (events plan) kind k ++ send_asks plan.core.permissions kind d k s

  -- the identifier is marked, and the code is queued at every port
  unfoldable pub called : ℕ → ℕ → ℕ → State → State
  called kind d k s = queue_all plan kind k d nobody (mark plan kind d k s)

  -- in any area: where it is no state, or there is no such device, identifier or kind, nothing changes
  unfoldable pub called_in : ℕ → ℕ → ℕ → State → State
  called_in kind d k s = cond (eqb (length s) words && ltb d 32 && ltb k 32 && ltb kind 2) (called kind d k s) s

  -- the promise
  abbrev pub Takes : ℕ → ℕ → ℕ → State → ℕ → State → Type 0
  Takes kind d k before number after = Outcome (call_asks kind d k before) before (called kind d k before) number after

  -- ---- a tick by the host of the master, which the plan names as its number plus 1

  abbrev pub tick_asks : ℕ → State → List Condition
  tick_asks d s = device_asks d s ++ (ask 14 (plan.core.master ≡ d + 1) ∷ ask 7 (SomeRuns d s) ∷ [])

  -- the promise
  abbrev pub Ticks : ℕ → State → ℕ → State → Type 0
  Ticks d before number after = Outcome (tick_asks d before) before (advanced d before) number after

  -- ---- the link at port p of device d, which is to run or to stop

  -- the port is there and joined to another, and its flag does not stand so already
  abbrev pub link_asks : Bool → ℕ → ℕ → State → List Condition
  link_asks runs d p s =
      device_asks d s
      ++ (ask 4 (p < ports_of plan d) ∷ ask 7 (peer plan (8 * d + p) < nobody) ∷ ask 10 (running s (8 * d + p) ≢ flag_of runs) ∷ [])

  -- the flag is put at both ends, and where the link stops nothing waits at either any more, and the mark is gone from both
  unfoldable pub switched : Bool → ℕ → State → State
  switched true q s = flagged 1 q (peer plan q) s
  switched false q s = flagged 0 q (peer plan q) (drained (peer plan q) (drained q s))

  -- the promise
  abbrev pub Links : ℕ → ℕ → Bool → State → ℕ → State → Type 0
  Links d p runs before number after = Outcome (link_asks runs d p before) before (switched runs (8 * d + p) before) number after

-- ---- device d is reset: register, timers and counter become 0, and of its ports all but the flags, their drops too

abbrev pub reset : ℕ → State → State
reset d s =
    state_of
    (record {
      registers = λ e. cond (eqb e d) 0 (register s e);
      timers = λ e k. cond (eqb e d) 0 (timer s e k);
      ports = λ q i. cond (eqb (q / 8) d && not (eqb i running_at)) 0 (word s (port_at q i));
      counters = λ e. cond (eqb e d) 0 (counter s e);
      times = λ q. cond (eqb (q / 8) d) 0 (time s q);
      drops = λ q kind. cond (eqb (q / 8) d) 0 (drops s kind q);
    })

abbrev pub Resets : Plan → ℕ → State → ℕ → State → Type 0
Resets plan d before number after = Outcome (device_asks plan d before) before (reset d before) number after

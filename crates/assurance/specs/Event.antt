-- RULES, "How an event ends": what takes the place of the return trip where nobody acknowledges. Timers clear the bits, and the event may be requested
-- again. `Calls` and `Course` have requests, acknowledges and ticks only: in them no link changes and no device is reset.
use Rattle.std.specs.Prelude.{◌≡◌, false, ◌≢◌, ℕ, suc, ◌+◌, ◌-◌, ◌*◌, ◌≤◌, ◌<◌}
use Rattle.answers.specs.Ordered.{Ordered}
use Rattle.bits.specs.Set.{bit}
use Rattle.plan.specs.Reading.{Held}
use Rattle.plan.specs.declared.Plan.{Plan}
use Rattle.state.specs.State.{State, register, running}
use Rattle.state.specs.Network.{devices, router, events, load_of}
use Rattle.calls.specs.Calls.{call_asks}
use Rattle.bench.specs.Round.{of_timeout, round}
use Rattle.reach.specs.Walk.{Walk}
use Rattle.reach.specs.Away.{Away}
use Rattle.assurance.specs.Demand3.{Calls, Course, crossing, window, SendsK, Given as Window}
use Rattle.assurance.specs.Return.{Told, Gets}
use Rattle.assurance.specs.Cycle.{AtRest}
use Rattle.assurance.specs.Clock.{HearsIn}

-- the rounds from the request until all is clear: those of D crossings, and the longest load of k, which is the source's own, as it is a node's
abbrev pub lasting : Plan → ℕ → ℕ → ℕ → ℕ
lasting plan k from D = crossing * D + load_of plan from k

-- node `from` requests k in state s; `at t` is the state t rounds later
module _ (plan : Plan) (k from D : ℕ) (s : State) (at : ℕ → State) where
  pub record Event : Type 0 where
    -- all that demand 3 asks: k is unset and waits nowhere, the request is taken, its window is kept, and every load of k is longer than that
    pub request : Window plan k from D s at
    -- k is an event
    pub event : bit (events plan) k ≡ 1
    -- behind the window the same holds on
    pub after : (t : ℕ) → window D ≤ t → t < lasting plan k from D → Calls plan k (round plan (at t)).next (at (suc t))

  -- what the host of device e is told of k: in demand 3's window so many interrupts and nothing else, and in all so many timeouts besides
  pub record Hears (e interrupts timeouts : ℕ) : Type 0 where
    pub first : Told plan k e (window D) at interrupts 0 0
    pub all : Told plan k e (lasting plan k from D) at interrupts 0 timeouts

  pub record Fades : Type 0 where
    -- a device n crossings away is clear after `crossing` x n rounds and as many as its load, and to the end
    pub clears : (n e t : ℕ) → Walk plan s 0 k from n e → crossing * n + load_of plan e k ≤ t → t ≤ lasting plan k from D → bit (register (at t) e) k ≡ 0
    -- but not sooner than its load allows: if it does not hold k after r rounds of the window, it does until r and its load are over
    pub holds : (n e r t : ℕ) → Walk plan s 0 k from n e → r ≤ window D → bit (register (at r) e) k ≡ 0 → crossing * n ≤ t → t ≤ r + load_of plan e k
        → t ≤ lasting plan k from D → bit (register (at t) e) k ≡ 1
    -- whoever holds k is reached, and no port sends it twice
    pub no_other : (e t : ℕ) → e < devices plan → t ≤ lasting plan k from D → bit (register (at t) e) k ≡ 1 → Gets plan k from s e
    pub once : (q t u : ℕ) → t < u → u < lasting plan k from D → SendsK plan k (at t) q → SendsK plan k (at u) q → ⊥
    -- the source's host is told once, of the timeout; that of each other node that is reached once of the interrupt and then once of the timeout, and
    -- no other host of anything
    pub source-hears : Hears from 0 1
    pub others-hear : (e : ℕ) → Gets plan k from s e → e ≢ from → router plan e ≡ false → Hears e 1 1
    pub none-hears : (e : ℕ) → e < devices plan → (Gets plan k from s e → ⊥) → router plan e ≡ false → Hears e 0 0
    -- the source in the round in which its load ends; a node n crossings away no sooner than n rounds later, and no later than `crossing` x n; and,
    -- by its own clock, no more than `crossing` x D - n rounds after that all is clear
    pub source-when : HearsIn plan of_timeout from k at (load_of plan from k)
    pub when : (n e turn : ℕ) → Away plan s 0 k from n e → router plan e ≡ false → turn ≤ lasting plan k from D → HearsIn plan of_timeout e k at turn
        → (n + load_of plan e k ≤ turn) × (turn ≤ crossing * n + load_of plan e k) × (lasting plan k from D ≤ turn + (crossing * D - n))
    -- at the end k is unset everywhere and waits nowhere, and the links are as they were
    pub at_rest : AtRest plan k (at (lasting plan k from D))
    pub links : (q : ℕ) → q < 256 → running (at (lasting plan k from D)) q ≡ running s q
    -- so whoever's request could be taken before, this source's or another's, can request again
    pub again : (d : ℕ) → Ordered (call_asks plan 0 d k s) 0 → Ordered (call_asks plan 0 d k (at (lasting plan k from D))) 0

-- what is assured of one event
unfoldable pub OneEvent : Type 0
OneEvent =
    (plan : Plan) (k from D : ℕ) (s : State) (at : ℕ → State) → Event plan k from D s at → Fades plan k from D s at

-- ---- events in any number

-- a list of them, which leads from s on; each has its own source and other traffic
pub data Events (plan : Plan) (k : ℕ) (s : State) : State → Type 0 where
  none : Events plan k s s
  -- so many rounds pass in which nobody requests k
  rest : {t : State} → Events plan k s t → (rounds : ℕ) (at : ℕ → State) → Course plan k rounds t at → Events plan k s (at rounds)
  -- one more, which meets the conditions if k is at rest before it; that it is at rest there is proved, and not asked
  event : {t : State} → Events plan k s t → (from D : ℕ) (at : ℕ → State) → (AtRest plan k t → Event plan k from D t at)
      → Events plan k s (at (lasting plan k from D))

-- each of them ends as one does, and between them no host is told anything of k
unfoldable pub AllFade : (plan : Plan) (k : ℕ) (s t : State) → Events plan k s t → Type 0
AllFade plan k s t none = Unit
AllFade plan k s t (rest before rounds at course) =
    AllFade plan k s _ before × ((e : ℕ) → e < devices plan → router plan e ≡ false → Told plan k e rounds at 0 0 0)
AllFade plan k s t (event {t = r} before from D at asked) = AllFade plan k s _ before × Fades plan k from D r at

unfoldable pub AnyEvents : Type 0
AnyEvents =
    (plan : Plan) (k : ℕ) (s t : State) (list : Events plan k s t) → Held plan → k < 32 → AtRest plan k s → AllFade plan k s t list × AtRest plan k t

-- RULES, "The whole cycle": T-01, clause by clause. A source requests k, a handler acknowledges it when demand 3's window is over, and k is as it
-- was before. `Calls` and `Course` have requests, acknowledges and ticks only: in them no link changes and no device is reset.
use Rattle.std.specs.Prelude.{◌≡◌, false, ◌≢◌, ℕ, suc, ◌+◌, ◌*◌, ◌≤◌, ◌<◌}
use Rattle.answers.specs.Ordered.{Ordered}
use Rattle.bits.specs.Set.{bit}
use Rattle.plan.specs.Reading.{Held}
use Rattle.plan.specs.declared.Plan.{Plan}
use Rattle.state.specs.State.{State, register, waiting, running}
use Rattle.state.specs.Network.{devices, router, handler, events, load_of}
use Rattle.state.specs.Sound.{Sound}
use Rattle.calls.specs.Calls.{call_asks, called}
use Rattle.bench.specs.Round.{round}
use Rattle.assurance.specs.Demand3.{Calls, Course, crossing, window, SendsK, Given as Window}
use Rattle.assurance.specs.Return.{Permits, Told, Gets, Back, AwayBack, FarthestBack, FoundBack, OneWay}

-- ---- what is given: node `from` requests k in state s, and node `to` acknowledges it `gap` rounds after the window. `at t` is the state t rounds
-- after the request, and `back t` the one t rounds after the acknowledge

pub record Cycle (plan : Plan) (k from to D D' gap : ℕ) (s : State) (at back : ℕ → State) : Type 0 where
  -- all that demand 3 asks: k is unset and waits nowhere, the request is taken, and its window is kept
  pub request : Window plan k from D s at
  -- both ends of each link that runs grant all four permissions, and do not bar k
  pub permits : Permits plan k s
  -- k is no event: it is acknowledged
  pub no-event : bit (events plan) k ≡ 0
  -- between the two windows the same holds as in them
  pub between : (t : ℕ) → window D ≤ t → t < window D + gap → Calls plan k (round plan (at t)).next (at (suc t))
  -- then a handler of k that was reached acknowledges
  pub handles : bit (handler plan to) k ≡ 1
  pub was-reached : Gets plan k from s to
  -- D' is the most crossings from it to any device reached, counted over these only
  pub farthest : FarthestBack plan k from to s D'
  -- for `window D'` further rounds nobody requests or acknowledges k
  pub course : Course plan k (window D') (called plan 1 to k (at (window D + gap))) back
  -- each load of k is greater than the rounds of both windows and the gap together
  pub loads : (d : ℕ) → d < devices plan → window D + gap + window D' < load_of plan d k

-- ---- what follows, where the acknowledge comes `until` rounds after the request

module _ (plan : Plan) (k from to D' until : ℕ) (s : State) (at back : ℕ → State) where
  -- what the host of device e is told of k from the request to the end: before the acknowledge so many interrupts and nothing else, and after it
  -- so many acknowledges and nothing else
  pub record Hears (e interrupts acknowledges : ℕ) : Type 0 where
    pub first : Told plan k e until at interrupts 0 0
    pub then : Told plan k e (window D') back 0 acknowledges 0

  pub record Ends : Type 0 where
    -- the acknowledge is taken: the call answers 0
    pub taken : Ordered (call_asks plan 1 to k (at until)) 0
    -- every device reached is some crossings away from the handler, D' at most
    pub found : (e : ℕ) → Gets plan k from s e → (n : ℕ) × (n ≤ D') × AwayBack plan k from to s n e
    -- and one that is n away loses k by its rounds a crossing: it is unset after `crossing` x n rounds of the second window, and to its end
    pub loses : (n e t : ℕ) → Back plan k from to s n e → crossing * n ≤ t → t ≤ window D' → bit (register (back t) e) k ≡ 0
    -- whoever holds k in it was reached
    pub no_other : (e t : ℕ) → e < devices plan → t ≤ window D' → bit (register (back t) e) k ≡ 1 → Gets plan k from s e
    -- no port sends k twice in it
    pub once : (q t u : ℕ) → t < u → u < window D' → SendsK plan k (back t) q → SendsK plan k (back u) q → ⊥
    -- the source's host is told exactly once, of the acknowledge
    pub source-hears : Hears from 0 1
    -- the handler's host was told once, of the interrupt
    pub handler-hears : Hears to 1 0
    -- the hosts of all other nodes that were reached once of each, and those out of reach of nothing
    pub others-hear : (e : ℕ) → Gets plan k from s e → e ≢ from → e ≢ to → router plan e ≡ false → Hears e 1 1
    pub none-hears : (e : ℕ) → e < devices plan → (Gets plan k from s e → ⊥) → router plan e ≡ false → Hears e 0 0
    -- at the end, in a sound state again, k is unset everywhere and waits nowhere, and the links are as they were
    pub sound : Sound plan (back (window D'))
    pub unset : (e : ℕ) → e < devices plan → bit (register (back (window D')) e) k ≡ 0
    pub gone : (kind q : ℕ) → kind < 2 → q < 256 → bit (waiting (back (window D')) kind q) k ≡ 0
    pub links : (q : ℕ) → q < 256 → running (back (window D')) q ≡ running s q

-- T-01, for one cycle, where each device that the source reached is found from the handler
unfoldable pub OneCycle : Type 0
OneCycle =
    (plan : Plan) (k from to D D' gap : ℕ) (s : State) (at back : ℕ → State) → Cycle plan k from to D D' gap s at back
    → FoundBack plan k from to s → Ends plan k from to D' (window D + gap) s at back

-- where the source has one way, as with one port, each is found, and nothing more is asked
unfoldable pub OneWayCycle : Type 0
OneWayCycle =
    (plan : Plan) (k from to D D' gap : ℕ) (s : State) (at back : ℕ → State) → Cycle plan k from to D D' gap s at back
    → OneWay plan s from → Ends plan k from to D' (window D + gap) s at back

-- ---- cycles in any number

-- a sound state in which k is unset and waits nowhere
pub record AtRest (plan : Plan) (k : ℕ) (s : State) : Type 0 where
  pub sound : Sound plan s
  pub unset : (d : ℕ) → d < devices plan → bit (register s d) k ≡ 0
  pub idle : (kind q : ℕ) → kind < 2 → q < 256 → bit (waiting s kind q) k ≡ 0

-- a list of cycles of k, which leads from s on; each has its own handler, gap and other traffic, and all begin at the one source of k
pub data Cycles (plan : Plan) (k : ℕ) (s : State) : State → Type 0 where
  none : Cycles plan k s s
  -- so many rounds pass in which nobody requests or acknowledges k
  rest : {t : State} → Cycles plan k s t → (rounds : ℕ) (at : ℕ → State) → Course plan k rounds t at → Cycles plan k s (at rounds)
  -- one cycle more, which meets the conditions of a cycle if k is at rest before it, each device reached being found; that it is at rest there is
  -- proved, and not asked
  cycle : {t : State} → Cycles plan k s t → (from to D D' gap : ℕ) (at back : ℕ → State)
      → (AtRest plan k t → Cycle plan k from to D D' gap t at back × FoundBack plan k from to t) → Cycles plan k s (back (window D'))

-- each of them ends as one cycle does, and between them no host is told anything of k
unfoldable pub AllEnd : (plan : Plan) (k : ℕ) (s t : State) → Cycles plan k s t → Type 0
AllEnd plan k s t none = Unit
AllEnd plan k s t (rest before rounds at course) =
    AllEnd plan k s _ before × ((e : ℕ) → e < devices plan → router plan e ≡ false → Told plan k e rounds at 0 0 0)
AllEnd plan k s t (cycle {t = r} before from to D D' gap at back asked) = AllEnd plan k s _ before × Ends plan k from to D' (window D + gap) r at back

-- T-01, for any number of them: where k is at rest before the first, all end so, and k is at rest behind the last
unfoldable pub AnyCycles : Type 0
AnyCycles =
    (plan : Plan) (k : ℕ) (s t : State) (list : Cycles plan k s t) → Held plan → k < 32 → AtRest plan k s
    → AllEnd plan k s t list × AtRest plan k t

-- ---- from an earlier moment: it is known that k waits nowhere any more, as settling finds it in a network that carries nothing else

pub record Sooner (plan : Plan) (k from to D' until : ℕ) (s : State) (at back : ℕ → State) : Type 0 where
  pub held : Held plan
  pub at_rest : AtRest plan k s
  pub permits : Permits plan k s
  pub no-event : bit (events plan) k ≡ 0
  -- a source's request is taken, and for `until` rounds nobody requests or acknowledges k
  pub taken : Ordered (call_asks plan 0 from k s) 0
  pub first : Course plan k until (called plan 0 from k s) at
  -- then it waits nowhere, and a handler of k that was reached acknowledges
  pub idle : (kind q : ℕ) → kind < 2 → q < 256 → bit (waiting (at until) kind q) k ≡ 0
  pub handles : bit (handler plan to) k ≡ 1
  pub was-reached : Gets plan k from s to
  -- D' and the second window as in a cycle; each load of k is greater than the rounds before the acknowledge and that window together
  pub farthest : FarthestBack plan k from to s D'
  pub then : Course plan k (window D') (called plan 1 to k (at until)) back
  pub loads : (d : ℕ) → d < devices plan → until + window D' < load_of plan d k

-- it ends in the same way
unfoldable pub AsSoon : Type 0
AsSoon =
    (plan : Plan) (k from to D' until : ℕ) (s : State) (at back : ℕ → State) → Sooner plan k from to D' until s at back
    → FoundBack plan k from to s → Ends plan k from to D' until s at back

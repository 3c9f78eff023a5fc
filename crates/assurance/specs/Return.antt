-- RULES, "How an acknowledge goes back": the return trip, from a state in which an interrupt is wherever it can get to and nowhere under way.
use Rattle.std.specs.Prelude.{◌≡◌, true, false, ◌⊎◌, ◌≢◌, ℕ, ◌+◌, ◌*◌, ◌/◌, ◌≤◌, ◌<◌}
use Rattle.answers.specs.Ordered.{Ordered}
use Rattle.bits.specs.Set.{bit}
use Rattle.device.specs.Permissions.{may_send, may_receive}
use Rattle.plan.specs.Reading.{Held}
use Rattle.plan.specs.declared.Plan.{Plan}
use Rattle.state.specs.State.{State, register, timer, waiting, running}
use Rattle.state.specs.Network.{devices, router, peer, permissions, bars, source, handler, events}
use Rattle.state.specs.Sound.{Sound}
use Rattle.calls.specs.Calls.{call_asks, called}
use Rattle.bench.specs.Round.{of_interrupt, of_acknowledge, of_timeout}
use Rattle.laws.specs.Telling.{told_by}
use Rattle.reach.specs.Walk.{WalkOver, Walk}
use Rattle.reach.specs.Away.{AwayOver, FarthestOver, Farthest}
use Rattle.assurance.specs.Demand3.{Course, crossing, window, SendsK}

-- both ends of each link that runs grant all four permissions and bar k in neither kind: whatever port runs may send and may receive codes of either
-- kind, and does not drop those of k
abbrev pub Permits : Plan → ℕ → State → Type 0
Permits plan k s =
    (kind q : ℕ) → kind < 2 → q < 256 → running s q ≡ 1
    → (may_send kind (permissions plan q) ≡ true) × (may_receive kind (permissions plan q) ≡ true) × (bit (bars plan kind q) k ≡ 0)

-- what the host of device d is told of k in so many rounds of a course: how often of an interrupt, of an acknowledge, of a timeout
pub record Told (plan : Plan) (k d rounds : ℕ) (at : ℕ → State) (interrupts acknowledges timeouts : ℕ) : Type 0 where
  pub of-interrupts : told_by plan of_interrupt d k at rounds ≡ interrupts
  pub of-acknowledges : told_by plan of_acknowledge d k at rounds ≡ acknowledges
  pub of-timeouts : told_by plan of_timeout d k at rounds ≡ timeouts

-- by the links that run in s, an interrupt of k from a source gets to device e
abbrev pub Gets : Plan → ℕ → ℕ → State → ℕ → Type 0
Gets plan k from s e = (n : ℕ) × Walk plan s 0 k from n e

-- a way of n crossings leads from the handler to device e, over devices that the source reached only
abbrev pub Back : Plan → ℕ → ℕ → ℕ → State → ℕ → ℕ → Type 0
Back plan k from to s n e = WalkOver plan s 1 k (Gets plan k from s) to n e

-- and none of fewer does
abbrev pub AwayBack : Plan → ℕ → ℕ → ℕ → State → ℕ → ℕ → Type 0
AwayBack plan k from to s n e = AwayOver plan s 1 k (Gets plan k from s) to n e

-- D' is the greatest, over these devices, of the least number of crossings to each
abbrev pub FarthestBack : Plan → ℕ → ℕ → ℕ → State → ℕ → Type 0
FarthestBack plan k from to s D' = FarthestOver plan s 1 k (Gets plan k from s) to D'

-- each device that the source reached is found so
abbrev pub FoundBack : Plan → ℕ → ℕ → ℕ → State → Type 0
FoundBack plan k from to s = (e : ℕ) → Gets plan k from s e → (n : ℕ) × Back plan k from to s n e

-- node `to` acknowledges in state s what node `from` requested; `at t` is the state t rounds later
module _ (plan : Plan) (k from to D' : ℕ) (s : State) (at : ℕ → State) where
  pub record Given : Type 0 where
    -- the plan is that of an accepted file, and the state any sound one; the links that run grant everything and do not bar k
    pub held : Held plan
    pub sound : Sound plan s
    pub permits : Permits plan k s
    -- the interrupt of a source of k is wherever it can get to, nowhere else, and waits nowhere
    pub place : k < 32
    pub there : from < devices plan
    pub requests : bit (source plan from) k ≡ 1
    -- k is no event: it is acknowledged
    pub no-event : bit (events plan) k ≡ 0
    pub holds : (e : ℕ) → Gets plan k from s e → bit (register s e) k ≡ 1
    pub no_other : (e : ℕ) → e < devices plan → bit (register s e) k ≡ 1 → Gets plan k from s e
    pub idle : (kind q : ℕ) → kind < 2 → q < 256 → bit (waiting s kind q) k ≡ 0
    -- a handler of k that was reached acknowledges
    pub handles : bit (handler plan to) k ≡ 1
    pub was-reached : Gets plan k from s to
    pub farthest : FarthestBack plan k from to s D'
    -- for `window D'` rounds nobody requests k or acknowledges it, no link changes and no device is reset; other identifiers are used as they may be, and
    -- the master ticks as it may
    pub course : Course plan k (window D') (called plan 1 to k s) at
    -- the timer of k in each device reached is greater than these rounds, so that none ends in them
    pub long : (e : ℕ) → Gets plan k from s e → window D' < timer s e k

  pub record Follows : Type 0 where
    -- the acknowledge is taken: the call answers 0
    pub taken : Ordered (call_asks plan 1 to k s) 0
    -- each device that was reached is some crossings away from the handler, D' at most
    pub found : (e : ℕ) → Gets plan k from s e → (n : ℕ) × (n ≤ D') × AwayBack plan k from to s n e
    -- a device n crossings from the handler has lost k after `crossing` x n rounds, and to the end
    pub loses : (n e t : ℕ) → Back plan k from to s n e → crossing * n ≤ t → t ≤ window D' → bit (register (at t) e) k ≡ 0
    -- whoever holds k was reached
    pub no_other : (e t : ℕ) → e < devices plan → t ≤ window D' → bit (register (at t) e) k ≡ 1 → Gets plan k from s e
    -- no port sends k twice
    pub once : (q t u : ℕ) → t < u → u < window D' → SendsK plan k (at t) q → SendsK plan k (at u) q → ⊥
    -- at the end, in a sound state again, k is unset everywhere and waits nowhere, and the links are as they were
    pub sound : Sound plan (at (window D'))
    pub unset : (e : ℕ) → e < devices plan → bit (register (at (window D')) e) k ≡ 0
    pub gone : (kind q : ℕ) → kind < 2 → q < 256 → bit (waiting (at (window D')) kind q) k ≡ 0
    pub links : (q : ℕ) → q < 256 → running (at (window D')) q ≡ running s q
    -- the handler's host is told nothing more of k, that of each other node that was reached of one acknowledge, and no other host anything
    pub handler-told : Told plan k to (window D') at 0 0 0
    pub others-told : (e : ℕ) → Gets plan k from s e → e ≢ to → router plan e ≡ false → Told plan k e (window D') at 0 1 0
    pub none_told : (e : ℕ) → e < devices plan → (Gets plan k from s e → ⊥) → router plan e ≡ false → Told plan k e (window D') at 0 0 0

-- the return trip
unfoldable pub Return : Type 0
Return =
    (plan : Plan) (k from to D' : ℕ) (s : State) (at : ℕ → State) → Given plan k from to D' s at → FoundBack plan k from to s
    → Follows plan k from to D' s at

-- ---- which devices are found

-- only those lose k: one that was reached and is not found holds it to the end
unfoldable pub OnlyFound : Type 0
OnlyFound =
    (plan : Plan) (k from to D' : ℕ) (s : State) (at : ℕ → State) → Given plan k from to D' s at
    → (e t : ℕ) → t ≤ window D' → Gets plan k from s e → bit (register (at t) e) k ≡ 0 → (n : ℕ) × Back plan k from to s n e

-- all ports of device d that run lead to one device, as the port of a node that has one does
abbrev pub OneWay : Plan → State → ℕ → Type 0
OneWay plan s d =
    (p q : ℕ) → p < 8 → q < 8 → running s (8 * d + p) ≡ 1 → running s (8 * d + q) ≡ 1 → peer plan (8 * d + p) / 8 ≡ peer plan (8 * d + q) / 8

-- a handler of k that the interrupt of a source gets to, over links that grant everything and do not bar k
pub record Answers (plan : Plan) (k from to : ℕ) (s : State) : Type 0 where
  pub held : Held plan
  pub sound : Sound plan s
  pub permits : Permits plan k s
  pub there : from < devices plan
  pub requests : bit (source plan from) k ≡ 1
  pub handles : bit (handler plan to) k ≡ 1
  pub reached : Gets plan k from s to

-- the source itself is found; if it has one way, so are all devices that it reached
unfoldable pub AllFound : Type 0
AllFound =
    (plan : Plan) (k from to : ℕ) (s : State) → Answers plan k from to s
    → ((n : ℕ) × Back plan k from to s n from) × (OneWay plan s from → FoundBack plan k from to s)

-- whatever way from the handler leads to the source, or to a router that it reached, goes over devices that it reached only; if the handler has one
-- way, all its ways do
unfoldable pub NoOthers : Type 0
NoOthers =
    (plan : Plan) (k from to : ℕ) (s : State) → Answers plan k from to s
    → (n e : ℕ) → Walk plan s 1 k to n e → (e ≡ from) ⊎ ((router plan e ≡ true) × Gets plan k from s e) ⊎ OneWay plan s to → Back plan k from to s n e

-- so that then D' is the most crossings of acknowledges from it to any device, and that is D'
unfoldable pub CountsAll : Type 0
CountsAll =
    (plan : Plan) (k from to D' : ℕ) (s : State) → Answers plan k from to s → OneWay plan s to
    → (Farthest plan s 1 k to D' → FarthestBack plan k from to s D') × (FarthestBack plan k from to s D' → Farthest plan s 1 k to D')

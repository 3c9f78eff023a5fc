-- RULES, "By one's own clock": a handler never sees the request, nor a source the acknowledge call; each sees that it is told, and counts from there.
use Rattle.std.specs.Prelude.{◌≡◌, ℕ, suc, ◌+◌, ◌-◌, ◌*◌, ◌≤◌, ◌<◌}
use mathlib.Core.List.{Memᴰ}
use Rattle.bits.specs.Set.{bit}
use Rattle.plan.specs.declared.Plan.{Plan}
use Rattle.state.specs.State.{State, waiting, running}
use Rattle.state.specs.Network.{devices, handler, events, load_of}
use Rattle.calls.specs.Calls.{called}
use Rattle.bench.specs.Round.{of_interrupt, of_acknowledge, told_word, round}
use Rattle.reach.specs.Away.{Away}
use Rattle.assurance.specs.Demand3.{Calls, Course, crossing, window, SendsK, Given as Window}
use Rattle.assurance.specs.Return.{Permits, AwayBack, FarthestBack, FoundBack}
use Rattle.assurance.specs.Cycle.{Cycle, Ends, AtRest, Sooner}

-- in round `turn` of a course the host of node d is told of k, of an interrupt or of an acknowledge: the word stands among those told. Rounds are
-- counted from 1, so that round t + 1 is the one that is played from `at t`
abbrev pub HearsIn : Plan → ℕ → ℕ → ℕ → (ℕ → State) → ℕ → Type 0
HearsIn plan kind d k at turn = (t : ℕ) × (turn ≡ suc t) × Memᴰ (told_word kind d k) (round plan (at t)).told

-- ---- the handler

-- node `to`, d crossings away from the source, is told in round `turn`, and acknowledges `wait` rounds later
module _ (plan : Plan) (k from to d D D' turn wait : ℕ) (s : State) (at back : ℕ → State) where
  pub record Waits : Type 0 where
    -- demand 3's conditions, on links that grant everything and do not bar k, for an identifier that is no event
    pub request : Window plan k from D s at
    pub permits : Permits plan k s
    pub no-event : bit (events plan) k ≡ 0
    -- a handler of k, d crossings away, is told
    pub handles : bit (handler plan to) k ≡ 1
    pub distance : Away plan s 0 k from d to
    pub told : HearsIn plan of_interrupt to k at turn
    -- it waits `window D` less d rounds, or more; until then what holds in the window holds on
    pub enough : window D ≤ wait + d
    pub between : (t : ℕ) → window D ≤ t → t < turn + wait → Calls plan k (round plan (at t)).next (at (suc t))
    -- then it acknowledges, and `window D'` rounds follow in which the same holds
    pub farthest : FarthestBack plan k from to s D'
    pub course : Course plan k (window D') (called plan 1 to k (at (turn + wait))) back
    -- each load of k is greater than the rounds until it is told at the latest, its wait, and those after it, together
    pub loads : (e : ℕ) → e < devices plan → crossing * d + wait + window D' < load_of plan e k

  pub record InTime : Type 0 where
    -- it is told in no round before d, and by round `crossing` x d
    pub no-sooner : d ≤ turn
    pub no-later : turn ≤ crossing * d
    -- when it acknowledges, the window is over: no copy of the interrupt waits anywhere, and none is on any link
    pub over : window D ≤ turn + wait
    pub gone : (kind q : ℕ) → kind < 2 → q < 256 → bit (waiting (at (turn + wait)) kind q) k ≡ 0
    pub off : (q : ℕ) → SendsK plan k (at (turn + wait)) q → ⊥
    -- and the return trip begins, which ends as a cycle does: so the handler's host is told of k this once, and the source's host once
    pub begins : Sooner plan k from to D' (turn + wait) s at back
    pub ends : Ends plan k from to D' (turn + wait) s at back
    -- it is a cycle, one of those that may follow one another
    pub is-cycle : Cycle plan k from to D D' (turn + wait - window D) s at back

-- the waiting time of a handler that counts from being told
unfoldable pub ByTheClock : Type 0
ByTheClock =
    (plan : Plan) (k from to d D D' turn wait : ℕ) (s : State) (at back : ℕ → State) → Waits plan k from to d D D' turn wait s at back
    → FoundBack plan k from to s → InTime plan k from to d D D' turn wait s at back

-- it is told at all, in a round of the window
unfoldable pub IsTold : Type 0
IsTold =
    (plan : Plan) (k from to d D : ℕ) (s : State) (at : ℕ → State) → Window plan k from D s at → bit (handler plan to) k ≡ 1 → Away plan s 0 k from d to
    → (turn : ℕ) × (d ≤ turn) × (turn ≤ crossing * d) × HearsIn plan of_interrupt to k at turn

-- ---- the source

-- its node, d crossings away from the handler, is told in round `turn` after the acknowledge, and requests again `pause` rounds later
module _ (plan : Plan) (k from to d D' until turn pause : ℕ) (s : State) (at back : ℕ → State) where
  pub record Pauses : Type 0 where
    -- a handler has acknowledged when k waited nowhere, `until` rounds after the request, and the source is d crossings from it
    pub begins : Sooner plan k from to D' until s at back
    pub distance : AwayBack plan k from to s d from
    pub told : HearsIn plan of_acknowledge from k back turn
    -- it waits `window D'` less d rounds, or more; until then what holds in the window holds on
    pub enough : window D' ≤ pause + d
    pub between : (t : ℕ) → window D' ≤ t → t < turn + pause → Calls plan k (round plan (back t)).next (back (suc t))

  pub record Again : Type 0 where
    -- it is told in no round before d, and by round `crossing` x d
    pub no-sooner : d ≤ turn
    pub no-later : turn ≤ crossing * d
    -- when it requests again, the second window is over, k is at rest and the links are as they were: the next cycle may begin
    pub over : window D' ≤ turn + pause
    pub at_rest : AtRest plan k (back (turn + pause))
    pub links : (q : ℕ) → q < 256 → running (back (turn + pause)) q ≡ running s q

-- when a source may request again, counted from being told of the acknowledge
unfoldable pub NextInTime : Type 0
NextInTime =
    (plan : Plan) (k from to d D' until turn pause : ℕ) (s : State) (at back : ℕ → State) → Pauses plan k from to d D' until turn pause s at back
    → FoundBack plan k from to s → Again plan k from to d D' until turn pause s at back

-- it is told at all, in a round of the second window
unfoldable pub IsAnswered : Type 0
IsAnswered =
    (plan : Plan) (k from to d D' until : ℕ) (s : State) (at back : ℕ → State) → Sooner plan k from to D' until s at back → AwayBack plan k from to s d from
    → (turn : ℕ) × (d ≤ turn) × (turn ≤ crossing * d) × HearsIn plan of_acknowledge from k back turn

-- The first of the two cycles by the clocks of its handler and of its source, who wait as little as they may: what is asked of them is met.
use mathlib.Core.Path.{◌≡◌, refl}
use Prim.Native.Nat.{ℕ, ◌+◌, ◌-◌, ◌*◌, ◌≤◌}
use native.Mathlib.Omega.{arith}
use Rattle.bits.specs.Set.{bit}
use Rattle.state.specs.State.{State}
use Rattle.state.specs.Network.{source, handler, events}
use Rattle.state.specs.Start.{started}
use Rattle.calls.specs.Calls.{called}
use Rattle.bench.specs.Round.{of_interrupt, of_acknowledge}
use Rattle.bench.specs.Settling.{rounds}
use Rattle.reach.specs.Away.{Away}
use Rattle.assurance.specs.Demand3.{none as no_call, crossing, window, Given}
use Rattle.assurance.specs.Cycle.{Sooner}
use Rattle.assurance.specs.Return.{AwayBack, FoundBack}
use Rattle.assurance.specs.Clock.{HearsIn, Waits, ByTheClock, IsTold, Pauses, IsAnswered}
use Rattle.assurance.proofs.Clock.{is-told, by-the-clock, is-answered}
use Rattle.assurance.proofs.Instances.{start-rests, on, played}
use Rattle.cycles.specs.Star.{star, first}
use Rattle.cycles.proofs.Stars.{star-is}
use Rattle.cycles.proofs.Ways.{Links, permits, away, away-back, found_back, far-back}
use Rattle.cycles.proofs.Usual.{usual-start}
use Rattle.cycles.proofs.Conditions.{meets}
use Rattle.cycles.proofs.Twice.{other-call}

abbrev at : ℕ → State
at t = rounds star t first

-- node 1 is a source of 31, and node 3 a handler of it
roles : (bit (source star 1) 31 ≡ 1) × (bit (handler star 3) 31 ≡ 1) × (bit (events star) 31 ≡ 0)
unfolding star bit
roles = (refl, refl, refl)

links : Links star (started star)
links = (usual-start star-is).links

-- two crossings there, and two back
there : Away star (started star) 0 31 1 2 3
there = away star-is 0 31 (omega arith) (started star) links 0 (omega arith) 2 (omega arith) (λ e. omega arith)

back-there : AwayBack star 31 1 3 (started star) 2 1
back-there =
    away-back star-is 31 (started star) links 0 (omega arith) 2 (omega arith)
    (away star-is 1 31 (omega arith) (started star) links 2 (omega arith) 0 (omega arith) (λ e. omega arith))

request : Given star 31 1 2 (started star) at
request = meets star-is 31 (omega arith) 0 (omega arith) (started star) links refl (start-rests star star-is.held 31) roles.0 at (played other-call (window 2))

-- node 3 is told, in some round
pub told : (turn : ℕ) × (2 ≤ turn) × (turn ≤ crossing * 2) × HearsIn star of_interrupt 3 31 at turn
unfolding IsTold
told = is-told star 31 1 3 2 2 (started star) at request roles.1 there

-- the rounds until it acknowledges
abbrev until : ℕ
until = told.0 + (window 2 - 2)

abbrev back : ℕ → State
back t = rounds star t (called star 1 3 31 (at until))

pub waits : Waits star 31 1 3 2 2 2 told.0 (window 2 - 2) (started star) at back
waits =
    record {
      request = request;
      permits = permits star-is 31 (started star) links;
      no-event = roles.2;
      handles = roles.1;
      distance = there;
      told = told.3;
      enough = omega arith;
      between = λ t a b. on star 31 first t;
      farthest = far-back star-is 31 (started star) links 0 (omega arith) 2 (omega arith);
      course = played no_call (window 2);
      loads = λ e b. omega (arith, star-is.long 31 e (omega arith) refl b);
    }

found : FoundBack star 31 1 3 (started star)
found = found_back star-is 31 (started star) links 0 (omega arith) 2 (omega arith)

begins : Sooner star 31 1 3 2 until (started star) at back
unfolding ByTheClock
begins = (by-the-clock star 31 1 3 2 2 2 told.0 (window 2 - 2) (started star) at back waits found).begins

-- node 1 is told of the acknowledge, in some round
pub answered : (turn : ℕ) × (2 ≤ turn) × (turn ≤ crossing * 2) × HearsIn star of_acknowledge 1 31 back turn
unfolding IsAnswered
answered = is-answered star 31 1 3 2 2 until (started star) at back begins back-there

pub pauses : Pauses star 31 1 3 2 2 until answered.0 (window 2 - 2) (started star) at back
pauses =
    record {
      begins = begins;
      distance = back-there;
      told = answered.3;
      enough = omega arith;
      between = λ t a b. on star 31 _ t;
    }

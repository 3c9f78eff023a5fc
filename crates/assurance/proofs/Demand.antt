-- Demand 3, proved: what follows a request that is taken is a trip of the interrupt. It may go on behind the window.
use mathlib.Core.Path.{◌≡◌, refl}
use Prim.Native.Nat.{ℕ, suc, ◌+◌, ◌≤◌, ◌<◌}
use native.Mathlib.Nat.{le_refl}
use native.Mathlib.Omega.{arith}
use Rattle.answers.specs.Ordered.{Ordered}
use Rattle.answers.proofs.Outcomes.{holds}
use Rattle.bits.specs.Set.{bit}
use Rattle.device.specs.Reaction.{is_used}
use Rattle.plan.specs.Reading.{Held}
use Rattle.plan.specs.declared.Plan.{Plan}
use Rattle.state.specs.State.{State}
use Rattle.state.specs.Network.{devices, source, load_of}
use Rattle.state.specs.Sound.{Sound}
use Rattle.calls.specs.Calls.{call_asks, called}
use Rattle.calls.proofs.Called.{call-sound}
use Rattle.bench.specs.Round.{round}
use Rattle.reach.specs.Walk.{Any}
use Rattle.reach.specs.Away.{Away}
use Rattle.assurance.specs.Demand3.{Course, Given, Follows, Demand3, window}
use Rattle.assurance.specs.Cycle.{AtRest}
use Rattle.assurance.proofs.Meanwhile.{Beside, course-begins, course-goes-on}
use Rattle.assurance.proofs.Runs.{Ready}
use Rattle.assurance.proofs.Trips.{Trip, trip}

-- where k is at rest, a request for it is taken
pub record Asked (plan : Plan) (k from : ℕ) (s : State) : Type 0 where
  pub held : Held plan
  pub at_rest : AtRest plan k s
  pub taken : Ordered (call_asks plan 0 from k s) 0

module _ {plan : Plan} {k from : ℕ} {s : State} (a : Asked plan k from s) where
  pub there : from < devices plan
  there = (holds (call_asks plan 0 from k s) refl a.taken refl).1.1.0

  pub place : k < 32
  place = (holds (call_asks plan 0 from k s) refl a.taken refl).1.1.1.0

  pub requests : bit (source plan from) k ≡ 1
  requests = (holds (call_asks plan 0 from k s) refl a.taken refl).1.1.1.1.0

  pub first : Sound plan (called plan 0 from k s)
  first = call-sound plan a.held s a.at_rest.sound 0 from k (omega arith) there place

  -- for so many rounds nobody calls for k
  module _ {last : ℕ} {at : ℕ → State} (course : Course plan k last (called plan 0 from k s) at) where
    pub later : (t : ℕ) → t < last → Beside plan k (round plan (at t)).next (at (suc t))
    later = course-goes-on plan a.held k place last (called plan 0 from k s) at first course

    -- and no timer of k ends in them, or in some more
    module _ (spare : ℕ) (loads : (d : ℕ) → d < devices plan → last + spare < load_of plan d k) where
      ready : Ready plan 0 k from last spare s
      unfolding is_used
      ready =
          record {
            held = a.held;
            kinds = omega arith;
            place = place;
            there = there;
            sound = a.at_rest.sound;
            idle = a.at_rest.idle;
            stood = a.at_rest.unset from there;
            used = refl;
            loads = λ z. loads;
            long = λ e h b. absurd (omega (arith, a.at_rest.unset e h));
          }

      pub goes-out : (D : ℕ) → ((n e : ℕ) → Away plan s 0 k from n e → n ≤ D) → Trip plan 0 k Any from D last spare s at
      goes-out =
          trip ready at (course-begins plan a.held k place last (called plan 0 from k s) at first course) later
          Any (λ e h any. a.at_rest.unset e h) (λ e h off. tt)

module _ {plan : Plan} {k from D : ℕ} {s : State} {at : ℕ → State} (given : Given plan k from D s at) where
  pub asked : Asked plan k from s
  asked =
      record {
        held = given.held;
        at_rest = record { sound = given.sound; unset = given.unset; idle = given.idle };
        taken = given.taken;
      }

  -- the trip of the window
  pub out : Trip plan 0 k Any from D (window D) 0 s at
  out = goes-out asked given.course 0 (λ d h. omega (arith, given.loads d h)) D given.farthest.most

  pub follows : Follows plan k from D s at
  follows =
      record {
        holds = out.gets;
        no_other = λ e t h to b. let way = out.only e t h to (given.unset e h) b in (way.0, way.2);
        once = out.once;
        gone = out.gone (window D) (le_refl _) (le_refl _);
      }

pub demand-3 : Demand3
unfolding Demand3
demand-3 plan k from D s at given = follows given

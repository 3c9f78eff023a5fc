-- The return trip, proved: where all links grant everything, the acknowledge of a handler that was reached is a trip over the devices that hold
-- the identifier, and each of them takes it in.
use mathlib.Core.Path.{◌≡◌, sym, ◌∙◌}
use mathlib.Core.Bool.{true, false}
use mathlib.Core.Logic.{◌≢◌}
use Prim.Native.Nat.{ℕ, suc, ◌+◌, ◌*◌, ◌≤◌, ◌<◌}
use native.Mathlib.Decide.{ℕ_discrete}
use native.Mathlib.Nat.{le_refl}
use native.Mathlib.Omega.{arith}
use borrow.Author.Tests.{eq-eqb}
use Rattle.answers.specs.Ordered.{Ordered}
use Rattle.bits.specs.Set.{bit}
use Rattle.bits.proofs.Sets.{bit-two}
use Rattle.device.specs.Reaction.{is_used}
use Rattle.plan.specs.declared.Plan.{Plan}
use Rattle.state.specs.State.{State, register}
use Rattle.state.specs.Network.{devices, router, events}
use Rattle.state.specs.Sound.{Sound}
use Rattle.state.proofs.Plans.{few}
use Rattle.calls.specs.Calls.{call_asks, called}
use Rattle.calls.proofs.Called.{call-sound}
use Rattle.bench.specs.Round.{round}
use Rattle.reach.specs.Walk.{Any, stay}
use Rattle.reach.proofs.Distances.{any?, walk-device, nearest, reached?}
use Rattle.assurance.specs.Demand3.{window}
use Rattle.assurance.specs.Return.{Told, Gets, Back, AwayBack, FoundBack, Given, Follows, Return, OnlyFound}
use Rattle.assurance.proofs.Meanwhile.{Beside, course-begins, course-goes-on}
use Rattle.assurance.proofs.Begun.{call-taken}
use Rattle.assurance.proofs.Runs.{Ready}
use Rattle.assurance.proofs.Trips.{Trip, trip}
use Rattle.assurance.proofs.Hearing.{at_first, told_back}
use Rattle.assurance.proofs.Backward.{TwoNodes, two-nodes}

module _ {plan : Plan} {k from to D' : ℕ} {s : State} {at : ℕ → State} (given : Given plan k from to D' s at) where
  abbrev last : ℕ
  last = window D'

  abbrev end : State
  end = at last

  pair : TwoNodes plan k from to s
  pair =
      two-nodes (record {
        held = given.held;
        sound = given.sound;
        permits = given.permits;
        there = given.there;
        requests = given.requests;
        handles = given.handles;
        reached = given.was-reached;
      })

  there : to < devices plan
  there = pair.there

  inside : (e : ℕ) → Gets plan k from s e → e < devices plan
  inside e w = walk-device plan given.held s 0 k from given.there w.1

  used : is_used (events plan) 1 k ≡ true
  unfolding is_used
  used = eq-eqb (bit (events plan) k) 0 given.no-event

  taken : Ordered (call_asks plan 1 to k s) 0
  taken =
      let p = pair.runs in
      let small : 8 * to + p.0 < 256 = omega (arith, p.1, there, few plan given.held) in
      call-taken plan given.held 1 to k p.0 s given.sound there given.place given.handles used p.1 p.2
      (given.permits 1 (8 * to + p.0) (omega arith) small p.2).0 (given.holds to given.was-reached)

  first : Sound plan (called plan 1 to k s)
  first = call-sound plan given.held s given.sound 1 to k (omega arith) there given.place

  later : (t : ℕ) → t < last → Beside plan k (round plan (at t)).next (at (suc t))
  later = course-goes-on plan given.held k given.place last (called plan 1 to k s) at first given.course

  ready : Ready plan 1 k to last 0 s
  ready =
      record {
        held = given.held;
        kinds = omega arith;
        place = given.place;
        there = there;
        sound = given.sound;
        idle = given.idle;
        stood = given.holds to given.was-reached;
        used = used;
        loads = λ z. absurd (omega arith);
        long = λ e h b. omega (arith, given.long e (given.no_other e h b));
      }

  pub goes_back : Trip plan 1 k (Gets plan k from s) to D' last 0 s at
  goes_back =
      trip ready at (course-begins plan given.held k given.place last (called plan 1 to k s) at first given.course) later
      (Gets plan k from s) (λ e h w. given.holds e w) given.no_other D' given.farthest.most

  -- a device that was reached loses k only if it is found
  pub lost-found : (e t : ℕ) → t ≤ last → Gets plan k from s e → bit (register (at t) e) k ≡ 0 → (n : ℕ) × Back plan k from to s n e
  lost-found e t h w off = let way = goes_back.only e t (inside e w) h (given.holds e w) off in (way.0, way.2)

  was : (e : ℕ) → e < devices plan → e ≢ to → bit (register (at 0) e) k ≡ bit (register s e) k
  was = at_first goes_back

  -- where each is found
  module _ (all : FoundBack plan k from to s) where
    found : (e : ℕ) → Gets plan k from s e → (n : ℕ) × (n ≤ D') × AwayBack plan k from to s n e
    found e w =
        let near = nearest plan given.held s 1 k to there (Gets plan k from s) (reached? plan given.held s 0 k from given.there Any any?) (all e w).1 in
        (near.0, given.farthest.most near.0 e near.2, near.2)

    -- at the end each that held k has lost it, and no other has taken it in
    unset : (e : ℕ) → e < devices plan → bit (register end e) k ≡ 0
    unset e h =
        elim (ℕ_discrete (bit (register end e) k) 1) [
          | yes b ↦
              let n = found e (given.no_other e h ((goes_back.fits last (le_refl _)).still e h b)) in
              goes_back.gets n.0 e last n.2.there (omega (arith, n.1)) (le_refl _)
          | no ne ↦ omega (arith, bit-two (register end e) k)
        ]

    told : (e : ℕ) → e < devices plan → router plan e ≡ false → (n : ℕ) → n ≡ bit (register (at 0) e) k → Told plan k e last at 0 n 0
    told e h r n is = told_back goes_back e h r last (le_refl _) n (omega (arith, unset e h))

    pub follows : Follows plan k from to D' s at
    follows =
        record {
          taken = taken;
          found = found;
          loses = goes_back.gets;
          no_other = λ e t h to b. given.no_other e h ((goes_back.fits t to).still e h b);
          once = goes_back.once;
          sound = goes_back.sound last (le_refl _);
          unset = unset;
          gone = goes_back.gone last (le_refl _) (le_refl _);
          links = (goes_back.fits last (le_refl _)).runs;
          handler-told = told to there pair.nodes.1 0 (sym (goes_back.gets 0 to 0 stay (omega arith) (omega arith)));
          others-told = λ e w ne r. told e (inside e w) r 1 (sym (was e (inside e w) ne ∙ given.holds e w));
          none_told = λ e h out r.
              let other : e ≢ to = λ is. out (rw is given.was-reached) in
              let off : bit (register s e) k ≡ 1 → ⊥ = λ b. out (given.no_other e h b) in
              told e h r 0 (omega (arith, was e h other, bit-two (register s e) k));
        }

pub return-trip : Return
unfolding Return
return-trip plan k from to D' s at given all = follows given all

pub only-found : OnlyFound
unfolding OnlyFound
only-found plan k from to D' s at given = lost-found given

-- By one's own clock, proved: nobody is told sooner than a round for each crossing, so what is counted from there ends behind the window.
use mathlib.Core.Path.{◌≡◌, sym, ◌∙◌}
use mathlib.Core.Logic.{◌≢◌, dite}
use Prim.Native.Nat.{ℕ, ◌+◌, ◌-◌, ◌*◌, ◌≤◌, ◌<◌}
use native.Mathlib.Decide.{dec_le}
use native.Mathlib.Nat.{le_refl}
use native.Mathlib.Omega.{arith}
use Rattle.bits.specs.Set.{bit}
use Rattle.plan.specs.declared.Plan.{Plan}
use Rattle.state.specs.State.{State, register}
use Rattle.state.specs.Network.{devices, handler}
use Rattle.state.specs.Sound.{Sound}
use Rattle.bench.specs.Round.{of_interrupt, of_acknowledge}
use Rattle.reach.specs.Walk.{stay}
use Rattle.reach.specs.Away.{Away}
use Rattle.reach.proofs.Distances.{walk-device}
use Rattle.assurance.specs.Demand3.{crossing, window, Given as Window}
use Rattle.assurance.specs.Return.{AwayBack, FoundBack}
use Rattle.assurance.specs.Cycle.{Sooner}
use Rattle.assurance.specs.Clock.{HearsIn, Waits, InTime, ByTheClock, IsTold, Pauses, Again, NextInTime, IsAnswered}
use Rattle.assurance.proofs.Backward.{node, apart}
use Rattle.assurance.proofs.Demand.{Asked, asked, there, place, requests, out}
use Rattle.assurance.proofs.Hearing.{when, hears}
use Rattle.assurance.proofs.Quiet.{Idle, none-sends, unheard, Rests, rest-lasts}
use Rattle.assurance.proofs.Cycle.{longer-sound, longer-idle, may-answer, asks, holds_then, pair, comes_back_lem, away-then, ends, rests-then}

-- ---- the handler

module _ {plan : Plan} {k from to d D : ℕ} {s : State} {at : ℕ → State} (given : Window plan k from D s at) (handles : bit (handler plan to) k ≡ 1)
    (distance : Away plan s 0 k from d to) where
  inside : to < devices plan
  inside = walk-device plan given.held s 0 k from (there (asked given)) distance.there

  other : to ≢ from
  other is = apart plan given.held k from to (there (asked given)) (requests (asked given)) handles (sym is)

  -- in a round of the window
  heard : (turn : ℕ) → turn ≤ window D → HearsIn plan of_interrupt to k at turn → (d ≤ turn) × (turn ≤ crossing * d)
  heard = when (out given) to inside (node plan given.held to k inside (omega arith)) (given.unset to inside) other d distance

  is-heard : (turn : ℕ) × (d ≤ turn) × (turn ≤ crossing * d) × HearsIn plan of_interrupt to k at turn
  is-heard =
      hears (out given) to inside (node plan given.held to k inside (omega arith)) (given.unset to inside) other d distance
      (omega (arith, given.farthest.most d to distance))

pub is-told : IsTold
unfolding IsTold
is-told plan k from to d D s at given handles distance = is-heard given handles distance

module _ {plan : Plan} {k from to d D D' turn wait : ℕ} {s : State} {at back : ℕ → State} (w : Waits plan k from to d D D' turn wait s at back) where
  abbrev until : ℕ
  until = turn + wait

  sent : Asked plan k from s
  sent = asked w.request

  sound : (t : ℕ) → t ≤ until → Sound plan (at t)
  sound = longer-sound w.request w.between

  idle : (t : ℕ) → window D ≤ t → t ≤ until → Idle k (at t)
  idle = longer-idle w.request w.between

  -- behind the window k waits nowhere, so the round in which it is told is one of the window
  told : (d ≤ turn) × (turn ≤ crossing * d)
  told =
      dite (dec_le turn (window D)) (λ b. heard w.request w.handles w.distance turn b w.told)
      (λ b.
      let t = w.told.0 in
      let is = w.told.1 in
      absurd (unheard plan w.request.held k (place sent) (sound t (omega arith)) (idle t (omega arith) (omega arith)) to
      (inside w.request w.handles w.distance) 0 (omega arith) w.told.2))

  over : window D ≤ until
  over = omega (arith, w.enough, told.0)

  -- the gap behind the window
  gap_is : window D + (until - window D) ≡ until
  gap_is = omega (arith, over)

  begins : Sooner plan k from to D' until s at back
  begins =
      may-answer w.request w.between over w.permits w.no-event w.handles (d, w.distance.there) w.farthest w.course
      (λ e h. omega (arith, w.loads e h, told.1))

  in-time : FoundBack plan k from to s → InTime plan k from to d D D' turn wait s at back
  in-time all =
      record {
        no-sooner = told.0;
        no-later = told.1;
        over = over;
        gone = idle until over (le_refl _);
        off = none-sends plan w.request.held k (place sent) (sound until (le_refl _)) (idle until over (le_refl _));
        begins = begins;
        ends = ends begins all;
        is-cycle = record {
          request = w.request;
          permits = w.permits;
          no-event = w.no-event;
          between = λ t a b. w.between t a (omega (arith, over));
          handles = w.handles;
          was-reached = (d, w.distance.there);
          farthest = w.farthest;
          course = rw gap_is w.course;
          loads = λ e h. omega (arith, w.loads e h, told.1, over);
        };
      }

pub by-the-clock : ByTheClock
unfolding ByTheClock
by-the-clock plan k from to d D D' turn wait s at back w all = in-time w all

-- ---- the source

module _ {plan : Plan} {k from to d D' until : ℕ} {s : State} {at back : ℕ → State} (begins : Sooner plan k from to D' until s at back)
    (distance : AwayBack plan k from to s d from) where
  held-it : bit (register (at until) from) k ≡ 1
  held-it = holds_then begins from (0, stay)

  -- in a round of the second window
  answered : (turn : ℕ) → turn ≤ window D' → HearsIn plan of_acknowledge from k back turn → (d ≤ turn) × (turn ≤ crossing * d)
  answered = when (comes_back_lem begins) from (there (asks begins)) (pair begins).nodes.0 held-it (pair begins).apart d (away-then begins distance)

  is-heard-back : (turn : ℕ) × (d ≤ turn) × (turn ≤ crossing * d) × HearsIn plan of_acknowledge from k back turn
  is-heard-back =
      hears (comes_back_lem begins) from (there (asks begins)) (pair begins).nodes.0 held-it (pair begins).apart d (away-then begins distance)
      (omega (arith, begins.farthest.most d from distance))

pub is-answered : IsAnswered
unfolding IsAnswered
is-answered plan k from to d D' until s at back begins distance = is-heard-back begins distance

module _ {plan : Plan} {k from to d D' until turn pause : ℕ} {s : State} {at back : ℕ → State} (p : Pauses plan k from to d D' until turn pause s at back) (all : FoundBack plan k from to s) where
  -- behind the second window k is at rest
  rests : (t : ℕ) → window D' ≤ t → t ≤ turn + pause → Rests plan k (back (window D')) (back t)
  rests =
      rest-lasts plan p.begins.held k (place (asks p.begins)) back (window D') (turn + pause) (rests-then p.begins all) p.between

  told_back : (d ≤ turn) × (turn ≤ crossing * d)
  told_back =
      dite (dec_le turn (window D')) (λ b. answered p.begins p.distance turn b p.told)
      (λ b.
      let t = p.told.0 in
      let is = p.told.1 in
      let quiet = (rests t (omega arith) (omega arith)).at_rest in
      let a = asks p.begins in
      absurd (unheard plan p.begins.held k (place a) quiet.sound quiet.idle from (there a) 1 (omega arith) p.told.2))

  again : Again plan k from to d D' until turn pause s at back
  again =
      let over : window D' ≤ turn + pause = omega (arith, p.enough, told_back.0) in
      let then = rests (turn + pause) over (le_refl _) in
      record {
        no-sooner = told_back.0;
        no-later = told_back.1;
        over = over;
        at_rest = then.at_rest;
        links = λ q h. then.links q h ∙ (ends p.begins all).links q h;
      }

pub next-in-time : NextInTime
unfolding NextInTime
next-in-time plan k from to d D' until turn pause s at back p all = again p all

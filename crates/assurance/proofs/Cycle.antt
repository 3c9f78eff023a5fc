-- T-01, proved. When the handler acknowledges, the interrupt waits nowhere; so it is wherever it can get to, and the return trip starts from there.
use mathlib.Core.Path.{◌≡◌, sym, ◌∙◌}
use mathlib.Core.Bool.{false}
use mathlib.Core.Logic.{◌≢◌, dite}
use Prim.Native.Nat.{ℕ, suc, ◌+◌, ◌≤◌, ◌<◌}
use native.Mathlib.Decide.{dec_lt}
use native.Mathlib.Nat.{le_refl}
use native.Mathlib.Omega.{arith}
use Rattle.bits.specs.Set.{bit}
use Rattle.bits.proofs.Sets.{bit-two}
use Rattle.plan.specs.Reading.{Held}
use Rattle.plan.specs.declared.Plan.{Plan}
use Rattle.state.specs.State.{State, register, running}
use Rattle.state.specs.Network.{devices, router, handler, events, load_of}
use Rattle.state.specs.Sound.{Sound}
use Rattle.calls.specs.Calls.{called}
use Rattle.bench.specs.Round.{round}
use Rattle.reach.specs.Walk.{Any, stay}
use Rattle.reach.specs.Away.{Farthest}
use Rattle.reach.proofs.Distances.{any?, walk-device, farthest}
use Rattle.assurance.specs.Demand3.{Calls, Course, window, Given as Window}
use Rattle.assurance.specs.Return.{Permits, Told, Gets, Back, AwayBack, FarthestBack, FoundBack, Answers, AllFound, Given, Follows}
use Rattle.assurance.specs.Cycle.{Cycle, Ends, OneCycle, OneWayCycle, AtRest, Cycles, none, rest, cycle, AllEnd, AnyCycles, Sooner, AsSoon}
use Rattle.assurance.proofs.Meanwhile.{course-sound}
use Rattle.assurance.proofs.Trips.{Trip}
use Rattle.assurance.proofs.Crossings.{walk_same, away-same}
use Rattle.assurance.proofs.Backward.{TwoNodes, two-nodes, all_found}
use Rattle.assurance.proofs.Demand.{Asked, asked, there, place, requests, first, later, goes-out, out}
use Rattle.assurance.proofs.Hearing.{at_first, told-out}
use Rattle.assurance.proofs.Return.{goes_back, lost-found, follows}
use Rattle.assurance.proofs.Quiet.{Idle, idle-lasts, rests, rests-untold}

module _ {plan : Plan} {k from to D' until : ℕ} {s : State} {at back : ℕ → State} (c : Sooner plan k from to D' until s at back) where
  pub asks : Asked plan k from s
  asks = record { held = c.held; at_rest = c.at_rest; taken = c.taken }

  inside : from < devices plan
  inside = there asks

  -- some device is the farthest
  far : (D : ℕ) × Farthest plan s 0 k from D
  far = farthest plan c.held s 0 k from inside Any any?

  goes : Trip plan 0 k Any from far.0 until (window D') s at
  goes = goes-out asks c.first (window D') c.loads far.0 far.1.most

  -- the state in which the handler acknowledges; no link has changed
  abbrev mid : State
  mid = at until

  same : (q : ℕ) → q < 256 → running mid q ≡ running s q
  same = (goes.fits until (le_refl _)).runs

  as_before : (q : ℕ) → q < 256 → running s q ≡ running mid q
  as_before q h = sym (same q h)

  gets_then : (e : ℕ) → Gets plan k from s e → Gets plan k from mid e
  gets_then e w = (w.0, walk_same plan c.held 0 k from inside as_before (λ n e w any. any) w.1)

  gets-now : (e : ℕ) → Gets plan k from mid e → Gets plan k from s e
  gets-now e w = (w.0, walk_same plan c.held 0 k from inside same (λ n e w any. any) w.1)

  -- those that were reached hold k, and no others do
  pub holds_then : (e : ℕ) → Gets plan k from s e → bit (register mid e) k ≡ 1
  holds_then e w = goes.complete until (le_refl _) (λ q h. c.idle 0 q (omega arith) h) w.0 e w.1

  got-there : (e : ℕ) → e < devices plan → bit (register mid e) k ≡ 1 → Gets plan k from s e
  got-there e h b = let way = goes.only e until h (le_refl _) (c.at_rest.unset e h) b in (way.0, way.2)

  answers : Answers plan k from to s
  answers =
      record {
        held = c.held;
        sound = c.at_rest.sound;
        permits = c.permits;
        there = inside;
        requests = requests asks;
        handles = c.handles;
        reached = c.was-reached;
      }

  pub pair : TwoNodes plan k from to s
  pair = two-nodes answers

  -- the ways from the handler over those that were reached are as before the request
  pub back-then : {n e : ℕ} → Back plan k from to s n e → Back plan k from to mid n e
  back-then = walk_same plan c.held 1 k to pair.there as_before (λ n e w. gets_then e)

  back-now : {n e : ℕ} → Back plan k from to mid n e → Back plan k from to s n e
  back-now = walk_same plan c.held 1 k to pair.there same (λ n e w. gets-now e)

  pub away-then : {n e : ℕ} → AwayBack plan k from to s n e → AwayBack plan k from to mid n e
  away-then = away-same plan c.held 1 k to pair.there as_before (λ n e w. gets_then e) (λ n e w. gets-now e)

  away-now : {n e : ℕ} → AwayBack plan k from to mid n e → AwayBack plan k from to s n e
  away-now = away-same plan c.held 1 k to pair.there same (λ n e w. gets-now e) (λ n e w. gets_then e)

  settled : Given plan k from to D' mid back
  settled =
      let fit = goes.fits until (le_refl _) in
      record {
        held = c.held;
        sound = fit.sound;
        permits = λ kind q g h b. c.permits kind q g h (as_before q h ∙ b);
        place = place asks;
        there = inside;
        requests = requests asks;
        no-event = c.no-event;
        holds = λ e w. holds_then e (gets-now e w);
        no_other = λ e h b. gets_then e (got-there e h b);
        idle = c.idle;
        handles = c.handles;
        was-reached = gets_then to c.was-reached;
        farthest = record {
          some = (c.farthest.some.0, away-then c.farthest.some.1);
          most = λ n e a. c.farthest.most n e (away-now a);
        };
        course = c.then;
        long = λ e w. omega (arith, fit.long e (walk-device plan c.held mid 0 k from inside w.1) (holds_then e (gets-now e w)));
      }

  pub comes_back_lem : Trip plan 1 k (Gets plan k from mid) to D' (window D') 0 mid back
  comes_back_lem = goes_back settled

  -- a device that was reached loses k only if it is found
  pub lost-back : (e t : ℕ) → t ≤ window D' → Gets plan k from s e → bit (register (back t) e) k ≡ 0 → (n : ℕ) × Back plan k from to s n e
  lost-back e t h w off = let way = lost-found settled e t h (gets_then e w) off in (way.0, back-now way.1)

  -- ---- what hosts are told on the way out

  module _ (e : ℕ) (h : e < devices plan) (node : router plan e ≡ false) where
    told : (n : ℕ) → bit (register (at 0) e) k + n ≡ bit (register mid e) k → Told plan k e until at n 0 0
    told n so = told-out goes e h node until (le_refl _) n so

    was-unset : e ≢ from → bit (register (at 0) e) k ≡ 0
    was-unset ne = at_first goes e h ne ∙ c.at_rest.unset e h

    told-once : e ≢ from → Gets plan k from s e → Told plan k e until at 1 0 0
    told-once ne w = told 1 (omega (arith, was-unset ne, holds_then e w))

    told-never : e ≢ from → (Gets plan k from s e → ⊥) → Told plan k e until at 0 0 0
    told-never ne off =
        let never : bit (register mid e) k ≡ 1 → ⊥ = λ b. off (got-there e h b) in
        told 0 (omega (arith, was-unset ne, bit-two (register mid e) k))

  -- ---- where each device that was reached is found

  returns : FoundBack plan k from to s → Follows plan k from to D' mid back
  returns found = follows settled (λ e w. let way = found e (gets-now e w) in (way.0, back-then way.1))

  pub ends : FoundBack plan k from to s → Ends plan k from to D' until s at back
  ends all =
      let returns = returns all in
      let own : Gets plan k from s from = (0, stay) in
      let sender = pair.nodes.0 in
      record {
        taken = returns.taken;
        found = λ e w. let n = returns.found e (gets_then e w) in (n.0, n.1, away-now n.2);
        loses = λ n e t w. returns.loses n e t (back-then w);
        no_other = λ e t h to b. gets-now e (returns.no_other e t h to b);
        once = returns.once;
        source-hears = record {
          first = told from inside sender 0 (omega (arith, goes.gets 0 from 0 stay (omega arith) (omega arith), holds_then from own));
          then = returns.others-told from (gets_then from own) pair.apart sender;
        };
        handler-hears = record {
          first = told-once to pair.there pair.nodes.1 (λ e. pair.apart (sym e)) c.was-reached;
          then = returns.handler-told;
        };
        others-hear = λ e w one other node. record {
          first = told-once e (walk-device plan c.held s 0 k from inside w.1) node one w;
          then = returns.others-told e (gets_then e w) other node;
        };
        none-hears = λ e h off node. record {
          first = told-never e h node (λ is. off (rw is own)) off;
          then = returns.none_told e h (λ w. off (gets-now e w)) node;
        };
        sound = returns.sound;
        unset = returns.unset;
        gone = returns.gone;
        links = λ q h. returns.links q h ∙ same q h;
      }

  -- k is at rest then
  pub rests-then : FoundBack plan k from to s → AtRest plan k (back (window D'))
  rests-then all = let then = returns all in record { sound = then.sound; unset = then.unset; idle = then.gone }

pub as-soon : AsSoon
unfolding AsSoon
as-soon plan k from to D' until s at back c all = ends c all

-- ---- after the window k waits nowhere

-- what holds in the window holds on until a later round
module _ {plan : Plan} {k from D last : ℕ} {s : State} {at : ℕ → State} (given : Window plan k from D s at)
    (on : (t : ℕ) → window D ≤ t → t < last → Calls plan k (round plan (at t)).next (at (suc t))) where
  pub goes-longer : Course plan k last (called plan 0 from k s) at
  goes-longer =
      record {
        begins = given.course.begins;
        goes_on = λ t h. dite (dec_lt t (window D)) (λ b. given.course.goes_on t b) (λ b. on t (omega arith) h);
      }

  pub longer-sound : (t : ℕ) → t ≤ last → Sound plan (at t)
  longer-sound =
      let a = asked given in
      course-sound plan given.held k (place a) last (called plan 0 from k s) at (first a) goes-longer

  -- with no longer loads than demand 3 asks, k begins to wait nowhere
  pub longer-idle : (t : ℕ) → window D ≤ t → t ≤ last → Idle k (at t)
  longer-idle =
      let a = asked given in
      idle-lasts plan given.held k (place a) at last longer-sound (later a goes-longer) (window D)
      ((out given).gone (window D) (le_refl _) (le_refl _))

  -- so a handler that was reached may acknowledge
  pub may-answer : window D ≤ last → Permits plan k s → bit (events plan) k ≡ 0 → {to D' : ℕ} {back : ℕ → State} → bit (handler plan to) k ≡ 1 → Gets plan k from s to
      → FarthestBack plan k from to s D' → Course plan k (window D') (called plan 1 to k (at last)) back
      → ((e : ℕ) → e < devices plan → last + window D' < load_of plan e k) → Sooner plan k from to D' last s at back
  may-answer over permits no-event handles reached far course loads =
      record {
        held = given.held;
        at_rest = (asked given).at_rest;
        permits = permits;
        no-event = no-event;
        taken = given.taken;
        first = goes-longer;
        idle = longer-idle last over (le_refl _);
        handles = handles;
        was-reached = reached;
        farthest = far;
        then = course;
        loads = loads;
      }

pub sooner : {plan : Plan} {k from to D D' gap : ℕ} {s : State} {at back : ℕ → State} → Cycle plan k from to D D' gap s at back
    → Sooner plan k from to D' (window D + gap) s at back
sooner c =
    may-answer c.request c.between (omega arith) c.permits c.no-event c.handles c.was-reached c.farthest c.course
    (λ e h. omega (arith, c.loads e h))

pub one-cycle : OneCycle
unfolding OneCycle
one-cycle plan k from to D D' gap s at back c all = ends (sooner c) all

pub one-way-cycle : OneWayCycle
unfolding OneWayCycle AllFound
one-way-cycle plan k from to D D' gap s at back c one = ends (sooner c) ((all_found plan k from to s (answers (sooner c))).1 one)

-- ---- one after the other

module _ (plan : Plan) (k : ℕ) (s : State) (held : Held plan) (l : k < 32) (begins : AtRest plan k s) where
  all_end : {t : State} (list : Cycles plan k s t) → AllEnd plan k s t list × AtRest plan k t
  unfolding AllEnd
  all_end none = (tt, begins)
  all_end (rest before rounds at course) =
      let b = all_end before in
      ((b.0, rests-untold plan held k l b.1 course), rests plan held k l b.1 course rounds (le_refl _))
  all_end (cycle before from to D D' gap at back asked) =
      let b = all_end before in
      let next = asked b.1 in
      let c = sooner next.0 in
      ((b.0, ends c next.1), rests-then c next.1)

pub any-cycles : AnyCycles
unfolding AnyCycles
any-cycles plan k s t list held l first = all_end plan k s held l first list

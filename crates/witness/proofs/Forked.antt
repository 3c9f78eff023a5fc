-- T-01 without its condition that each device reached is found would be false: behind a source with two ways a router keeps the bit. With a way from the
-- handler to that router it ends.
use mathlib.Core.Path.{◌≡◌, refl, sym, ap, ◌∙◌}
use mathlib.Core.Bool.{Bool, true, false, not, ◌||◌, false≢true}
use mathlib.Core.Logic.{inl, inr}
use Prim.Native.Nat.{ℕ, zero, suc, ◌+◌, ◌/◌, ◌≤◌, ◌<◌}
use native.Mathlib.Decide.{ℕ_discrete}
use native.Mathlib.Nat.{le_refl, le_trans}
use native.Mathlib.Omega.{arith}
use lib.Dec.{eqb, ltb}
use borrow.Author.Tests.{ltb-true, eqb-true, not-true}
use Rattle.lists.specs.Loop.{up_to}
use Rattle.lists.specs.Table.{every, table, joined}
use Rattle.lists.proofs.Tests.{every-at}
use Rattle.bits.specs.Set.{bit, join, leave}
use Rattle.bits.specs.First.{searched, first_from, following}
use Rattle.bits.proofs.Sets.{bit-two}
use Rattle.codes.specs.Codes.{reads}
use Rattle.device.specs.Permissions.{may_send, may_receive}
use Rattle.device.specs.Reaction.{marked, is_used, bars_of, ruled, counted, reacts_to, reacts}
use Rattle.plan.specs.Fields.{nobody, devices_fit, loads_fit, pair_fits, master_fits, ports_fit, masks_fit, master_is_node, bar_fits, joins, sources_fit, share_events}
use Rattle.plan.specs.Reading.{Held}
use Rattle.plan.specs.Inner.Memory.{port_right, device_right, row_right, right}
use Rattle.plan.specs.declared.Plan.{Plan}
use Rattle.state.specs.State.{State, word, put, register, state_of}
use Rattle.state.specs.Network.{devices, router, peer, permissions, bars, load_for, load_of}
use Rattle.state.specs.Queue.{queue_at, queue_all_at}
use Rattle.state.specs.Mark.{mark}
use Rattle.state.specs.Start.{started}
use Rattle.state.proofs.Plans.{owned}
use Rattle.state.proofs.Started.{start-joined, started-sound}
use Rattle.calls.specs.Calls.{called}
use Rattle.bench.specs.Round.{fall, first_waits, goes, time_goes, stamped, chosen, sent_word, sends, unqueued, timed, forwarded, tells, acted, arrived, fallen, sent_bytes, posted, arrives, reached, round}
use Rattle.reach.specs.Walk.{Leads, Walk, stay, cross}
use Rattle.reach.specs.Away.{Farthest}
use Rattle.reach.proofs.Found.{none-away}
use Rattle.reach.proofs.Distances.{walk-device}
use Rattle.assurance.specs.Demand3.{window, none, Given}
use Rattle.assurance.specs.Return.{Permits, Back, AwayBack}
use Rattle.assurance.specs.Cycle.{Cycle, Ends, OneCycle}
use Rattle.assurance.proofs.Choices.{runs-there, runs-joined}
use Rattle.assurance.proofs.Begun.{call-taken}
use Rattle.assurance.proofs.Crossings.{away-least}
use Rattle.assurance.proofs.Instances.{tested-held, none-barred, start-rests, all-grant, farthest-of, on, played}
use Rattle.assurance.proofs.Cycle.{sooner, lost-back, one-cycle}
use Rattle.witness.specs.Fork.{fork, asking, answering, left, Unasked}

fork-held : (joined : Bool) → Held (fork joined)
unfolding fork right row_right device_right port_right every devices_fit loads_fit pair_fits master_fits ports_fit masks_fit master_is_node bar_fits joins sources_fit share_events
fork-held true = tested-held (fork true) refl refl
fork-held false = tested-held (fork false) refl refl

-- whatever port is joined has all four permissions
granted : (joined : Bool) → every 24 (λ q. eqb (peer (fork joined) q) nobody || eqb (permissions (fork joined) q) 15) ≡ true
unfolding fork every
granted true = refl
granted false = refl

-- ---- both plans

module _ (both : Bool) where
  abbrev plan : Plan
  plan = fork both

  abbrev first : State
  first = started (fork both)

  held : Held plan
  held = fork-held both

  grants : (q : ℕ) → q < 24 → peer plan q < nobody → permissions plan q ≡ 15
  grants q h l = by-test (eqb (peer plan q) nobody) refl (every-at 24 (λ q. eqb (peer plan q) nobody || eqb (permissions plan q) 15) (granted both) q h)
    where
      by-test : (b : Bool) → eqb (peer plan q) nobody ≡ b → (b || eqb (permissions plan q) 15) ≡ true → permissions plan q ≡ 15
      by-test true is e = absurd (omega (arith, eqb-true (peer plan q) nobody is))
      by-test false is e = eqb-true (permissions plan q) 15 e

  free : (kind q : ℕ) → kind < 2 → q < 256 → bit (bars plan kind q) 31 ≡ 0
  unfolding fork
  free = none-barred plan refl 31

  permits : Permits plan 31 first
  unfolding fork
  permits kind q g h runs =
      let x = started-sound plan held in
      let there = owned plan held q h (runs-there plan held x q h runs) in
      let all = all-grant kind g in
      rw (grants q (omega arith) (runs-joined plan held x q h runs)) (all.0, all.1, free kind q g h)

  -- from port q over to the port at its other end
  leads : (kind q r : ℕ) → kind < 2 → q < 24 → peer plan q ≡ r → r < 24 → peer plan r < nobody → Leads plan first kind 31 q (r / 8)
  leads kind q r g h is l back =
      record {
        runs = start-joined plan q (omega arith) (omega arith);
        sends = rw (grants q h (omega arith)) (all-grant kind g).0;
        joined = omega arith;
        receives = rw (is, grants r l back) (all-grant kind g).1;
        admits = rw is (free kind r g (omega arith));
        there = ap (λ q. q / 8) (sym is);
      }

  to-handler : Walk plan first 0 31 0 1 1
  unfolding fork
  to-handler = cross stay (inl refl) 0 (omega arith) (leads 0 0 8 (omega arith) (omega arith) refl (omega arith) (omega arith)) tt

  to-router : Walk plan first 0 31 0 1 2
  unfolding fork
  to-router = cross stay (inl refl) 1 (omega arith) (leads 0 1 16 (omega arith) (omega arith) refl (omega arith) (omega arith)) tt

  near : (e : ℕ) → e < 3 → (m : ℕ) × (m ≤ 1) × Walk plan first 0 31 0 m e
  near zero h = (0, omega arith, stay)
  near (suc zero) h = (1, omega arith, to-handler)
  near (suc (suc zero)) h = (1, omega arith, to-router)
  near (suc (suc (suc e))) h = absurd (omega arith)

  far : Farthest plan first 0 31 0 1
  unfolding fork
  far =
      farthest-of plan held first 0 31 0 1 (omega arith)
      (1, record { there = to-handler; least = λ m l w. omega (arith, none-away w (omega arith)) }) near

  back-to-source : Back plan 31 0 1 first 1 0
  unfolding fork
  back-to-source = cross stay (inl refl) 0 (omega arith) (leads 1 8 0 (omega arith) (omega arith) refl (omega arith) (omega arith)) (0, stay)

  long : (e : ℕ) → e < devices plan → window 1 + 0 + window 1 < load_of plan e 31
  unfolding fork every load_for
  long e h = ltb-true (window 1 + 0 + window 1) (load_of plan e 31) (every-at 3 (λ e. ltb (window 1 + 0 + window 1) (load_of plan e 31)) refl e h)

  request : Given plan 31 0 1 first (asking both)
  unfolding fork bit is_used asking
  request =
      let rests = start-rests plan held 31 in
      let way : Leads plan first 0 31 0 1 = leads 0 0 8 (omega arith) (omega arith) refl (omega arith) (omega arith) in
      record {
        held = held;
        sound = rests.sound;
        unset = rests.unset;
        idle = rests.idle;
        taken = call-taken plan held 0 0 31 0 first rests.sound (omega arith) (omega arith) refl refl (omega arith) way.runs way.sends (rests.unset 0 (omega arith));
        farthest = far;
        course = played none (window 1);
        loads = λ e h. omega (arith, long e h);
      }

  -- where no device that was reached is more than one crossing from node 1: all that T-01 asks, but that each is found
  cycle-of : ((n e : ℕ) → AwayBack plan 31 0 1 first n e → n ≤ 1) → Cycle plan 31 0 1 1 1 0 first (asking both) (answering both (window 1))
  unfolding fork bit asking answering
  cycle-of most =
      record {
        request = request;
        permits = permits;
        no-event = refl;
        between = λ t a b. on plan 31 _ t;
        handles = refl;
        was-reached = (1, to-handler);
        farthest = record { some = (0, record { there = back-to-source; least = λ m l w. omega (arith, none-away w (omega arith)) }); most = most };
        course = played none (window 1);
        loads = long;
      }

-- ---- node 1 has a second port at router 2: all are found, so the cycle ends

near-back : (e : ℕ) → e < 3 → (m : ℕ) × (m ≤ 1) × Back (fork true) 31 0 1 (first true) m e
unfolding fork
near-back zero h = (1, omega arith, back-to-source true)
near-back (suc zero) h = (0, omega arith, stay)
near-back (suc (suc zero)) h =
    (1, omega arith, cross stay (inl refl) 1 (omega arith) (leads true 1 9 17 (omega arith) (omega arith) refl (omega arith) (omega arith)) (1, to-router true))
near-back (suc (suc (suc e))) h = absurd (omega arith)

pub both_ways : Cycle (fork true) 31 0 1 1 1 0 (first true) (asking true) (answering true (window 1))
unfolding fork
both_ways =
    cycle-of true
    (λ n e a. let c = near-back e (walk-device (fork true) (held true) (first true) 1 31 1 (omega arith) a.there) in le_trans (away-least a c.2) c.1)

pub both-ways-end : Ends (fork true) 31 0 1 1 (window 1 + 0) (first true) (asking true) (answering true (window 1))
unfolding OneCycle fork
both-ways-end =
    one-cycle (fork true) 31 0 1 1 1 0 (first true) (asking true) (answering true (window 1)) both_ways
    (λ e w. let c = near-back e (walk-device (fork true) (held true) (first true) 0 31 0 (omega arith) w.1) in (c.0, c.2))

-- ---- node 1 has one port: from there no way leads farther than to the source

-- that port leads to node 0, and no node passes anything on
ends_there : (every 8 (λ p. eqb (peer (fork false) (8 + p)) 0 || eqb (peer (fork false) (8 + p)) nobody) ≡ true) × (every 2 (λ d. not (router (fork false) d)) ≡ true)
unfolding fork every
ends_there = (refl, refl)

short : {n e : ℕ} → Back (fork false) 31 0 1 (first false) n e → (n ≤ 1) × (e < 2)
short stay = (omega arith, omega arith)
short (cross {n = n} {d = d} {e = e} w passes p l way over) =
    elim passes [
      | inl z ↦
          let here : d ≡ 1 = none-away w z in
          let at : Leads (fork false) (first false) 1 31 (8 + p) e = rw here at way in
          (omega arith, by-test (eqb (peer (fork false) (8 + p)) 0) refl at (every-at 8 (λ p. eqb (peer (fork false) (8 + p)) 0 || eqb (peer (fork false) (8 + p)) nobody) ends_there.0 p l))
      | inr r ↦ absurd (false≢true (sym (not-true (router (fork false) d) (every-at 2 (λ d. not (router (fork false) d)) ends_there.1 d (short w).1)) ∙ r))
    ]
  where
    by-test : (b : Bool) → eqb (peer (fork false) (8 + p)) 0 ≡ b → Leads (fork false) (first false) 1 31 (8 + p) e → (b || eqb (peer (fork false) (8 + p)) nobody) ≡ true → e < 2
    by-test true is at t = omega (arith, at.there, eqb-true (peer (fork false) (8 + p)) 0 is)
    by-test false is at t = absurd (omega (arith, at.joined, eqb-true (peer (fork false) (8 + p)) nobody t))

pub one_way : Cycle (fork false) 31 0 1 1 1 0 (first false) (asking false) (answering false (window 1))
one_way = cycle-of false (λ n e a. (short a.there).0)

-- so router 2, which no acknowledge gets to, holds 31 to the end
pub still-holds : (t : ℕ) → t ≤ window 1 → bit (register (answering false (window 1) t) 2) 31 ≡ 1
still-holds t h =
    elim (ℕ_discrete (bit (register (answering false (window 1) t) 2) 31) 1) [
      | yes b ↦ b
      | no ne ↦
          let lost : bit (register (answering false (window 1) t) 2) 31 ≡ 0 = omega (arith, bit-two (register (answering false (window 1) t) 2) 31) in
          absurd (omega (arith, (short (lost-back (sooner one_way) 2 t h (1, to-router false) lost).1).1))
    ]

-- computed, with no waiting: node 1 acknowledges when all hold 31, after a round, and a round later router 2 alone does
pub is-left : left (answering false 1 1) ≡ true
unfolding asking answering fork counted first_waits goes time_goes stamped every up_to table joined bit join leave searched first_from following reads may_send may_receive marked is_used bars_of ruled reacts_to reacts word put state_of load_for queue_at queue_all_at called mark fall chosen sent_word sends unqueued timed forwarded tells acted arrived fallen sent_bytes posted arrives reached round
is-left = refl

pub is-needed : Unasked → ⊥
unfolding Unasked fork
is-needed all =
    let ends = all (fork false) 31 0 1 1 1 0 (first false) (asking false) (answering false (window 1)) one_way in
    omega (arith, still-holds (window 1) (le_refl _), ends.unset 2 (omega arith))

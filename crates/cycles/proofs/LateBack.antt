-- On the way back, too, the rounds of a crossing are enough and no fewer are: where all other identifiers wait before it, and a Time-Code before each
-- code, an acknowledge is sent in the last of them.
use mathlib.Core.Path.{◌≡◌, refl, sym, ap, ◌∙◌}
use mathlib.Core.Bool.{Bool, true, ◌&&◌}
use mathlib.Core.Logic.{◌≢◌}
use Prim.Native.Nat.{ℕ, suc, ◌+◌, ◌-◌, ◌*◌, ◌/◌, ◌≤◌, ◌<◌}
use native.Mathlib.Decide.{ℕ_discrete}
use native.Mathlib.Omega.{arith}
use lib.Dec.{eqb, ltb}
use Rattle.lists.specs.Loop.{up_to}
use Rattle.lists.specs.Table.{every, table, joined}
use Rattle.lists.proofs.Loops.{keeps}
use Rattle.lists.proofs.Facts.{facts}
use Rattle.lists.proofs.Tests.{and_left, and_right}
use Rattle.bits.specs.Set.{bit, join, leave}
use Rattle.bits.specs.First.{searched, first_from, following}
use Rattle.codes.specs.Codes.{reads}
use Rattle.device.specs.Permissions.{may_send, may_receive}
use Rattle.device.specs.Reaction.{marked, is_used, bars_of, ruled, counted, reacts_to, reacts}
use Rattle.state.specs.State.{State, word, put, register, timer, waiting, next, running, lately, state_of}
use Rattle.state.specs.Network.{devices, peer, load_for}
use Rattle.state.specs.Queue.{queue_at, queue_all_at}
use Rattle.state.specs.Mark.{mark}
use Rattle.state.specs.Sound.{Sound}
use Rattle.calls.specs.Calls.{called}
use Rattle.calls.proofs.Called.{call-sound}
use Rattle.bench.specs.Round.{fall, first_waits, goes, time_goes, stamped, chosen, sent_word, sends, unqueued, timed, forwarded, tells, acted, arrived, fallen, sent_bytes, posted, arrives, reached, round}
use Rattle.laws.proofs.Apart.{alike_same, call-apart}
use Rattle.reach.proofs.Distances.{walk-device}
use Rattle.assurance.specs.Demand3.{none, Course, crossing, window}
use Rattle.assurance.specs.Return.{Return, Gets, Given}
use Rattle.assurance.proofs.Return.{return-trip}
use Rattle.assurance.proofs.Instances.{ticked}
use Rattle.assurance.proofs.Begun.{Begun, begun}
use Rattle.assurance.proofs.Taking.{called-took, took-late}
use Rattle.assurance.proofs.Choices.{runs-joined}
use Rattle.assurance.proofs.Slow.{Ready, alone-begun, slow}
use Rattle.cycles.specs.Star.{small, crowded, returning}
use Rattle.cycles.specs.RateBack.{EnoughBack}
use Rattle.cycles.proofs.Stars.{small_is}
use Rattle.cycles.proofs.Idle.{idles, idles-says}
use Rattle.cycles.proofs.Ways.{node-there, leads-in, permits, to-router, gets, way_back, found_back, far-back}
use Rattle.cycles.proofs.Usual.{Usual, usual-start, usual-rounds, usual-call}

pub enough-back : EnoughBack crossing
unfolding EnoughBack Return
enough-back plan k from to D s at x found = (return-trip plan k from to D s at x found).loses

-- ---- computed together, so that the state is made once

-- all devices hold 31, and their timers run on
abbrev holding : State → Bool
holding s = every (devices small) (λ e. eqb (bit (register s e) 31) 1 && ltb (window 2) (timer s e 31))

-- acknowledges of all other identifiers wait at node 2's port, which has sent nothing
abbrev waits-all : State → Bool
waits-all s = every 31 (λ j. eqb (bit (waiting s 1 16) j) 1) && eqb (next s 16) 0 && eqb (lately s 16) 0

abbrev comes_back : State → Bool
comes_back s = holding s && idles small 31 s && waits-all s

computed : comes_back crowded ≡ true
unfolding crowded small every up_to table joined bit join leave searched first_from following reads may_send may_receive marked is_used bars_of ruled counted reacts_to reacts word put state_of load_for queue_at queue_all_at called mark fall first_waits goes time_goes stamped chosen sent_word sends unqueued timed forwarded tells acted arrived fallen sent_bytes posted arrives reached round
computed = refl

before-it : (holding crowded && idles small 31 crowded) ≡ true
before-it = and_left (holding crowded && idles small 31 crowded) _ computed

holds_at : (e : ℕ) → e < devices small → (bit (register crowded e) 31 ≡ 1) × (window 2 < timer crowded e 31)
holds_at = simp facts at (and_left (holding crowded) _ before-it)

others-wait : ((j : ℕ) → j < 31 → bit (waiting crowded 1 16) j ≡ 1) × (next crowded 16 ≡ 0) × (lately crowded 16 ≡ 0)
others-wait = let f = simp facts at (and_right (holding crowded && idles small 31 crowded) (waits-all crowded) computed) in (f.0.0, f.0.1, f.1)

-- ---- the conditions of the return trip

usual-crowded : Usual small crowded
unfolding crowded
usual-crowded =
    keeps (called small 1 2) (Usual small) 31 (λ k t l y. usual-call small_is y 1 1 k (omega arith) (omega arith) (omega arith)) _
    (usual-rounds small_is (usual-call small_is (usual-start small_is) 0 0 31 (omega arith) (omega arith) (omega arith)) 2)

idle-crowded : (kind q : ℕ) → kind < 2 → q < 256 → bit (waiting crowded kind q) 31 ≡ 0
idle-crowded = idles-says small 31 crowded small_is.held usual-crowded.sound (and_right (holding crowded) _ before-it)

-- ---- node 2 acknowledges 31, and ticks before each round

abbrev full : State
full = called small 1 2 31 crowded

there : 2 < devices small
there = node-there small_is 1 (omega arith)

full-sound : Sound small full
full-sound = call-sound small small_is.held crowded usual-crowded.sound 1 2 31 (omega arith) there (omega arith)

runs : running crowded 16 ≡ 1
runs = (leads-in small_is 1 31 (omega arith) crowded usual-crowded.links 1 (omega arith)).runs

full-begun : Begun small 1 31 2 crowded full
full-begun = begun small small_is.held 1 31 (omega arith) (omega arith) 2 there usual-crowded.sound idle-crowded (alike_same 31 full)

full_runs : running full 16 ≡ 1
full_runs = full-begun.runs 16 (omega arith) ∙ runs

course-back : (n : ℕ) → Course small 31 n full returning
unfolding small returning
course-back = ticked small small_is.held 2 0 there refl (omega arith) 31 none full-sound full_runs

given_back : Given small 31 1 2 2 crowded returning
unfolding small bit
given_back =
    let links = usual-crowded.links in
    let device : (e : ℕ) → Gets small 31 1 crowded e → e < devices small =
    λ e w. walk-device small small_is.held crowded 0 31 1 (node-there small_is 0 (omega arith)) w.1 in
    record {
      held = small_is.held;
      sound = usual-crowded.sound;
      permits = permits small_is 31 crowded links;
      place = omega arith;
      there = node-there small_is 0 (omega arith);
      requests = refl;
      no-event = refl;
      holds = λ e w. (holds_at e (device e w)).0;
      no_other = λ e h b. gets small_is 31 crowded links 0 (omega arith) e h;
      idle = idle-crowded;
      handles = refl;
      was-reached = gets small_is 31 crowded links 0 (omega arith) 2 (node-there small_is 1 (omega arith));
      farthest = far-back small_is 31 crowded links 0 (omega arith) 1 (omega arith);
      course = course-back (window 2);
      long = λ e w. (holds_at e (device e w)).1;
    }

-- a round before the end of a crossing the router, one crossing away from node 2, holds 31 still
late-back : bit (register (returning (crossing - 1)) 0) 31 ≡ 1
unfolding small returning
late-back =
    let took = called-took small 1 31 (omega arith) (omega arith) 2 (omega arith) crowded usual-crowded.sound.size in
    let first : Ready small small_is.held 1 (omega arith) 2 0 there refl (omega arith) full 0 full =
    record {
      sound = full-sound;
      runs = full_runs;
      start = took.turns 16 ∙ others-wait.1;
      late = took-late took 16 ∙ others-wait.2;
      waits = λ j a b. waits j b;
      alone = alone-begun small small_is.held 1 (omega arith) 2 0 there refl (omega arith) full-begun not-other;
      marks = λ e b. refl;
      long = λ e h b. omega (arith, long e h b);
    } in
    (slow small small_is.held 1 (omega arith) 2 0 there refl (omega arith) full first (crossing - 1) (omega arith)).ready.marks 0 (omega arith)
    ∙ (full-begun.others 0 (omega arith) (omega arith)).0 ∙ (holds_at 0 (omega arith)).0
  where
    waits : (j : ℕ) → j < 32 → bit (waiting full 1 16) j ≡ 1
    waits j b =
        elim (ℕ_discrete j 31) [
          | yes e ↦ rw e (full-begun.all 16 (omega arith) (record { here = omega arith; runs = runs; may = (leads-in small_is 1 31 (omega arith) crowded usual-crowded.links 1 (omega arith)).sends }))
          | no n ↦
              let like = call-apart small small_is.held crowded usual-crowded.sound j b 1 2 31 (omega arith) there (omega arith) (λ e. n (sym e)) in
              sym (like.waits 1 16 (omega arith) (omega arith)) ∙ others-wait.0 j (omega arith)
        ]

    -- no other port of node 2 runs
    not-other : (r : ℕ) → r / 8 ≡ 2 → r ≢ 16 → running crowded r ≡ 1 → ⊥
    not-other r own ne on =
        let joined = runs-joined small small_is.held usual-crowded.sound r (omega arith) on in
        let e : 8 * suc 1 + suc (r - 17) ≡ r = omega arith in
        omega (arith, small_is.no_more 1 (omega arith) (r - 17) (omega arith), ap (peer small) e)

    long : (e : ℕ) → e < devices small → bit (register full e) 31 ≡ 1 → 65 ≤ timer full e 31
    long e h b =
        elim (ℕ_discrete e 2) [
          | yes is ↦ absurd (omega (arith, full-begun.held, ap (λ i. bit (register full i) 31) is))
          | no ne ↦ let same = (full-begun.others e (omega arith) ne).1 in omega (arith, same, (holds_at e h).1)
        ]

pub no-fewer-back : (W : ℕ) → W < crossing → EnoughBack W → ⊥
unfolding EnoughBack
no-fewer-back W h all =
    omega (
      arith,
      late-back,
      all small 31 1 2 2 crowded returning given_back (found_back small_is 31 crowded usual-crowded.links 0 (omega arith) 1 (omega arith)) 1 0 (crossing - 1)
          (way_back small_is 31 crowded usual-crowded.links 0 (omega arith) 1 (omega arith)
          (to-router small_is 1 31 (omega arith) crowded usual-crowded.links 1 (omega arith))) (omega arith) (omega arith),
    )

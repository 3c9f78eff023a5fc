-- The computed test of a state is true exactly where the state is sound. `x-says` reads a test, `x-test` passes it.
use mathlib.Core.Path.{◌≡◌, refl, sym, ap, ap₂, ◌∙◌}
use mathlib.Core.Bool.{Bool, true, false, not, false≢true}
use mathlib.Core.Logic.{dite}
use Prim.Native.Nat.{ℕ, ◌+◌, ◌-◌, ◌*◌, ◌/◌, ◌%◌, ◌^◌, ◌≤◌, ◌<◌, min}
use native.Mathlib.Decide.{dec_lt, ℕ_discrete}
use native.Mathlib.Omega.{arith}
use lib.Dec.{eqb, ltb}
use lib.ListN.{get_or}
use borrow.Author.Tests.{eq-eqb, eqb-true, ne_eqb, lt-ltb, ltb-true, le-ltb, le-leb}
use Rattle.lists.proofs.Tests.{and_right, or_left, or_right, every-at, every-all}
use Rattle.bits.specs.Set.{bit}
use Rattle.bits.proofs.Sets.{bit-two}
use Rattle.device.specs.Permissions.{may_send}
use Rattle.plan.specs.Inner.Memory.{free_masks}
use Rattle.plan.specs.declared.Plan.{Plan}
use Rattle.lists.proofs.Facts.{facts}
use Rattle.state.specs.State.{State, word, device_words, ports_at, port_at, register, timer, waiting, running, counter, time, time_waits, drops_start, drops_at, drops, most_drops}
use Rattle.state.specs.Network.{devices, role, ports_of, exists, peer, permissions, guards, load_of}
use Rattle.state.specs.Sound.{Timed, Kept, Clocked, Guarded, Sound}
use Rattle.state.proofs.Keeping.{both-kinds}
use Rattle.state.specs.Inner.Tests.{timer_sound, device_timed, all_timed, zeros_in, rest_zero, flag_sound, may_wait, waiting_sound, port_kept, port_zero, port_sound, ports_sound, counter_sound, counters_sound, time_kept, time_sound, times_sound, count_sound, counts_sound, own_counts, drops_sound, sounds}

is_true : (b : Bool) → (b ≡ false → ⊥) → b ≡ true
is_true true h = refl
is_true false h = absurd (h refl)

-- ---- one timer

module _ (on t load : ℕ) where
  timer-says : timer_sound on t load ≡ true → (on ≡ 1 → (1 ≤ t) × (t ≤ load)) × (on ≡ 0 → t ≡ 0)
  unfolding timer_sound
  timer-says e = (λ b. simp facts at (rw b at e), λ b. simp facts at (rw b at e))

  timer-test : on < 2 → (on ≡ 1 → (1 ≤ t) × (t ≤ load)) → (on ≡ 0 → t ≡ 0) → timer_sound on t load ≡ true
  unfolding timer_sound
  timer-test two p q =
      elim (ℕ_discrete on 1) [
        | yes b ↦ rw b (simp facts (p b))
        | no n ↦ simp (ne_eqb on 1 n) (eq-eqb t 0 (q (omega arith)))
      ]

-- ---- one count, which a device has of its own or not

module _ (own j count : ℕ) where
  count-says : (b : Bool) → ltb j own ≡ b → count_sound own j count ≡ true → (count ≤ most_drops) × (b ≡ false → count ≡ 0)
  unfolding count_sound
  count-says true e f = (simp facts at (rw e at f), λ n. absurd (false≢true (sym n)))
  count-says false e f = let z = eqb-true count 0 (rw e at f) in (omega arith, λ n. z)

  count-test : (b : Bool) → ltb j own ≡ b → count ≤ most_drops → (b ≡ false → count ≡ 0) → count_sound own j count ≡ true
  unfolding count_sound
  count-test true e l z = rw e (simp facts l)
  count-test false e l z = rw e (eq-eqb count 0 (z refl))

-- ---- one port

-- where codes of a kind wait
module _ (kind codes flag allowed : ℕ) where
  wait-says : may_wait kind codes flag allowed ≡ true → (flag ≡ 0 → codes ≡ 0) × (may_send kind allowed ≡ false → codes ≡ 0)
  unfolding may_wait
  wait-says e =
      elim (ℕ_discrete codes 0) [
        | yes q ↦ (λ _. q, λ _. q)
        | no n ↦
            let f = simp (ne_eqb codes 0 n) at e in
            (λ z. absurd (false≢true (simp (eq-eqb flag 0 z) at f)), λ z. absurd (false≢true (sym z ∙ and_right (not (eqb flag 0)) _ f)))
      ]

  wait-test : (flag ≡ 0 → codes ≡ 0) → (may_send kind allowed ≡ false → codes ≡ 0) → may_wait kind codes flag allowed ≡ true
  unfolding may_wait
  wait-test p q =
      elim (ℕ_discrete codes 0) [
        | yes z ↦ simp (eq-eqb codes 0 z)
        | no n ↦ simp (ne_eqb codes 0 n, ne_eqb flag 0 (λ z. n (p z)), is_true (may_send kind allowed) (λ z. n (q z)))
      ]

-- the running flag
module _ (s : State) (flag far : ℕ) where
  flag-says : flag_sound s flag far ≡ true → (flag < 2) × (far < 256 → flag ≡ running s far) × (far ≡ 256 → flag ≡ 0)
  unfolding flag_sound
  flag-says e =
      let f = simp facts at e in (
        omega arith,
        λ l. eqb-true flag (running s far) (simp (ne_eqb far 256 (λ z. omega arith), le-ltb 256 far (omega arith)) at f).1,
        λ z. eqb-true flag 0 (simp (eq-eqb far 256 z) at f).1,
      )

  flag-test : flag < 2 → (far < 256 → flag ≡ running s far) → (far ≡ 256 → flag ≡ 0) → flag_sound s flag far ≡ true
  unfolding flag_sound
  flag-test l p q =
      simp (le-leb flag 1 (omega arith)) (elim (ℕ_discrete far 256) [
        | yes z ↦ simp (eq-eqb far 256 z) (eq-eqb flag 0 (q z))
        | no n ↦ simp (ne_eqb far 256 n) (dite (dec_lt 256 far)
            (λ g. or_left _ _ (lt-ltb 256 far g))
            (λ g. or_right (ltb 256 far) _ (eq-eqb flag (running s far) (p (omega arith)))))
      ])

module _ (plan : Plan) (s : State) where
  module _ (q : ℕ) where
    kept : port_kept s q (peer plan q) (permissions plan q) ≡ true → Kept plan s q
    unfolding port_kept waiting_sound
    kept e =
        let f = simp facts at e in
        let flags = flag-says s (running s q) (peer plan q) f.0.1 in
        let interrupts = wait-says 0 (waiting s 0 q) (running s q) (permissions plan q) f.1.0.1 in
        let acknowledges = wait-says 1 (waiting s 1 q) (running s q) (permissions plan q) f.1.1 in
        record {
          next-below = omega arith;
          flag = flags.0;
          both_ends = flags.1;
          loose = flags.2;
          apart = f.1.0.0;
          stopped = λ z. both-kinds (λ kind. waiting s kind q ≡ 0) (interrupts.0 z) (acknowledges.0 z);
          mute = both-kinds (λ kind. may_send kind (permissions plan q) ≡ false → waiting s kind q ≡ 0) interrupts.1 acknowledges.1;
        }

    kept_test : Kept plan s q → port_kept s q (peer plan q) (permissions plan q) ≡ true
    unfolding port_kept waiting_sound
    kept_test k =
        let waits : (kind : ℕ) → kind < 2 → may_wait kind (waiting s kind q) (running s q) (permissions plan q) ≡ true =
        λ kind l. wait-test kind (waiting s kind q) (running s q) (permissions plan q) (λ z. k.stopped z kind l) (k.mute kind l) in
        simp facts ((omega (arith, k.next-below), flag-test s (running s q) (peer plan q) k.flag k.both_ends k.loose), ((k.apart, waits 0 (omega arith)), waits 1 (omega arith)))

    -- a port that is there, and one that is not
    port-test : (there : Bool) → exists plan q ≡ there → (there ≡ true → Kept plan s q) → (there ≡ false → (i : ℕ) → i < 4 → word s (port_at q i) ≡ 0)
        → port_sound s q (get_or plan.core.ports (q / 8) 0) (peer plan q) (permissions plan q) ≡ true
    unfolding port_sound port_zero
    port-test true e k z = simp e (kept_test (k refl))
    port-test false e k z = simp e (every-all 4 _ (λ i l. eq-eqb (word s (port_at q i)) 0 (z refl i l)))

  -- ---- the state

  timed : all_timed (devices plan) plan.core.loads plan.core.role s ≡ true → (d k : ℕ) → d < devices plan → d < 32 → k < 32 → Timed plan s d k
  unfolding all_timed device_timed
  timed e d k h g l = let f = timer-says _ _ _ (every-at 32 _ (every-at (min (devices plan) 32) _ e d (omega arith)) k l) in record { on = f.0; off = f.1 }

  timed-test : ((d k : ℕ) → d < devices plan → d < 32 → k < 32 → Timed plan s d k) → all_timed (devices plan) plan.core.loads plan.core.role s ≡ true
  unfolding all_timed device_timed
  timed-test h =
      every-all _ _ (λ d l. every-all 32 _ (λ k g.
      let t = h d k (omega arith) (omega arith) g in
      timer-test (bit (register s d) k) (timer s d k) (load_of plan d k) (bit-two (register s d) k) t.on t.off))

  zeros-say : (from to : ℕ) → zeros_in from to s ≡ true → (i : ℕ) → from ≤ i → i < to → word s i ≡ 0
  unfolding zeros_in
  zeros-say from to e i h l =
      let place : from + (i - from) ≡ i = omega arith in
      eqb-true (word s i) 0 (rw place at (every-at (to - from) _ e (i - from) (omega arith)))

  zeros-test : (from to : ℕ) → ((i : ℕ) → from ≤ i → i < to → word s i ≡ 0) → zeros_in from to s ≡ true
  unfolding zeros_in
  zeros-test from to h = every-all (to - from) _ (λ i l. eq-eqb (word s (from + i)) 0 (h (from + i) (omega arith) (omega arith)))

  rest : rest_zero (devices plan) s ≡ true → (d i : ℕ) → devices plan ≤ d → d < 32 → i < device_words → word s (device_words * d + i) ≡ 0
  rest e d i h l g = zeros-say (device_words * devices plan) ports_at e (device_words * d + i) (omega arith) (omega arith)

  rest-test : ((d i : ℕ) → devices plan ≤ d → d < 32 → i < device_words → word s (device_words * d + i) ≡ 0) → rest_zero (devices plan) s ≡ true
  rest-test h =
      zeros-test (device_words * devices plan) ports_at
      (λ i g l. ap (word s) (omega arith) ∙ h (i / device_words) (i % device_words) (omega arith) (omega arith) (omega arith))

  -- ---- Time-Codes

  module _ (d : ℕ) where
    counter-says : counter_sound s (devices plan) d ≡ true → (counter s d < 64) × (devices plan ≤ d → counter s d ≡ 0)
    unfolding counter_sound
    counter-says e =
        dite (dec_lt d (devices plan)) (λ l. (ltb-true (counter s d) 64 (simp (lt-ltb d (devices plan) l) at e), λ h. absurd (omega arith)))
        (λ l. let z = eqb-true (counter s d) 0 (simp (le-ltb d (devices plan) (omega arith)) at e) in (omega (arith, z), λ h. z))

    counter-test : counter s d < 64 → (devices plan ≤ d → counter s d ≡ 0) → counter_sound s (devices plan) d ≡ true
    unfolding counter_sound
    counter-test small none =
        dite (dec_lt d (devices plan)) (λ l. simp (lt-ltb d (devices plan) l) (lt-ltb (counter s d) 64 small))
        (λ l. simp (le-ltb d (devices plan) (omega arith)) (eq-eqb (counter s d) 0 (none (omega arith))))

  -- a port's word, by whether the port is there
  module _ (q : ℕ) where
    abbrev Timely : Bool → Type 0
    Timely there = (time_waits s q ≤ 64) × (time s q < 256) × (running s q ≡ 0 → time_waits s q ≡ 0) × (there ≡ false → time s q ≡ 0)

    time-says : (there : Bool) → exists plan q ≡ there → time_sound s q (ports_of plan (q / 8)) ≡ true → Timely there
    unfolding time_sound time_kept
    time-says false y e = let z = eqb-true (time s q) 0 (simp y at e) in (omega (arith, z), omega (arith, z), λ _. omega (arith, z), λ _. z)
    time-says true y e =
        let f = simp facts at (simp y at e) in
        (f.0.0, f.0.1, λ z. eqb-true (time_waits s q) 0 (simp (eq-eqb (running s q) 0 z) at f.1), λ n. absurd (false≢true (sym n)))

    time-test : (there : Bool) → exists plan q ≡ there → Timely there → time_sound s q (ports_of plan (q / 8)) ≡ true
    unfolding time_sound time_kept
    time-test false y t = simp y (eq-eqb (time s q) 0 (t.3 refl))
    time-test true y t =
        simp (y, le-leb (time_waits s q) 64 t.0, lt-ltb (time s q) 256 t.1) (elim (ℕ_discrete (running s q) 0) [
          | yes z ↦ or_right (not (eqb (running s q) 0)) _ (eq-eqb (time_waits s q) 0 (t.2 z))
          | no n ↦ simp (ne_eqb (running s q) 0 n)
        ])

  clocked : counters_sound (devices plan) s ≡ true → times_sound plan.core.ports s ≡ true → Clocked plan s
  unfolding counters_sound times_sound
  clocked e f =
      let count : (d : ℕ) → d < 32 → (counter s d < 64) × (devices plan ≤ d → counter s d ≡ 0) = λ d h. counter-says d (every-at 32 _ e d h) in
      let word : (q : ℕ) → q < 256 → Timely q (exists plan q) = λ q h. time-says q (exists plan q) refl (every-at 256 _ f q h) in
      record {
        counters = λ d h. (count d h).0;
        ranges = λ q h. ((word q h).0, (word q h).1);
        stopped = λ q h. (word q h).2;
        no-counter = λ d l h. (count d h).1 l;
        no_word = λ q h. (word q h).3;
      }

  counters-test : Clocked plan s → counters_sound (devices plan) s ≡ true
  unfolding counters_sound
  counters-test c = every-all 32 _ (λ d h. counter-test d (c.counters d h) (λ l. c.no-counter d l h))

  times-test : Clocked plan s → times_sound plan.core.ports s ≡ true
  unfolding times_sound
  times-test c =
      every-all 256 _ (λ q h. time-test q (exists plan q) refl ((c.ranges q h).0, (c.ranges q h).1, c.stopped q h, c.no_word q h))

  -- ---- drops

  abbrev own : ℕ → ℕ
  own = own_counts (devices plan) plan.core.role plan.core.ports

  -- a count is the device's own where a router has the port
  own-guards : (q kind : ℕ) → kind < 2 → ltb (2 * (q % 8) + kind) (own (q / 8)) ≡ guards plan q
  unfolding own_counts free_masks
  own-guards q kind l =
      dite (dec_lt (q / 8) (devices plan))
      (λ h. rw (lt-ltb (q / 8) (devices plan) h) (elim (ℕ_discrete (role plan (q / 8)) 1) [
        | yes e ↦ rw (eq-eqb (role plan (q / 8)) 1 e) (dite (dec_lt (q % 8) (ports_of plan (q / 8)))
            (λ g. rw (lt-ltb (q % 8) (ports_of plan (q / 8)) g) (lt-ltb (2 * (q % 8) + kind) (min (2 * ports_of plan (q / 8)) 16) (omega arith)))
            (λ g. rw (le-ltb (q % 8) (ports_of plan (q / 8)) (omega arith)) (le-ltb (2 * (q % 8) + kind) (min (2 * ports_of plan (q / 8)) 16) (omega arith))))
        | no n ↦ rw (ne_eqb (role plan (q / 8)) 1 n) (le-ltb (2 * (q % 8) + kind) 0 (omega arith))
      ]))
      (λ h. rw (le-ltb (q / 8) (devices plan) (omega arith)) (le-ltb (2 * (q % 8) + kind) 0 (omega arith)))

  guarded : drops_sound (devices plan) plan.core.role plan.core.ports s ≡ true → Guarded plan s
  unfolding drops_sound counts_sound
  guarded e =
      let count : (q kind : ℕ) → q < 256 → kind < 2 → (drops s kind q ≤ most_drops) × (guards plan q ≡ false → drops s kind q ≡ 0) =
      λ q kind h l.
      let at : drops_start + 16 * (q / 8) + (2 * (q % 8) + kind) ≡ drops_at q kind = omega arith in
      count-says (own (q / 8)) (2 * (q % 8) + kind) (drops s kind q) (guards plan q) (own-guards q kind l)
      (rw at at (every-at 16 _ (every-at 32 _ e (q / 8) (omega arith)) (2 * (q % 8) + kind) (omega arith))) in
      record { counts = λ q kind h l. (count q kind h l).0; no-count = λ q kind h l. (count q kind h l).1 }

  drops-test : Guarded plan s → drops_sound (devices plan) plan.core.role plan.core.ports s ≡ true
  unfolding drops_sound counts_sound
  drops-test g =
      every-all 32 _ (λ d h. every-all 16 _ (λ j l.
      let q = 8 * d + j / 2 in
      let kind = j % 2 in
      let at : drops_start + 16 * d + j ≡ drops_at q kind = omega arith in
      let device : q / 8 ≡ d = omega arith in
      let place : 2 * (q % 8) + kind ≡ j = omega arith in
      let mine : ltb j (own d) ≡ guards plan q = ap₂ (λ a b. ltb a (own b)) (sym place) (sym device) ∙ own-guards q kind (omega arith) in
      rw at (count-test (own d) j (drops s kind q) (guards plan q) mine (g.counts q kind (omega arith) (omega arith)) (g.no-count q kind (omega arith) (omega arith)))))

  pub sounds-sound : ((i : ℕ) → word s i < 2 ^ 32) → sounds plan s ≡ true → Sound plan s
  unfolding sounds ports_sound port_sound port_zero
  sounds-sound fit e =
      let every = simp facts at e in
      let all = every.0 in
      let f = all.0.0 in
      record {
        size = f.0.0.0;
        fits = fit;
        timers = timed f.0.0.1;
        ports = λ q l there. kept q (simp there at (f.1 q l));
        no-device = rest f.0.1;
        no-port = λ q i l there g. eqb-true (word s (port_at q i)) 0 (every-at 4 _ (simp there at (f.1 q l)) i g);
        clock = clocked all.0.1 all.1;
        guard = guarded every.1;
      }

  pub sound-sounds : Sound plan s → sounds plan s ≡ true
  unfolding sounds ports_sound
  sound-sounds h =
      simp facts (
        (
          (
            (((h.size, timed-test h.timers), rest-test h.no-device), λ q l. port-test q (exists plan q) refl (h.ports q l) (λ z i g. h.no-port q i l z g)),
            counters-test h.clock,
          ),
          times-test h.clock,
        ),
        drops-test h.guard,
      )

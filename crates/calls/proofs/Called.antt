-- Every call that is taken keeps a sound state sound; and what a tick changes.
use mathlib.Core.Path.{◌≡◌, refl, sym, ap, subst, ◌∙◌}
use mathlib.Core.Bool.{Bool, true, false}
use mathlib.Core.Logic.{◌⊎◌, inl, inr, ◌≢◌, dite}
use Prim.Native.Nat.{ℕ, ◌+◌, ◌*◌, ◌/◌, ◌%◌, ◌≤◌, ◌<◌}
use native.Mathlib.Decide.{dec_lt}
use native.Mathlib.Omega.{arith}
use lib.Bits.{and_zero_l}
use lib.ListN.{length}
use Rattle.bits.specs.Set.{bit}
use Rattle.bits.proofs.Sets.{bit-zero}
use Rattle.device.specs.Reaction.{next_time}
use Rattle.plan.specs.Fields.{nobody}
use Rattle.plan.specs.Reading.{Held}
use Rattle.plan.specs.declared.Plan.{Plan}
use Rattle.state.specs.State.{State, words, word, put, ports_end, port_at, running_at, running, counter_at, counter, time_at, time_waits, lately, drops_start, most_drops}
use Rattle.state.specs.Network.{devices, ports_of, exists, peer}
use Rattle.state.specs.Sound.{Sound}
use Rattle.state.specs.Mark.{mark}
use Rattle.state.proofs.Words.{length-put, word_same, word-other}
use Rattle.state.proofs.Plans.{FarEnd, few, port-there, far-end}
use Rattle.state.proofs.Keeping.{device-step, empty-step, sets-step, flags-step, clock-step, behind-step, clock-same}
use Rattle.state.proofs.Marks.{mark-step}
use Rattle.state.proofs.Waits.{queue-all-sound}
use Rattle.state.proofs.Times.{time-step, counter-step, queue-time-sound, length-times, queue-times-left, queue-times-lately, queue-times-cases, queue-times-waits}
use Rattle.calls.specs.Calls.{called, drained, advanced, switched, reset}
use Rattle.calls.specs.Inner.Steps.{cleared, emptied, untimed, uncounted}
use Rattle.calls.proofs.Stopping.{both-drained, both-timeless}
use Rattle.calls.proofs.Zeros.{cleared-register, cleared-timer, cleared-left, cleared-fits, emptied-left, emptied-port, emptied-flag, emptied-fits, untimed-left, untimed-counter, untimed-word, untimed-fits, uncounted-left, uncounted-count, uncounted-fits, reset-steps}

-- a tick changes a counter and what ports have of Time-Codes, and no word in front of these, or behind
tick-elsewhere : (d : ℕ) → d < 32 → (s : State) (i : ℕ) → (ports_end ≤ i → i < drops_start → ⊥) → word (advanced d s) i ≡ word s i
unfolding advanced
tick-elsewhere d h s i l =
    let v = next_time (counter s d) in
    queue-times-left i (λ q m e. l (omega arith) (omega arith)) v d nobody h (put s (counter_at d) v) ∙ word-other s (counter_at d) v i (λ e. l (omega arith) (omega arith))

pub tick-left : (d : ℕ) → d < 32 → (s : State) (i : ℕ) → i < ports_end → word (advanced d s) i ≡ word s i
tick-left d h s i l = tick-elsewhere d h s i (λ a b. omega arith)

pub tick-drops : (d : ℕ) → d < 32 → (s : State) (i : ℕ) → drops_start ≤ i → word (advanced d s) i ≡ word s i
tick-drops d h s i l = tick-elsewhere d h s i (λ a b. omega arith)

pub tick-size : (d : ℕ) (s : State) → length (advanced d s) ≡ length s
unfolding advanced
tick-size d s = length-times (next_time (counter s d)) d nobody _ ∙ length-put s (counter_at d) _

-- the counter goes on, and no other does
pub tick-counts : (d : ℕ) → d < 32 → (s : State) → length s ≡ words → counter (advanced d s) d ≡ next_time (counter s d)
unfolding advanced
tick-counts d h s size =
    let v = next_time (counter s d) in
    queue-times-left (counter_at d) (λ q m. omega arith) v d nobody h (put s (counter_at d) v) ∙ word_same s (counter_at d) v (omega arith)

pub tick-counts-else : (d e : ℕ) → d < 32 → e < 32 → e ≢ d → (s : State) → counter (advanced d s) e ≡ counter s e
unfolding advanced
tick-counts-else d e h l ne s =
    let v = next_time (counter s d) in
    queue-times-left (counter_at e) (λ q m. omega arith) v d nobody h (put s (counter_at d) v) ∙ word-other s (counter_at d) v (counter_at e) (omega arith)

-- what waits at a port of another device is as it was; at a port of its own it is as it was, or is the new Time-Code
pub tick-only : (d : ℕ) → d < 32 → (s : State) → length s ≡ words → (q : ℕ) → q < 256
    → (time_waits (advanced d s) q ≡ time_waits s q) ⊎ ((time_waits (advanced d s) q ≡ next_time (counter s d) + 1) × (q / 8 ≡ d))
unfolding advanced
tick-only d h s size q l =
    let v = next_time (counter s d) in
    let same : time_waits (put s (counter_at d) v) q ≡ time_waits s q = ap (λ n. n % 128) (word-other s (counter_at d) v (time_at q) (omega arith)) in
    elim (queue-times-cases v d nobody q (omega arith) l (put s (counter_at d) v) (length-put s (counter_at d) v ∙ size)) [
      | inl o ↦ inl (o ∙ same)
      | inr o ↦ inr o
    ]

-- at a port that runs, a Time-Code then waits
pub tick-waits : (d p : ℕ) → d < 32 → p < 8 → (s : State) → length s ≡ words → running s (8 * d + p) ≡ 1
    → time_waits (advanced d s) (8 * d + p) ≡ next_time (counter s d) + 1
unfolding advanced
tick-waits d p h small s size runs =
    let v = next_time (counter s d) in
    queue-times-waits v d nobody p (omega arith) h small (omega arith) (put s (counter_at d) v) (length-put s (counter_at d) v ∙ size)
    (word-other s (counter_at d) v (port_at (8 * d + p) running_at) (omega arith) ∙ runs)

-- it changes at no port whether the last code sent was a Time-Code
pub tick-lately : (d : ℕ) → d < 32 → (s : State) → length s ≡ words → (q : ℕ) → q < 256 → lately (advanced d s) q ≡ lately s q
unfolding advanced
tick-lately d h s size q l =
    let v = next_time (counter s d) in
    queue-times-lately q l v d nobody (omega arith) (put s (counter_at d) v) (length-put s (counter_at d) v ∙ size) ∙ rw (word-other s (counter_at d) v (time_at q) (omega arith))

module _ (plan : Plan) (held : Held plan) where
  -- ---- the register and the timers of a device become 0

  module _ (d : ℕ) (h : d < devices plan) (s : State) (x : Sound plan s) where
    cleared-sound : Sound plan (cleared d s)
    cleared-sound =
        let small : d < 32 = omega (arith, few plan held) in
        device-step plan held x (cleared-fits d s x.size x.fits) d h (cleared-left d s x.size)
        (λ k l. record {
          on = λ b. absurd (omega (arith, bit-zero k, ap (λ r. bit r k) (cleared-register d s x.size small)));
          off = λ b. cleared-timer d s x.size k small l;
        })

  -- ---- a counter and its ports' words of Time-Codes become 0

  untimed-sound : (d : ℕ) (s : State) → Sound plan s → Sound plan (untimed d s)
  untimed-sound d s x =
      clock-step plan held x (untimed-fits d s x.size x.fits) (untimed-left d s x.size)
      (record {
        counters = λ e h. untimed-counter d s x.size e h (λ v. v < 64) (omega arith) (x.clock.counters e h);
        ranges = λ q h. untimed-word d s x.size q h (λ v. (v % 128 ≤ 64) × (v < 256)) (omega arith, omega arith) (x.clock.ranges q h);
        stopped = λ q h z.
            untimed-word d s x.size q h (λ v. v % 128 ≡ 0) (omega arith) (x.clock.stopped q h (sym (untimed-left d s x.size (port_at q running_at) (λ a b. absurd (omega arith))) ∙ z));
        no-counter = λ e l h. untimed-counter d s x.size e h (λ v. v ≡ 0) refl (x.clock.no-counter e l h);
        no_word = λ q h y. untimed-word d s x.size q h (λ v. v ≡ 0) refl (x.clock.no_word q h y);
      })

  -- ---- what its ports dropped becomes 0

  uncounted-sound : (d : ℕ) (s : State) → Sound plan s → Sound plan (uncounted d s)
  uncounted-sound d s x =
      behind-step plan held x (uncounted-fits d s x.size x.fits) (λ i h. uncounted-left d s x.size i (omega arith))
      (clock-same x.clock (λ i h l. uncounted-left d s x.size i l) (λ q h z. x.clock.stopped q h (sym (uncounted-left d s x.size (port_at q running_at) (omega arith)) ∙ z)))
      (record {
        counts = λ q kind h l. uncounted-count d s x.size q kind h l (λ v. v ≤ most_drops) (omega arith) (x.guard.counts q kind h l);
        no-count = λ q kind h l y. uncounted-count d s x.size q kind h l (λ v. v ≡ 0) refl (x.guard.no-count q kind h l y);
      })

  module _ (s : State) (x : Sound plan s) where
    -- a tick of the master
    pub tick-sound : (d : ℕ) → d < devices plan → Sound plan (advanced d s)
    unfolding advanced
    tick-sound d h =
        let n = few plan held in
        let v = next_time (counter s d) in
        queue-time-sound plan held v d nobody (omega arith) (omega arith) _ (counter-step plan held x d v h (omega arith))

    -- a request (kind 0) or an acknowledge (kind 1) by the host of a node
    pub call-sound : (kind d k : ℕ) → kind < 2 → d < devices plan → k < 32 → Sound plan (called plan kind d k s)
    unfolding called
    call-sound kind d k g h l = queue-all-sound plan held kind k d nobody g l h (mark plan kind d k s) (mark-step plan held x d h kind k g l)

    pub reset-sound : (d : ℕ) → d < devices plan → Sound plan (reset d s)
    reset-sound d h =
        let y = cleared-sound d h s x in
        let t = cleared d s in
        let z : Sound plan (emptied d t) =
        empty-step plan held y (emptied-fits d t y.size y.fits) (emptied-left d t y.size)
        (λ q. dite (dec_lt q 256) (emptied-flag d t y.size q) (λ n. emptied-left d t y.size (port_at q running_at) (λ a b. omega arith)))
        (λ q i l m. emptied-port d t y.size q i l (omega arith)) in
        subst (Sound plan) (reset-steps d s) (uncounted-sound d _ (untimed-sound d (emptied d t) z))

    -- nothing waits at a port any more
    drained-sound : (q : ℕ) → q < 256 → exists plan q ≡ true → Sound plan (drained q s)
    drained-sound q h there =
        let y =
        sets-step plan held x q h there (λ _. 0)
        (record { fits = λ kind g. omega arith; apart = and_zero_l 0; stopped = λ z kind g. refl; mute = λ kind g z. refl }) in
        time-step plan held y q 0 h (omega arith) (omega arith) (λ z. refl) (λ z. refl)

  -- ---- the link at port p of device d

  module _ (s : State) (x : Sound plan s) (d p : ℕ) (h : d < devices plan) (l : p < ports_of plan d) (link : peer plan (8 * d + p) < nobody) where
    abbrev q : ℕ
    q = 8 * d + p

    there : (q < 256) × (exists plan q ≡ true)
    there = port-there plan held d p h l

    end : FarEnd plan q
    end = far-end plan held q there.0 there.1 link

    near : Sound plan (drained q s)
    near = drained-sound s x q there.0 there.1

    pub link-sound : (runs : Bool) → Sound plan (switched plan runs q s)
    unfolding switched
    link-sound true = flags-step plan held x q there.0 there.1 link 1 (omega arith) (λ kind g z. absurd (omega arith)) (λ z. absurd (omega arith))
    link-sound false =
        flags-step plan held (drained-sound _ near (peer plan q) link end.far) q there.0 there.1 link 0 (omega arith)
        (λ kind g z. both-drained s q (peer plan q) x.size there.0 link end.other kind g)
        (λ z. let t = both-timeless s q (peer plan q) x.size there.0 link end.other in (rw t.0, rw t.1))

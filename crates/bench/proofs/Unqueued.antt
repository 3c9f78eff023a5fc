-- The code that is sent waits no more: a sound state stays sound, and no word changes but those of ports.
use mathlib.Core.Path.{◌≡◌, refl, sym, ap, ◌∙◌}
use mathlib.Core.Bool.{Bool, true, false, false≢true}
use mathlib.Core.Logic.{◌≢◌}
use Prim.Native.Nat.{ℕ, ◌*◌, ◌≤◌, ◌<◌}
use native.Mathlib.Omega.{arith}
use lib.Bits.{bit_or, or_zero_l}
use lib.ListN.{length}
use Rattle.lists.proofs.Loops.{keeps, untouched}
use Rattle.bits.specs.Set.{leave}
use Rattle.bits.specs.First.{Finds, following}
use Rattle.std.specs.Prelude.{Option, Some, None}
use Rattle.bits.proofs.Sets.{bit-zero, leave-lt}
use Rattle.plan.specs.Reading.{Held}
use Rattle.plan.specs.declared.Plan.{Plan}
use Rattle.state.specs.State.{State, word, ports_at, ports_end, port_at, waiting, next_at, next, time_at, time_waits}
use Rattle.state.specs.Network.{devices, exists}
use Rattle.state.specs.Sound.{Kept, Sound}
use Rattle.state.proofs.Words.{length-put, word-other}
use Rattle.state.proofs.Plans.{few}
use Rattle.state.proofs.Keeping.{sets-step, next-step}
use Rattle.state.proofs.Waits.{leave-zero, not-absent, left-apart}
use Rattle.state.proofs.Times.{time-step}
use Rattle.bench.specs.Round.{time_goes, chosen, unqueued, stamped, posts, posted}
use Rattle.bench.proofs.Stepped.{chosen-first, first_finds, goes-not}

module _ (plan : Plan) (held : Held plan) {s : State} (x : Sound plan s) (q : ℕ) (small : q < 256) where
  module _ {old : State} (y : Sound plan old) where
    unqueued-step : Sound plan (unqueued old q s)
    unfolding unqueued Finds following
    unqueued-step = by-choice (chosen old q) refl
      where
        by-choice : (c : Option ℕ) → chosen old q ≡ c → Sound plan (unqueued old q s)
        by-choice None e = rw (e, unqueued) x
        by-choice (Some k) e =
            let f : Finds (bit_or (waiting old 0 q) (waiting old 1 q)) (next old q) (Some k) = rw (chosen-first old q e).1 at (first_finds old q) in
            let there : exists plan q ≡ true =
            not-absent (exists plan q)
            (λ n. omega (arith, bit-zero k, rw (y.no-port q 0 small n (omega arith), y.no-port q 1 small n (omega arith), or_zero_l 0) at f.member)) in
            let now : Kept plan s q = x.ports q small there in
            rw (e, unqueued)
            (next-step plan held
            (sets-step plan held x q small there (λ j. leave (waiting s j q) k)
            (record {
              fits = λ j g. leave-lt (waiting s j q) k (x.fits (port_at q j));
              apart = left-apart k f.place (waiting s 0 q) (waiting s 1 q) now.apart (x.fits (port_at q 0));
              stopped = λ z j g. ap (λ v. leave v k) (now.stopped z j g) ∙ leave-zero k;
              mute = λ j g z. ap (λ v. leave v k) (now.mute j g z) ∙ leave-zero k;
            }))
            q small there (following (next old q) (Some k)) (omega arith))

    -- a Time-Code goes only from a port that exists
    time-there : time_goes old q ≡ true → exists plan q ≡ false → ⊥
    time-there g n = false≢true (sym (goes-not old q (rw (y.clock.no_word q small n))) ∙ g)

  stamped-step : (goes : Bool) (c : Option ℕ) → (goes ≡ true → exists plan q ≡ false → ⊥) → Sound plan (stamped goes c q s)
  unfolding stamped
  stamped-step true c there = time-step plan held x q 128 small (omega arith) (omega arith) (λ z. omega arith) (λ n. absurd (there refl n))
  stamped-step false None there = x
  stamped-step false (Some k) there =
      let r = x.clock.ranges q small in
      time-step plan held x q (time_waits s q) small (omega (arith, r.0)) (omega arith) (λ z. omega (arith, x.clock.stopped q small z)) (λ n. rw (x.clock.no_word q small n))

-- ---- at all ports

module _ (plan : Plan) (held : Held plan) where
  pub posted-sound : (old : State) → Sound plan old → (s : State) → Sound plan s → Sound plan (posted plan old s)
  unfolding posted
  posted-sound old y s x =
      let n = few plan held in
      keeps (posts old) (Sound plan) (8 * devices plan)
      (λ q t l z. stamped-step plan held (unqueued-step plan held z q (omega arith) y) q (omega arith) (time_goes old q) (chosen old q) (time-there plan held z q (omega arith) y)) s x

-- ---- what it leaves

unqueued-left : (old : State) (q i : ℕ) (s : State) → q < 256 → (ports_at ≤ i → i < ports_end → ⊥) → word (unqueued old q s) i ≡ word s i
unfolding unqueued
unqueued-left old q i s l out = by-choice (chosen old q) refl
  where
    by-choice : (c : Option ℕ) → chosen old q ≡ c → word (unqueued old q s) i ≡ word s i
    by-choice None e = rw (e, unqueued)
    by-choice (Some k) e =
        rw (e, unqueued)
        (word-other _ (port_at q next_at) _ i (λ z. out (omega arith) (omega arith))
        ∙ word-other _ (port_at q 1) _ i (λ z. out (omega arith) (omega arith))
        ∙ word-other s (port_at q 0) _ i (λ z. out (omega arith) (omega arith)))

-- the port's word of Time-Codes is one word
pub stamped-other : (time : Bool) (c : Option ℕ) (q : ℕ) (s : State) (i : ℕ) → i ≢ time_at q → word (stamped time c q s) i ≡ word s i
unfolding stamped
stamped-other true c q s i ne = word-other s (time_at q) _ i ne
stamped-other false None q s i ne = refl
stamped-other false (Some k) q s i ne = word-other s (time_at q) _ i ne

pub stamped-size : (time : Bool) (c : Option ℕ) (q : ℕ) (s : State) → length (stamped time c q s) ≡ length s
unfolding stamped
stamped-size true c q s = length-put s (time_at q) _
stamped-size false None q s = refl
stamped-size false (Some k) q s = length-put s (time_at q) _

pub posted-left : (plan : Plan) → Held plan → (old : State) (i : ℕ) (s : State) → (ports_at ≤ i → i < ports_end → ⊥) → i < time_at 0 → word (posted plan old s) i ≡ word s i
unfolding posted
posted-left plan held old i s out h =
    let n = few plan held in
    untouched (posts old) (λ t. word t i) (8 * devices plan)
    (λ q t l. stamped-other (time_goes old q) (chosen old q) q (unqueued old q t) i (omega arith) ∙ unqueued-left old q i t (omega arith) out) s

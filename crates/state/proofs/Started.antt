-- The start state is sound.
use mathlib.Core.Path.{◌≡◌, sym, ap, ◌∙◌}
use mathlib.Core.Bool.{Bool, true, false, cond, not}
use Prim.Native.Nat.{ℕ, ◌+◌, ◌*◌, ◌^◌, ◌≤◌, ◌<◌}
use native.Mathlib.Decide.{ℕ_discrete}
use native.Mathlib.Omega.{arith}
use lib.Dec.{eqb}
use lib.ListN.{length}
use borrow.Author.Tests.{eq-eqb, ne_eqb}
use Rattle.bits.specs.Set.{bit}
use Rattle.bits.proofs.Sets.{bit-zero}
use Rattle.plan.specs.Fields.{nobody}
use Rattle.plan.specs.Reading.{Held}
use Rattle.plan.specs.declared.Plan.{Plan}
use Rattle.state.specs.State.{words, word, device_words, ports_at, ports_end, register_at, timer_at, port_at, running_at, running, counter_at, time_at, drops_at}
use Rattle.state.specs.Network.{peer}
use Rattle.state.specs.Sound.{Sound}
use Rattle.state.specs.Start.{started}
use Rattle.state.proofs.Words.{word-past}
use Rattle.state.proofs.Parts.{by_place, by-behind, length-state, register_of, timer-of, port-of, counter-of, time-of, drops-of}
use Rattle.state.proofs.Plans.{few, absent-loose, far-end}

module _ (plan : Plan) where
  start-length : length (started plan) ≡ words
  start-length = length-state _

  -- nothing at a device
  pub start-device : (i : ℕ) → i < ports_at → word (started plan) i ≡ 0
  start-device =
      by_place (λ i. i < ports_at → word (started plan) i ≡ 0) (λ d h l. register_of _ d h) (λ d k h l m. timer-of _ d k h l) (λ q i h l m. absurd (omega arith))
      (λ i h l. absurd (omega arith))

  module _ (q : ℕ) (small : q < 256) where
    -- nothing waits at a port, and its search starts at 0
    pub start-port : (i : ℕ) → i < running_at → word (started plan) (port_at q i) ≡ 0
    start-port i h = port-of _ q i small (omega arith) ∙ rw (ne_eqb i running_at (omega arith))

    -- it runs where it is connected
    start-running : running (started plan) q ≡ cond (not (eqb (peer plan q) nobody)) 1 0
    start-running = port-of _ q running_at small (omega arith)

    start-flag : running (started plan) q < 2
    start-flag = rw start-running (by-test (eqb (peer plan q) nobody))
      where
        by-test : (t : Bool) → cond (not t) 1 0 < 2
        by-test true = omega arith
        by-test false = omega arith

    start-loose : peer plan q ≡ nobody → running (started plan) q ≡ 0
    start-loose e = start-running ∙ rw (eq-eqb (peer plan q) nobody e)

    pub start-joined : peer plan q < nobody → running (started plan) q ≡ 1
    start-joined l = start-running ∙ rw (ne_eqb (peer plan q) nobody (omega arith))

  -- nothing behind the ports
  pub start-behind : (i : ℕ) → ports_end ≤ i → word (started plan) i ≡ 0
  start-behind = by-behind (λ i. word (started plan) i ≡ 0) (λ d h. counter-of _ d h) (λ q h. time-of _ q h) (λ q kind h l. drops-of _ q kind h l)
      (λ i h. word-past (started plan) i (omega (arith, start-length)))

  start_small : (i : ℕ) → word (started plan) i < 2 ^ 32
  start_small =
      by_place (λ i. word (started plan) i < 2 ^ 32) (λ d h. omega (arith, start-device (register_at d) (omega arith)))
      (λ d k h l. omega (arith, start-device (timer_at d k) (omega arith)))
      (λ q i h l. elim (ℕ_discrete i running_at) [
        | yes z ↦ rw z (omega (arith, start-flag q h))
        | no n ↦ omega (arith, start-port q h i (omega arith))
      ])
      (λ i h. omega (arith, start-behind i h))

  pub started-sound : Held plan → Sound plan (started plan)
  started-sound held =
      let n = few plan held in
      record {
        size = start-length;
        fits = start_small;
        timers = λ d k h g l.
            let none = start-device (register_at d) (omega arith) in
            record {
              on = λ b. absurd (omega (arith, bit-zero k, ap (λ r. bit r k) none));
              off = λ b. start-device (timer_at d k) (omega arith);
            };
        ports = λ q h e. record {
          next-below = omega (arith, start-port q h 2 (omega arith));
          flag = start-flag q h;
          both_ends = λ l. let end = far-end plan held q h e l in start-joined q h l ∙ sym (start-joined (peer plan q) l (omega (arith, end.back)));
          loose = start-loose q h;
          apart = rw (start-port q h 0 (omega arith));
          stopped = λ z kind l. start-port q h kind (omega arith);
          mute = λ kind l z. start-port q h kind (omega arith);
        };
        no-device = λ d i l h m. start-device (device_words * d + i) (omega arith);
        no-port = λ q i h e l. elim (ℕ_discrete i running_at) [
          | yes z ↦ ap (λ j. word (started plan) (port_at q j)) z ∙ start-loose q h (absent-loose plan held q h e)
          | no ne ↦ start-port q h i (omega arith)
        ];
        clock = record {
          counters = λ d h. omega (arith, start-behind (counter_at d) (omega arith));
          ranges = λ q h. let z = start-behind (time_at q) (omega arith) in (omega (arith, z), omega (arith, z));
          stopped = λ q h z. rw (start-behind (time_at q) (omega arith));
          no-counter = λ d l h. start-behind (counter_at d) (omega arith);
          no_word = λ q h y. start-behind (time_at q) (omega arith);
        };
        guard = record {
          counts = λ q kind h l. omega (arith, start-behind (drops_at q kind) (omega arith));
          no-count = λ q kind h l y. start-behind (drops_at q kind) (omega arith);
        };
      }

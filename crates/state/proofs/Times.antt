-- A Time-Code is queued: a sound state stays sound, and no word changes but those of Time-Codes at the ports that run.
use mathlib.Core.Path.{◌≡◌, refl, sym, ◌∙◌}
use mathlib.Core.Bool.{Bool, true, false, cond, ◌&&◌, false≢true}
use mathlib.Core.Logic.{◌⊎◌, inl, inr, ◌≢◌}
use Prim.Native.Nat.{ℕ, ◌+◌, ◌*◌, ◌/◌, ◌%◌, ◌≤◌, ◌<◌}
use native.Mathlib.Decide.{ℕ_discrete}
use native.Mathlib.Omega.{arith}
use lib.Dec.{eqb, ltb}
use lib.ListN.{length}
use borrow.Author.Tests.{eq-eqb, ne_eqb, eqb-true, lt-ltb, ltb-true}
use Rattle.lists.proofs.Loops.{keeps, untouched, hit}
use Rattle.plan.specs.Reading.{Held}
use Rattle.plan.specs.declared.Plan.{Plan}
use Rattle.state.specs.State.{State, words, word, put, running_at, port_at, running, counter_at, time_at, time, time_waits, lately}
use Rattle.state.specs.Network.{devices, exists}
use Rattle.state.specs.Sound.{Sound}
use Rattle.state.specs.Queue.{queue_time, queue_time_but, queue_time_all, queue_time_in}
use Rattle.state.proofs.Words.{length-put, word_same, word-other}
use Rattle.state.proofs.Plans.{few}
use Rattle.state.proofs.Keeping.{put-fits, sound-fits, clock-step}
use Rattle.state.proofs.Waits.{not-absent}

-- ---- one word of Time-Codes is put

module _ (plan : Plan) (held : Held plan) {s : State} (x : Sound plan s) where
  -- a port's word, which is in range, and has a value only where the port runs
  pub time-step : (q v : ℕ) → q < 256 → v % 128 ≤ 64 → v < 256 → (running s q ≡ 0 → v % 128 ≡ 0) → (exists plan q ≡ false → v ≡ 0) → Sound plan (put s (time_at q) v)
  time-step q v h a b still none =
      let t : State = put s (time_at q) v in
      let own : time t q ≡ v = word_same s (time_at q) v (omega (arith, x.size)) in
      let left : (i : ℕ) → i ≢ time_at q → word t i ≡ word s i = word-other s (time_at q) v in
      let flags : (p : ℕ) → p < 256 → running t p ≡ running s p = λ p l. left (port_at p running_at) (omega arith) in
      let count : (d : ℕ) → d < 32 → word t (counter_at d) ≡ word s (counter_at d) = λ d l. left (counter_at d) (omega arith) in
      let other : (p : ℕ) → p ≢ q → time t p ≡ time s p = λ p ne. left (time_at p) (omega arith) in
      clock-step plan held x (put-fits (sound-fits x) (time_at q) v (omega arith) (omega arith)) (λ i l. left i (λ e. l (omega arith) (omega arith)))
      (record {
        counters = λ d l. rw (count d l) (x.clock.counters d l);
        ranges = λ p l. elim (ℕ_discrete p q) [ yes e ↦ rw (e, own) (a, b) | no ne ↦ rw (other p ne) (x.clock.ranges p l) ];
        stopped = λ p l z. elim (ℕ_discrete p q) [
          | yes e ↦ rw (e, own) (still (rw (flags p l, e) at z))
          | no ne ↦ rw (other p ne) (x.clock.stopped p l (rw (flags p l) at z))
        ];
        no-counter = λ d m l. count d l ∙ x.clock.no-counter d m l;
        no_word = λ p l y. elim (ℕ_discrete p q) [ yes e ↦ rw (e, own) (none (rw e at y)) | no ne ↦ other p ne ∙ x.clock.no_word p l y ];
      })

  -- a device's counter
  pub counter-step : (d v : ℕ) → d < devices plan → v < 64 → Sound plan (put s (counter_at d) v)
  counter-step d v h b =
      let n = few plan held in
      let t : State = put s (counter_at d) v in
      let left : (i : ℕ) → i ≢ counter_at d → word t i ≡ word s i = word-other s (counter_at d) v in
      let words : (p : ℕ) → time t p ≡ time s p = λ p. left (time_at p) (omega arith) in
      clock-step plan held x (put-fits (sound-fits x) (counter_at d) v (omega arith) (omega arith)) (λ i l. left i (λ e. l (omega arith) (omega arith)))
      (record {
        counters = λ e l. elim (ℕ_discrete e d) [
          | yes is ↦ rw (is, word_same s (counter_at d) v (omega (arith, x.size))) b
          | no ne ↦ rw (left (counter_at e) (omega arith)) (x.clock.counters e l)
        ];
        ranges = λ p l. rw (words p) (x.clock.ranges p l);
        stopped = λ p l z. rw (words p) (x.clock.stopped p l (rw (left (port_at p running_at) (omega arith)) at z));
        no-counter = λ e m l. left (counter_at e) (omega arith) ∙ x.clock.no-counter e m l;
        no_word = λ p l y. words p ∙ x.clock.no_word p l y;
      })

  -- a port runs, and a Time-Code comes to wait there
  queue-time-step : (v q : ℕ) → v < 64 → q < 256 → Sound plan (queue_time v q s)
  unfolding queue_time
  queue-time-step v q l h = by-test (eqb (running s q) 1) refl
    where
      by-test : (t : Bool) → eqb (running s q) 1 ≡ t → Sound plan (cond t (put s (time_at q) (128 * lately s q + (v + 1))) s)
      by-test false e = x
      by-test true e =
          let runs = eqb-true (running s q) 1 e in
          let there : exists plan q ≡ true = not-absent (exists plan q) (λ y. omega (arith, runs, x.no-port q running_at h y (omega arith))) in
          time-step q (128 * lately s q + (v + 1)) h (omega arith) (omega arith) (λ z. absurd (omega arith)) (λ y. absurd (false≢true (sym y ∙ there)))

-- at all ports of a device but one
pub queue-time-sound : (plan : Plan) → Held plan → (v d but : ℕ) → v < 64 → d < 32 → (s : State) → Sound plan s → Sound plan (queue_time_all v d but s)
unfolding queue_time_all
queue-time-sound plan held v d but l h s x = keeps (queue_time_but v d but) (Sound plan) 8 (λ p t m y. by-test p t m y (eqb (8 * d + p) but)) s x
  where
    by-test : (p : ℕ) (t : State) → p < 8 → Sound plan t → (b : Bool) → Sound plan (cond b t (queue_time v (8 * d + p) t))
    by-test p t m y true = y
    by-test p t m y false = queue-time-step plan held y v (8 * d + p) l (omega arith)

-- ---- what it leaves

length-time : (v q : ℕ) (s : State) → length (queue_time v q s) ≡ length s
unfolding queue_time
length-time v q s = by-test (eqb (running s q) 1)
  where
    by-test : (t : Bool) → length (cond t (put s (time_at q) (128 * lately s q + (v + 1))) s) ≡ length s
    by-test true = length-put s (time_at q) _
    by-test false = refl

pub length-time-but : (v d but p : ℕ) (s : State) → length (queue_time_but v d but p s) ≡ length s
length-time-but v d but p s = by-test (eqb (8 * d + p) but)
  where
    by-test : (t : Bool) → length (cond t s (queue_time v (8 * d + p) s)) ≡ length s
    by-test true = refl
    by-test false = length-time v (8 * d + p) s

pub length-times : (v d but : ℕ) (s : State) → length (queue_time_all v d but s) ≡ length s
unfolding queue_time_all
length-times v d but s = untouched (queue_time_but v d but) length 8 (λ p t l. length-time-but v d but p t) s

-- every word but the port's own
queue-time-left : (v q i : ℕ) → i ≢ time_at q → (s : State) → word (queue_time v q s) i ≡ word s i
unfolding queue_time
queue-time-left v q i out s = by-test (eqb (running s q) 1)
  where
    by-test : (t : Bool) → word (cond t (put s (time_at q) (128 * lately s q + (v + 1))) s) i ≡ word s i
    by-test true = word-other s (time_at q) _ i out
    by-test false = refl

time-but-left : (v d but p i : ℕ) → i ≢ time_at (8 * d + p) → (s : State) → word (queue_time_but v d but p s) i ≡ word s i
time-but-left v d but p i out s = by-test (eqb (8 * d + p) but)
  where
    by-test : (b : Bool) → word (cond b s (queue_time v (8 * d + p) s)) i ≡ word s i
    by-test true = refl
    by-test false = queue-time-left v (8 * d + p) i out s

-- every word that is none of a port's Time-Codes
pub queue-times-left : (i : ℕ) → ((q : ℕ) → q < 256 → i ≢ time_at q) → (v d but : ℕ) → d < 32 → (s : State) → word (queue_time_all v d but s) i ≡ word s i
unfolding queue_time_all
queue-times-left i out v d but h s = untouched (queue_time_but v d but) (λ t. word t i) 8 (λ p t l. time-but-left v d but p i (out (8 * d + p) (omega arith)) t) s

-- whether the last code sent was a Time-Code stays as it was
module _ (p : ℕ) (small : p < 256) where
  queue-time-lately : (v q : ℕ) → v < 64 → (s : State) → length s ≡ words → lately (queue_time v q s) p ≡ lately s p
  unfolding queue_time
  queue-time-lately v q h s size = by-test (eqb (running s q) 1)
    where
      by-test : (t : Bool) → lately (cond t (put s (time_at q) (128 * lately s q + (v + 1))) s) p ≡ lately s p
      by-test false = refl
      by-test true =
          elim (ℕ_discrete p q) [
            | yes e ↦ rw (e, word_same s (time_at q) (128 * lately s q + (v + 1)) (omega arith)) (omega arith)
            | no ne ↦ rw (word-other s (time_at q) (128 * lately s q + (v + 1)) (time_at p) (omega arith))
          ]

  pub queue-times-lately : (v d but : ℕ) → v < 64 → (s : State) → length s ≡ words → lately (queue_time_all v d but s) p ≡ lately s p
  unfolding queue_time_all
  queue-times-lately v d but h s size =
      (keeps (queue_time_but v d but) (λ t. (length t ≡ words) × (lately t p ≡ lately s p)) 8
      (λ j t l x. (length-time-but v d but j t ∙ x.0, by-test j t x (eqb (8 * d + j) but))) s (size, refl)).1
    where
      by-test : (j : ℕ) (t : State) → (length t ≡ words) × (lately t p ≡ lately s p) → (b : Bool) → lately (cond b t (queue_time v (8 * d + j) t)) p ≡ lately s p
      by-test j t x true = x.1
      by-test j t x false = queue-time-lately v (8 * d + j) h t x.0 ∙ x.1

-- what waits at a port is as it was, or is that Time-Code, at a port of the device
pub queue-times-cases : (v d but q : ℕ) → v < 64 → q < 256 → (s : State) → length s ≡ words
    → (time_waits (queue_time_all v d but s) q ≡ time_waits s q) ⊎ ((time_waits (queue_time_all v d but s) q ≡ v + 1) × (q / 8 ≡ d))
unfolding queue_time_all queue_time
queue-times-cases v d but q l small s size =
    (keeps (queue_time_but v d but) Now 8 (λ j t b x. (length-time-but v d but j t ∙ x.0, by-test j t b x.0 x.1 (eqb (8 * d + j) but) (eqb (running t (8 * d + j)) 1))) s (size, inl refl)).1
  where
    Cases : State → Type 0
    Cases t = (time_waits t q ≡ time_waits s q) ⊎ ((time_waits t q ≡ v + 1) × (q / 8 ≡ d))

    Now : State → Type 0
    Now t = (length t ≡ words) × Cases t

    by-test : (j : ℕ) (t : State) → j < 8 → length t ≡ words → Cases t → (a c : Bool)
        → Cases (cond a t (cond c (put t (time_at (8 * d + j)) (128 * lately t (8 * d + j) + (v + 1))) t))
    by-test j t b size x true c = x
    by-test j t b size x false false = x
    by-test j t b size x false true =
        elim (ℕ_discrete q (8 * d + j)) [
          | yes is ↦ inr (rw (is, word_same t (time_at (8 * d + j)) (128 * lately t (8 * d + j) + (v + 1)) (omega arith)) (omega arith), omega arith)
          | no ne ↦ rw (word-other t (time_at (8 * d + j)) (128 * lately t (8 * d + j) + (v + 1)) (time_at q) (omega arith)) x
        ]

-- at a port that runs the Time-Code waits, with that value
pub queue-times-waits : (v d but p : ℕ) → v < 64 → d < 32 → p < 8 → 8 * d + p ≢ but → (s : State) → length s ≡ words → running s (8 * d + p) ≡ 1
    → time_waits (queue_time_all v d but s) (8 * d + p) ≡ v + 1
unfolding queue_time_all queue_time
queue-times-waits v d but p l h small ne s size runs =
    hit (queue_time_but v d but) (λ t. (length t ≡ words) × (running t (8 * d + p) ≡ 1)) 8
    (λ j t b x. (length-time-but v d but j t ∙ x.0, time-but-left v d but j (port_at (8 * d + p) running_at) (omega arith) t ∙ x.1))
    (λ t. time_waits t (8 * d + p) ≡ v + 1) p small mine
    (λ j t a b x y. rw (time-but-left v d but j (time_at (8 * d + p)) (omega arith) t) y) s (size, runs)
  where
    mine : (t : State) → (length t ≡ words) × (running t (8 * d + p) ≡ 1) → time_waits (queue_time_but v d but p t) (8 * d + p) ≡ v + 1
    mine t x =
        rw (ne_eqb (8 * d + p) but ne, eq-eqb (running t (8 * d + p)) 1 x.1, word_same t (time_at (8 * d + p)) (128 * lately t (8 * d + p) + (v + 1)) (omega (arith, x.0)))
        (omega arith)

-- ---- in any area

pub timed-in : (v d but : ℕ) (s : State) → length s ≡ words → d < 32 → queue_time_in v d but s ≡ queue_time_all v d but s
unfolding queue_time_in
timed-in v d but s long h = rw (eq-eqb (length s) words long, lt-ltb d 32 h)

pub timed-not : (v d but : ℕ) (s : State) → (length s ≡ words → d < 32 → ⊥) → queue_time_in v d but s ≡ s
unfolding queue_time_in
timed-not v d but s n = by-test (eqb (length s) words) (ltb d 32) refl refl
  where
    by-test : (a b : Bool) → eqb (length s) words ≡ a → ltb d 32 ≡ b → cond (a && b) (queue_time_all v d but s) s ≡ s
    by-test false b p q = refl
    by-test true false p q = refl
    by-test true true p q = absurd (n (eqb-true (length s) words p) (ltb-true d 32 q))

-- Words that become 0: by one store after the other, and as the definitions say it.
use mathlib.Core.Path.{◌≡◌, refl, sym, ap, ◌∙◌}
use mathlib.Core.Bool.{Bool, true, false, cond, not, ◌&&◌}
use mathlib.Core.Logic.{◌⊎◌, inl, inr, ◌≢◌, dite}
use Prim.Native.Nat.{ℕ, ◌+◌, ◌-◌, ◌*◌, ◌/◌, ◌%◌, ◌^◌, ◌≤◌, ◌<◌}
use native.Mathlib.Decide.{dec_lt, ℕ_discrete}
use native.Mathlib.Omega.{arith}
use lib.Dec.{eqb}
use lib.ListN.{length, replicate}
use borrow.Rule.Slice.PartMut.{put_mid}
use Rattle.std.proofs.lemmas.Grind.{elements}
use borrow.Author.Tests.{eq-eqb, ne_eqb}
use Rattle.state.specs.State.{State, words, word, put, device_words, ports_at, ports_end, port_words, register_at, timer_at, port_at, register, timer, running_at, running, counter_at, counter, time_at, time, drops_start, drops_at, drops}
use Rattle.state.proofs.Words.{word-past, length-put, word_same, word-other}
use Rattle.state.proofs.Parts.{by_place, by-behind, length-state, register_of, timer-of, port-of, counter-of, time-of, drops-of, behind-kept, is_state}
use Rattle.state.proofs.Keeping.{Fits}
use Rattle.calls.specs.Calls.{reset}
use Rattle.calls.specs.Inner.Steps.{Zeros, cleared, emptied, untimed, uncounted}

-- what is so of 0 and of a word is so of the word where a test does not make it 0
pub keep : (P : ℕ → Type 0) (t : Bool) (v : ℕ) → P 0 → P v → P (cond t 0 v)
keep P true v none p = none
keep P false v none p = p

-- ---- the words from one place to another

-- the words between them filled with 0
pub zeros-filled : (from count : ℕ) (s ys : State) → from + count ≤ length s → ys ≡ replicate count 0 → Zeros from (from + count) s (put_mid from (from + count - from) s ys)
unfolding word
zeros-filled from count s ys h e =
    let k : from + count - from ≡ count = omega arith in
    rw (k, e)
    (record {
      size = grind (arith, elements);
      gone = λ i a b. grind (arith, elements);
      left = λ i o. elim (dec_lt i from) [
        | yes l ↦ grind (arith, elements)
        | no l ↦ let m : from + count ≤ i = omega (arith, o) in grind (arith, elements)
      ];
    })

-- ---- the register and the timers of device d

module _ (d : ℕ) (s : State) (long : length s ≡ words) where
  pub is_cleared : {t : State} → d < 32 → Zeros (register_at d) (register_at d + device_words) s t → t ≡ cleared d s
  is_cleared {t} h z =
      is_state _ t (z.size ∙ long)
      (λ e l. elim (ℕ_discrete e d) [
        | yes q ↦ rw (eq-eqb e d q) (z.gone (register_at e) (omega arith) (omega arith))
        | no n ↦ rw (ne_eqb e d n) (z.left (register_at e) (λ a b. absurd (omega arith)))
      ])
      (λ e k l m. elim (ℕ_discrete e d) [
        | yes q ↦ rw (eq-eqb e d q) (z.gone (timer_at e k) (omega arith) (omega arith))
        | no n ↦ rw (ne_eqb e d n) (z.left (timer_at e k) (λ a b. absurd (omega arith)))
      ])
      (λ q i l m. z.left (port_at q i) (λ a b. absurd (omega arith)))
      (λ e l. z.left (counter_at e) (λ a b. absurd (omega arith)))
      (λ q l. z.left (time_at q) (λ a b. absurd (omega arith)))
      (λ q kind l m. z.left (drops_at q kind) (λ a b. absurd (omega arith)))

  -- it has 0 there, and else the words of s
  cleared-behind : (i : ℕ) → ports_end ≤ i → word (cleared d s) i ≡ word s i
  cleared-behind = behind-kept _ s long (λ e h. refl) (λ q h. refl) (λ q kind h l. refl)

  pub cleared-register : d < 32 → register (cleared d s) d ≡ 0
  cleared-register h = register_of _ d h ∙ rw (eq-eqb d d refl)

  pub cleared-timer : (k : ℕ) → d < 32 → k < 32 → timer (cleared d s) d k ≡ 0
  cleared-timer k h l = timer-of _ d k h l ∙ rw (eq-eqb d d refl)

  pub cleared-left : (i : ℕ) → (register_at d ≤ i → i < register_at d + device_words → ⊥) → word (cleared d s) i ≡ word s i
  cleared-left =
      by_place (λ i. (register_at d ≤ i → i < register_at d + device_words → ⊥) → word (cleared d s) i ≡ word s i)
      (λ e h o. register_of _ e h ∙ rw (ne_eqb e d (λ q. o (omega arith) (omega arith))))
      (λ e k h l o. timer-of _ e k h l ∙ rw (ne_eqb e d (λ q. o (omega arith) (omega arith))))
      (λ q i h l o. port-of _ q i h l)
      (λ i h o. cleared-behind i h)

  pub cleared-fits : ((i : ℕ) → word s i < 2 ^ 32) → Fits (cleared d s)
  cleared-fits small =
      record {
        size = length-state _;
        fits =
            by_place (λ i. word (cleared d s) i < 2 ^ 32)
            (λ e h. rw (register_of _ e h) (keep (λ v. v < 2 ^ 32) (eqb e d) (register s e) (omega arith) (small (register_at e))))
            (λ e k h l. rw (timer-of _ e k h l) (keep (λ v. v < 2 ^ 32) (eqb e d) (timer s e k) (omega arith) (small (timer_at e k))))
            (λ q i h l. rw (port-of _ q i h l) (small (port_at q i)))
            (λ i h. rw (cleared-behind i h) (small i));
      }

-- ---- the waiting sets and next of its ports

-- of the first p of them
pub record Emptied (d p : ℕ) (s t : State) : Type 0 where
  pub size : length t ≡ length s
  pub gone : (j i : ℕ) → j < p → i < running_at → word t (port_at (8 * d + j) i) ≡ 0
  pub left : (i : ℕ) → ((j n : ℕ) → j < p → n < running_at → i ≢ port_at (8 * d + j) n) → word t i ≡ word s i

pub emptied-none : {d : ℕ} {s : State} → Emptied d 0 s s
emptied-none = record { size = refl; gone = λ j i h l. absurd (omega arith); left = λ i o. refl }

pub emptied-more : {d p : ℕ} {s t : State} → Emptied d p s t → length s ≡ words → d < 32 → p < 8
    → Emptied d (p + 1) s (put (put (put t (port_at (8 * d + p) 0) 0) (port_at (8 * d + p) 1) 0) (port_at (8 * d + p) 2) 0)
emptied-more {d} {p} {s} {t} z long h l =
    let q = 8 * d + p in
    let a : State = put t (port_at q 0) 0 in
    let b : State = put a (port_at q 1) 0 in
    let size-a : length a ≡ words = length-put t (port_at q 0) 0 ∙ z.size ∙ long in
    let size-b : length b ≡ words = length-put a (port_at q 1) 0 ∙ size-a in
    let other : (i : ℕ) → i ≢ port_at q 0 → i ≢ port_at q 1 → i ≢ port_at q 2 → word (put b (port_at q 2) 0) i ≡ word t i =
    λ i x y w. word-other b (port_at q 2) 0 i w ∙ word-other a (port_at q 1) 0 i y ∙ word-other t (port_at q 0) 0 i x in
    let own : (i : ℕ) → i < running_at → word (put b (port_at q 2) 0) (port_at q i) ≡ 0 =
    λ i m. elim (ℕ_discrete i 2) [
      | yes e ↦ rw e (word_same b (port_at q 2) 0 (omega arith))
      | no n ↦ word-other b (port_at q 2) 0 (port_at q i) (omega arith) ∙ elim (ℕ_discrete i 1) [
        | yes e ↦ rw e (word_same a (port_at q 1) 0 (omega arith))
        | no o ↦ word-other a (port_at q 1) 0 (port_at q i) (omega arith)
            ∙ (let e : i ≡ 0 = omega arith in rw e (word_same t (port_at q 0) 0 (omega (arith, z.size))))
      ]
    ] in
    record {
      size = length-put b (port_at q 2) 0 ∙ size-b ∙ sym long;
      gone = λ j i m n. elim (ℕ_discrete j p) [
        | yes e ↦ rw e (own i n)
        | no o ↦ other (port_at (8 * d + j) i) (omega arith) (omega arith) (omega arith) ∙ z.gone j i (omega arith) n
      ];
      left = λ i o.
          other i (o p 0 (omega arith) (omega arith)) (o p 1 (omega arith) (omega arith)) (o p 2 (omega arith) (omega arith))
          ∙ z.left i (λ j n x y. o j n (omega arith) y);
    }

module _ (d : ℕ) (s : State) (long : length s ≡ words) where
  pub is-emptied : {t : State} → d < 32 → Emptied d 8 s t → t ≡ emptied d s
  is-emptied {t} h z =
      is_state _ t (z.size ∙ long) (λ e l. z.left (register_at e) (λ j n x y. omega arith)) (λ e k l m. z.left (timer_at e k) (λ j n x y. omega arith))
      (λ q i l m. at q i l m) (λ e l. z.left (counter_at e) (λ j n x y. omega arith)) (λ q l. z.left (time_at q) (λ j n x y. omega arith))
      (λ q kind l m. z.left (drops_at q kind) (λ j n x y. omega arith))
    where
      at : (q i : ℕ) → q < 256 → i < port_words → word t (port_at q i) ≡ cond (eqb (q / 8) d && not (eqb i running_at)) 0 (word s (port_at q i))
      at q i l m =
          elim (ℕ_discrete i running_at) [
            | yes e ↦ rw (eq-eqb i running_at e) (z.left (port_at q i) (λ j n x y. omega arith) ∙ both (eqb (q / 8) d))
            | no n ↦ elim (ℕ_discrete (q / 8) d) [
              | yes e ↦
                  let here : 8 * d + q % 8 ≡ q = omega arith in
                  rw (eq-eqb (q / 8) d e, ne_eqb i running_at n) (rw here at (z.gone (q % 8) i (omega arith) (omega arith)))
              | no o ↦ rw (ne_eqb (q / 8) d o) (z.left (port_at q i) (λ j r x y. omega arith))
            ]
          ]
        where
          both : (b : Bool) → word s (port_at q i) ≡ cond (b && false) 0 (word s (port_at q i))
          both true = refl
          both false = refl

  emptied-behind : (i : ℕ) → ports_end ≤ i → word (emptied d s) i ≡ word s i
  emptied-behind = behind-kept _ s long (λ e h. refl) (λ q h. refl) (λ q kind h l. refl)

  -- it differs from s at ports only, where a word is 0 or as it was, and the flags are as they were
  pub emptied-left : (i : ℕ) → (ports_at ≤ i → i < ports_end → ⊥) → word (emptied d s) i ≡ word s i
  emptied-left =
      by_place (λ i. (ports_at ≤ i → i < ports_end → ⊥) → word (emptied d s) i ≡ word s i) (λ e h o. register_of _ e h) (λ e k h l o. timer-of _ e k h l)
      (λ q i h l o. absurd (o (omega arith) (omega arith)))
      (λ i h o. emptied-behind i h)

  pub emptied-port : (q i : ℕ) → q < 256 → i < port_words → (word (emptied d s) (port_at q i) ≡ 0) ⊎ (word (emptied d s) (port_at q i) ≡ word s (port_at q i))
  emptied-port q i h l =
      keep (λ v. (word (emptied d s) (port_at q i) ≡ v) → (v ≡ 0) ⊎ (v ≡ word s (port_at q i)) → (word (emptied d s) (port_at q i) ≡ 0) ⊎ (word (emptied d s) (port_at q i) ≡ word s (port_at q i)))
      (eqb (q / 8) d && not (eqb i running_at)) (word s (port_at q i)) (λ e x. inl e) (λ e x. inr e) (port-of _ q i h l)
      (keep (λ v. (v ≡ 0) ⊎ (v ≡ word s (port_at q i))) (eqb (q / 8) d && not (eqb i running_at)) (word s (port_at q i)) (inl refl) (inr refl))

  pub emptied-flag : (q : ℕ) → q < 256 → running (emptied d s) q ≡ running s q
  emptied-flag q h = port-of _ q running_at h (omega arith) ∙ both (eqb (q / 8) d)
    where
      both : (b : Bool) → cond (b && false) 0 (running s q) ≡ running s q
      both true = refl
      both false = refl

  pub emptied-fits : ((i : ℕ) → word s i < 2 ^ 32) → Fits (emptied d s)
  emptied-fits small =
      record {
        size = length-state _;
        fits =
            by_place (λ i. word (emptied d s) i < 2 ^ 32) (λ e h. rw (register_of _ e h) (small (register_at e))) (λ e k h l. rw (timer-of _ e k h l) (small (timer_at e k)))
            (λ q i h l. rw (port-of _ q i h l) (keep (λ v. v < 2 ^ 32) (eqb (q / 8) d && not (eqb i running_at)) (word s (port_at q i)) (omega arith) (small (port_at q i))))
            (λ i h. rw (emptied-behind i h) (small i));
      }

-- ---- its counter, and what its ports have of Time-Codes

module _ (d : ℕ) (s : State) (long : length s ≡ words) where
  untimed-size : length (untimed d s) ≡ words
  untimed-size = length-state _

  pub is_untimed : {t : State} → d < 32 → Zeros (time_at (8 * d)) (time_at (8 * d) + 8) s t → put t (counter_at d) 0 ≡ untimed d s
  is_untimed {t} h z =
      let left : (i : ℕ) → i ≢ counter_at d → (time_at (8 * d) ≤ i → i < time_at (8 * d) + 8 → ⊥) → word (put t (counter_at d) 0) i ≡ word s i =
      λ i ne o. word-other t (counter_at d) 0 i ne ∙ z.left i o in
      is_state _ _ (length-put t (counter_at d) 0 ∙ z.size ∙ long) (λ e l. left (register_at e) (omega arith) (λ a b. absurd (omega arith)))
      (λ e k l m. left (timer_at e k) (omega arith) (λ a b. absurd (omega arith))) (λ q i l m. left (port_at q i) (omega arith) (λ a b. absurd (omega arith)))
      (λ e l. elim (ℕ_discrete e d) [
        | yes is ↦ rw (eq-eqb e d is) (rw is (word_same t (counter_at d) 0 (omega (arith, z.size))))
        | no n ↦ rw (ne_eqb e d n) (left (counter_at e) (omega arith) (λ a b. absurd (omega arith)))
      ])
      (λ q l. elim (ℕ_discrete (q / 8) d) [
        | yes is ↦ rw (eq-eqb (q / 8) d is) (word-other t (counter_at d) 0 (time_at q) (omega arith) ∙ z.gone (time_at q) (omega arith) (omega arith))
        | no n ↦ rw (ne_eqb (q / 8) d n) (left (time_at q) (omega arith) (λ a b. absurd (omega arith)))
      ])
      (λ q kind l m. left (drops_at q kind) (omega arith) (λ a b. absurd (omega arith)))

  -- no word in front of them changes, and none behind
  pub untimed-left : (i : ℕ) → (ports_end ≤ i → i < drops_start → ⊥) → word (untimed d s) i ≡ word s i
  untimed-left =
      by_place (λ i. (ports_end ≤ i → i < drops_start → ⊥) → word (untimed d s) i ≡ word s i) (λ e h o. register_of _ e h) (λ e k h l o. timer-of _ e k h l) (λ q i h l o. port-of _ q i h l)
      (by-behind (λ i. (ports_end ≤ i → i < drops_start → ⊥) → word (untimed d s) i ≡ word s i) (λ e h o. absurd (o (omega arith) (omega arith))) (λ q h o. absurd (o (omega arith) (omega arith)))
      (λ q kind h l o. drops-of _ q kind h l) (λ i h o. word-past (untimed d s) i (omega (arith, untimed-size)) ∙ sym (word-past s i (omega (arith, long)))))

  -- a counter, or a port's word, is 0 or as it was
  pub untimed-counter : (e : ℕ) → e < 32 → (P : ℕ → Type 0) → P 0 → P (counter s e) → P (counter (untimed d s) e)
  untimed-counter e h P none p = rw (counter-of _ e h) (keep P (eqb e d) (counter s e) none p)

  pub untimed-word : (q : ℕ) → q < 256 → (P : ℕ → Type 0) → P 0 → P (time s q) → P (time (untimed d s) q)
  untimed-word q h P none p = rw (time-of _ q h) (keep P (eqb (q / 8) d) (time s q) none p)

  pub untimed-fits : ((i : ℕ) → word s i < 2 ^ 32) → Fits (untimed d s)
  untimed-fits small =
      record {
        size = length-state _;
        fits =
            by_place (λ i. word (untimed d s) i < 2 ^ 32) (λ e h. rw (register_of _ e h) (small (register_at e))) (λ e k h l. rw (timer-of _ e k h l) (small (timer_at e k)))
            (λ q i h l. rw (port-of _ q i h l) (small (port_at q i)))
            (by-behind (λ i. word (untimed d s) i < 2 ^ 32) (λ e h. untimed-counter e h (λ v. v < 2 ^ 32) (omega arith) (small (counter_at e)))
            (λ q h. untimed-word q h (λ v. v < 2 ^ 32) (omega arith) (small (time_at q))) (λ q kind h l. rw (drops-of _ q kind h l) (small (drops_at q kind)))
            (λ i h. omega (arith, word-past (untimed d s) i (omega (arith, untimed-size)))));
      }

-- ---- what its ports dropped

module _ (d : ℕ) (s : State) (long : length s ≡ words) where
  uncounted-size : length (uncounted d s) ≡ words
  uncounted-size = length-state _

  pub is_uncounted : {t : State} → d < 32 → Zeros (drops_start + 16 * d) (drops_start + 16 * d + 16) s t → t ≡ uncounted d s
  is_uncounted {t} h z =
      is_state _ t (z.size ∙ long) (λ e l. z.left (register_at e) (λ a b. absurd (omega arith))) (λ e k l m. z.left (timer_at e k) (λ a b. absurd (omega arith)))
      (λ q i l m. z.left (port_at q i) (λ a b. absurd (omega arith))) (λ e l. z.left (counter_at e) (λ a b. absurd (omega arith))) (λ q l. z.left (time_at q) (λ a b. absurd (omega arith)))
      (λ q kind l m. elim (ℕ_discrete (q / 8) d) [
        | yes is ↦ rw (eq-eqb (q / 8) d is) (z.gone (drops_at q kind) (omega arith) (omega arith))
        | no n ↦ rw (ne_eqb (q / 8) d n) (z.left (drops_at q kind) (λ a b. absurd (omega arith)))
      ])

  -- no word in front of them changes
  pub uncounted-left : (i : ℕ) → i < drops_start → word (uncounted d s) i ≡ word s i
  uncounted-left =
      by_place (λ i. i < drops_start → word (uncounted d s) i ≡ word s i) (λ e h o. register_of _ e h) (λ e k h l o. timer-of _ e k h l) (λ q i h l o. port-of _ q i h l)
      (by-behind (λ i. i < drops_start → word (uncounted d s) i ≡ word s i) (λ e h o. counter-of _ e h) (λ q h o. time-of _ q h) (λ q kind h l o. absurd (omega arith))
      (λ i h o. absurd (omega arith)))

  -- a count is 0 or as it was
  pub uncounted-count : (q kind : ℕ) → q < 256 → kind < 2 → (P : ℕ → Type 0) → P 0 → P (drops s kind q) → P (drops (uncounted d s) kind q)
  uncounted-count q kind h l P none p = rw (drops-of _ q kind h l) (keep P (eqb (q / 8) d) (drops s kind q) none p)

  pub uncounted-fits : ((i : ℕ) → word s i < 2 ^ 32) → Fits (uncounted d s)
  uncounted-fits small =
      record {
        size = length-state _;
        fits = λ i. dite (dec_lt i drops_start) (λ h. rw (uncounted-left i h) (small i))
            (λ h. by-behind (λ j. drops_start ≤ j → word (uncounted d s) j < 2 ^ 32) (λ e m l. absurd (omega arith)) (λ q m l. absurd (omega arith))
            (λ q kind m n l. uncounted-count q kind m n (λ v. v < 2 ^ 32) (omega arith) (small (drops_at q kind)))
            (λ j m l. omega (arith, word-past (uncounted d s) j (omega (arith, uncounted-size)))) i (omega arith) (omega arith));
      }

-- ---- all four are a reset

pub reset-steps : (d : ℕ) (s : State) → uncounted d (untimed d (emptied d (cleared d s))) ≡ reset d s
reset-steps d s =
    is_state _ (uncounted d (untimed d (emptied d (cleared d s)))) (length-state _)
    (λ e l. register_of _ e l ∙ register_of _ e l ∙ register_of _ e l ∙ register_of _ e l)
    (λ e k l m. timer-of _ e k l m ∙ timer-of _ e k l m ∙ timer-of _ e k l m ∙ timer-of _ e k l m)
    (λ q i l m. port-of _ q i l m ∙ port-of _ q i l m ∙ port-of _ q i l m ∙ ap (cond (eqb (q / 8) d && not (eqb i running_at)) 0) (port-of _ q i l m))
    (λ e l. counter-of _ e l ∙ counter-of _ e l ∙ ap (cond (eqb e d) 0) (counter-of _ e l ∙ counter-of _ e l))
    (λ q l. time-of _ q l ∙ time-of _ q l ∙ ap (cond (eqb (q / 8) d) 0) (time-of _ q l ∙ time-of _ q l))
    (λ q kind l m. drops-of _ q kind l m ∙ ap (cond (eqb (q / 8) d) 0) (drops-of _ q kind l m ∙ drops-of _ q kind l m ∙ drops-of _ q kind l m))

-- The first two steps of a round, as a code sees them: no timer of its identifier ends, and where it is sent it waits no more.
use mathlib.Core.Path.{◌≡◌, refl, sym, ap, ◌∙◌}
use mathlib.Core.Bool.{Bool, true, false, cond}
use mathlib.Core.List.{[]}
use mathlib.Core.Logic.{◌≢◌}
use Prim.Native.Nat.{ℕ, suc, ◌+◌, ◌-◌, ◌*◌, ◌/◌, ◌%◌, ◌≤◌, ◌<◌}
use native.Mathlib.Decide.{ℕ_discrete}
use native.Mathlib.Omega.{arith}
use lib.ListN.{length}
use Rattle.lists.proofs.Loops.{untouched, own}
use Rattle.bits.specs.Set.{bit, leave}
use Rattle.bits.specs.First.{following}
use Rattle.std.specs.Prelude.{Option, Some, None}
use Rattle.bits.proofs.Sets.{bit-two, leave_same, leave-other}
use Rattle.plan.specs.Reading.{Held}
use Rattle.plan.specs.declared.Plan.{Plan}
use Rattle.state.specs.State.{State, words, word, put, register_at, timer_at, ports_at, port_words, port_at, register, timer, waiting, next_at, next, running_at, running, counter_at, counter, time_at, time, time_waits, lately, drops_at, drops}
use Rattle.state.specs.Network.{devices, router}
use Rattle.state.specs.Sound.{Sound}
use Rattle.state.proofs.Words.{length-put, word_same, word-other}
use Rattle.state.proofs.Plans.{few}
use Rattle.state.proofs.Keeping.{both-kinds}
use Rattle.bench.specs.Round.{World, time_goes, chosen, unqueued, stamped, posts as round_posts, fallen, posted, after_timers, after_sending}
use Rattle.bench.proofs.Falls.{fall-other, fallen-sound}
use Rattle.bench.proofs.Stepped.{chosen-first, time-chosen}
use Rattle.bench.proofs.Unqueued.{posted-sound, posted-left, stamped-other, stamped-size}
use Rattle.laws.specs.Alike.{SendsIt}
use Rattle.laws.proofs.Timers.{turn, timed-bit, fallen-timer}
use Rattle.laws.proofs.Apart.{sends-chosen}
use Rattle.assurance.proofs.Choices.{waits-owned}
use Rattle.assurance.proofs.Fits.{Fit}

-- ---- one port sends

-- what a choice leaves of a waiting set
unfoldable pub left : Option ℕ → ℕ → ℕ
left (Some j) v = leave v j
left None v = v

left-fewer : (c : Option ℕ) (v k : ℕ) → k < 32 → bit (left c v) k ≡ 1 → bit v k ≡ 1
unfolding left
left-fewer None v k l b = b
left-fewer (Some j) v k l b =
    elim (ℕ_discrete k j) [
      | yes e ↦ absurd (omega (arith, leave_same v k l, ap (λ i. bit (leave v i) k) e))
      | no ne ↦ sym (leave-other v j k l ne) ∙ b
    ]

module _ (old : State) (q : ℕ) (t : State) where
  abbrev first : ℕ → State
  first j = put t (port_at q 0) (leave (waiting t 0 q) j)

  abbrev second : ℕ → State
  second j = put (first j) (port_at q 1) (leave (waiting t 1 q) j)

  unqueued-cases : (P : Option ℕ → State → Type 0) → (chosen old q ≡ None → P None t)
      → ((j : ℕ) → chosen old q ≡ Some j → P (Some j) (put (second j) (port_at q next_at) ((j + 1) % 32))) → P (chosen old q) (unqueued old q t)
  unfolding unqueued following
  unqueued-cases P none some = by-choice (chosen old q) refl
    where
      by-choice : (c : Option ℕ) → chosen old q ≡ c → P (chosen old q) (unqueued old q t)
      by-choice None e = rw (e, unqueued) (none e)
      by-choice (Some j) e = rw (e, unqueued) (some j e)

  unqueued-other : (i : ℕ) → i ≢ port_at q 0 → i ≢ port_at q 1 → i ≢ port_at q next_at → word (unqueued old q t) i ≡ word t i
  unqueued-other i a b c =
      unqueued-cases (λ r u. word u i ≡ word t i) (λ e. refl)
      (λ j e. word-other (second j) (port_at q next_at) _ i c ∙ word-other (first j) (port_at q 1) _ i b ∙ word-other t (port_at q 0) _ i a)

  unqueued-size : length (unqueued old q t) ≡ length t
  unqueued-size = unqueued-cases (λ r u. length u ≡ length t) (λ e. refl) (λ j e. length-put _ _ _ ∙ length-put _ _ _ ∙ length-put _ _ _)

  module _ (h : q < 256) (size : length t ≡ words) where
    unqueued-waits : (kind : ℕ) → kind < 2 → waiting (unqueued old q t) kind q ≡ left (chosen old q) (waiting t kind q)
    unfolding left
    unqueued-waits =
        both-kinds (λ kind. waiting (unqueued old q t) kind q ≡ left (chosen old q) (waiting t kind q))
        (unqueued-cases (λ r u. waiting u 0 q ≡ left r (waiting t 0 q)) (λ e. refl)
        (λ j e. word-other (second j) (port_at q next_at) _ (port_at q 0) (omega arith) ∙ word-other (first j) (port_at q 1) _ (port_at q 0) (omega arith)
        ∙ word_same t (port_at q 0) _ (omega arith)))
        (unqueued-cases (λ r u. waiting u 1 q ≡ left r (waiting t 1 q)) (λ e. refl)
        (λ j e. word-other (second j) (port_at q next_at) _ (port_at q 1) (omega arith)
        ∙ word_same (first j) (port_at q 1) _ (omega (arith, length-put t (port_at q 0) (leave (waiting t 0 q) j)))))

    unqueued-next : next (unqueued old q t) q ≡ following (next t q) (chosen old q)
    unfolding following
    unqueued-next =
        unqueued-cases (λ r u. next u q ≡ following (next t q) r) (λ e. refl)
        (λ j e. word_same (second j) (port_at q next_at) _
        (omega (arith, length-put (first j) (port_at q 1) (leave (waiting t 1 q) j), length-put t (port_at q 0) (leave (waiting t 0 q) j))))

-- what a port's word of Time-Codes becomes
unfoldable stamp : Bool → Option ℕ → ℕ → ℕ
stamp goes other v = cond goes 128 (elim other [ Some k ↦ v % 128 | None ↦ v ])

module _ (goes : Bool) (c : Option ℕ) (q : ℕ) (t : State) where
  stamped-time : q < 256 → length t ≡ words → time (stamped goes c q t) q ≡ stamp goes c (time t q)
  unfolding stamped stamp
  stamped-time h size = by-test goes c
    where
      by-test : (g : Bool) (c : Option ℕ) → time (stamped g c q t) q ≡ stamp g c (time t q)
      by-test true c = word_same t (time_at q) 128 (omega arith)
      by-test false None = refl
      by-test false (Some k) = word_same t (time_at q) _ (omega arith)

-- both together
module _ (old : State) (q : ℕ) (t : State) where
  turn-other : (i : ℕ) → i ≢ port_at q 0 → i ≢ port_at q 1 → i ≢ port_at q next_at → i ≢ time_at q → word (round_posts old q t) i ≡ word t i
  turn-other i a b c d = stamped-other (time_goes old q) (chosen old q) q (unqueued old q t) i d ∙ unqueued-other old q t i a b c

  turn-size : length (round_posts old q t) ≡ length t
  turn-size = stamped-size (time_goes old q) (chosen old q) q (unqueued old q t) ∙ unqueued-size old q t

-- ---- all timers fall, and all ports send

module _ (plan : Plan) (held : Held plan) {s : State} (x : Sound plan s) where
  abbrev start : World
  start = record { state = s; told = [] }

  abbrev falls : State
  falls = (after_timers plan s).state

  abbrev posts : State
  posts = (after_sending plan s).state

  falls-sound : Sound plan falls
  falls-sound = fallen-sound plan held start x

  pub posts-sound : Sound plan posts
  posts-sound = posted-sound plan held s x falls falls-sound

  -- the timers leave every word of a port
  falls-left : (i : ℕ) → ports_at ≤ i → word falls i ≡ word s i
  unfolding fallen
  falls-left i h =
      let n = few plan held in
      untouched (turn plan) (λ v. word v.state i) (32 * devices plan)
      (λ j v b. fall-other (router plan (j / 32)) (j / 32) (j % 32) v i (omega arith) (omega arith)) start

  pub posts-runs : (q : ℕ) → q < 256 → running posts q ≡ running s q
  unfolding posted
  posts-runs q h =
      untouched (round_posts s) (λ t. running t q) (8 * devices plan)
      (λ j t b. turn-other s j t (port_at q running_at) (omega arith) (omega arith) (omega arith) (omega arith)) falls
      ∙ falls-left (port_at q running_at) (omega arith)

  -- what ports dropped stays
  pub posts-drops : (kind q : ℕ) → kind < 2 → q < 256 → drops posts kind q ≡ drops s kind q
  unfolding posted
  posts-drops kind q g h =
      let n = few plan held in
      untouched (round_posts s) (λ t. drops t kind q) (8 * devices plan)
      (λ j t b. turn-other s j t (drops_at q kind) (omega arith) (omega arith) (omega arith) (omega arith)) falls
      ∙ falls-left (drops_at q kind) (omega arith)

  -- a word that only the turn of port q changes
  posts-own : (q i : ℕ) (change : ℕ → ℕ) → q < 8 * devices plan → ports_at ≤ i
      → ((j : ℕ) (t : State) → j < 8 * devices plan → j ≢ q → word (round_posts s j t) i ≡ word t i)
      → ((t : State) → length t ≡ words → word (round_posts s q t) i ≡ change (word t i)) → word posts i ≡ change (word s i)
  unfolding posted
  posts-own q i change h low others mine =
      own (round_posts s) (λ t. length t ≡ words) (8 * devices plan) (λ j t c e. turn-size s j t ∙ e) (λ t. word t i) change q h
      (λ j t c ne e. others j t c ne) mine falls falls-sound.size
      ∙ ap change (falls-left i low)

  -- one of its four
  posts-port : (q i : ℕ) (change : ℕ → ℕ) → q < 8 * devices plan → i < port_words
      → ((t : State) → length t ≡ words → word (unqueued s q t) (port_at q i) ≡ change (word t (port_at q i))) → word posts (port_at q i) ≡ change (word s (port_at q i))
  posts-port q i change h b mine =
      let n = few plan held in
      posts-own q (port_at q i) change h (omega arith) (λ j t c ne. turn-other s j t (port_at q i) (omega arith) (omega arith) (omega arith) (omega arith))
      (λ t e. stamped-other (time_goes s q) (chosen s q) q (unqueued s q t) (port_at q i) (omega arith) ∙ mine t e)

  -- its word of Time-Codes
  posts-time : (q : ℕ) → q < 8 * devices plan → time posts q ≡ stamp (time_goes s q) (chosen s q) (time s q)
  posts-time q h =
      let n = few plan held in
      posts-own q (time_at q) (stamp (time_goes s q) (chosen s q)) h (omega arith)
      (λ j t c ne. turn-other s j t (time_at q) (omega arith) (omega arith) (omega arith) (omega arith))
      (λ t e.
      stamped-time (time_goes s q) (chosen s q) q (unqueued s q t) (omega arith) (unqueued-size s q t ∙ e)
      ∙ ap (stamp (time_goes s q) (chosen s q)) (unqueued-other s q t (time_at q) (omega arith) (omega arith) (omega arith)))

  -- what waits there of Time-Codes: none any more, or the same
  pub posts-time-gone : (q : ℕ) → q < 8 * devices plan → time_goes s q ≡ true → time_waits posts q ≡ 0
  unfolding stamp
  posts-time-gone q h g = rw (posts-time q h, g)

  pub posts-time-on : (q : ℕ) → q < 8 * devices plan → time_goes s q ≡ false → time_waits posts q ≡ time_waits s q
  unfolding stamp
  posts-time-on q h g = rw (posts-time q h, g) (by-choice (chosen s q))
    where
      by-choice : (c : Option ℕ) → stamp false c (time s q) % 128 ≡ time_waits s q
      by-choice None = refl
      by-choice (Some k) = omega arith

  -- counters stay
  pub posts-counter : (d : ℕ) → d < 32 → counter posts d ≡ counter s d
  posts-counter d h = posted-left plan held s (counter_at d) falls (omega arith) (omega arith) ∙ falls-left (counter_at d) (omega arith)

  -- where its search starts
  posts-start : (q : ℕ) → q < 8 * devices plan → next posts q ≡ following (next s q) (chosen s q)
  posts-start q h =
      let n = few plan held in
      posts-port q next_at (λ v. following v (chosen s q)) h (omega arith) (λ t e. unqueued-next s q t (omega arith) e)

  -- a port that sent a Time-Code has the mark, and searches where it did; one that sent another code has it no more
  pub posts-late : (q : ℕ) → q < 8 * devices plan → time_goes s q ≡ true → (next posts q ≡ next s q) × (lately posts q ≡ 1)
  unfolding stamp following
  posts-late q h g = (posts-start q h ∙ rw (time-chosen s q g, following), rw (posts-time q h, g))

  pub posts-early : (q j : ℕ) → q < 8 * devices plan → chosen s q ≡ Some j → lately posts q ≡ 0
  unfolding stamp
  posts-early q j h c = rw (posts-time q h, (chosen-first s q c).0, c) (omega arith)

  posts-waits : (q kind : ℕ) → q < 8 * devices plan → kind < 2 → waiting posts kind q ≡ left (chosen s q) (waiting s kind q)
  posts-waits q kind h g =
      let n = few plan held in
      posts-port q kind (left (chosen s q)) h (omega arith) (λ t e. unqueued-waits s q t (omega arith) e kind g)

  pub posts-next : (q j : ℕ) → q < 8 * devices plan → chosen s q ≡ Some j → next posts q ≡ (j + 1) % 32
  unfolding following
  posts-next q j h c = posts-start q h ∙ ap (following (next s q)) c

  module _ (k : ℕ) (l : k < 32) where
    pub posts-timer : (d : ℕ) → d < devices plan → timer posts d k ≡ timer s d k - 1
    posts-timer d h =
        let n = few plan held in
        posted-left plan held s (timer_at d k) falls (omega arith) (omega arith) ∙ fallen-timer plan held d k h l start x

    -- a timer that does not end leaves its bit
    pub posts-marks : (d : ℕ) → d < devices plan → (bit (register s d) k ≡ 1 → 1 < timer s d k) → bit (register posts d) k ≡ bit (register s d) k
    posts-marks d h long =
        let n = few plan held in
        let same : register posts d ≡ register falls d = posted-left plan held s (register_at d) falls (omega arith) (omega arith) in
        let now = timed-bit (falls-sound.timers d k h (omega arith) l) in
        let fell : timer falls d k ≡ timer s d k - 1 = fallen-timer plan held d k h l start x in
        ap (λ v. bit v k) same ∙ elim (ℕ_discrete (bit (register s d) k) 1) [
          | yes e ↦ let more = long e in now.1 (omega arith) ∙ sym e
          | no ne ↦
              let off : bit (register s d) k ≡ 0 = omega (arith, bit-two (register s d) k) in
              now.0 (omega (arith, (x.timers d k h (omega arith) l).off off)) ∙ sym off
        ]

    module _ (kind q : ℕ) (g : kind < 2) (h : q < 256) where
      -- what waits after sending is inside, and waited before
      posts-inside : bit (waiting posts kind q) k ≡ 1 → q < 8 * devices plan
      posts-inside b = omega (arith, waits-owned plan held posts-sound q h kind k g b)

      pub posts-waited : bit (waiting posts kind q) k ≡ 1 → bit (waiting s kind q) k ≡ 1
      posts-waited b = left-fewer (chosen s q) (waiting s kind q) k l (ap (λ v. bit v k) (sym (posts-waits q kind (posts-inside b) g)) ∙ b)

      -- what is sent waits no more
      pub posts-unsent : bit (waiting posts kind q) k ≡ 1 → SendsIt plan k s kind q → ⊥
      unfolding left
      posts-unsent b e =
          let i = posts-inside b in
          let c = posts-waits q kind i g ∙ ap (λ r. left r (waiting s kind q)) (sends-chosen l plan held s q i kind g e) in
          omega (arith, ap (λ v. bit v k) c, leave_same (waiting s kind q) k l)

      -- where a Time-Code is sent, all waits on
      pub posts-wait-late : q < 8 * devices plan → time_goes s q ≡ true → bit (waiting s kind q) k ≡ 1 → bit (waiting posts kind q) k ≡ 1
      unfolding left
      posts-wait-late i o b = ap (λ v. bit v k) (posts-waits q kind i g ∙ ap (λ r. left r (waiting s kind q)) (time-chosen s q o)) ∙ b

      -- what is not chosen waits on
      pub posts-wait-on : (j : ℕ) → q < 8 * devices plan → chosen s q ≡ Some j → j ≢ k → bit (waiting s kind q) k ≡ 1 → bit (waiting posts kind q) k ≡ 1
      unfolding left
      posts-wait-on j i c ne b =
          ap (λ v. bit v k) (posts-waits q kind i g ∙ ap (λ r. left r (waiting s kind q)) c) ∙ leave-other (waiting s kind q) j k l (λ e. ne (sym e)) ∙ b

-- ---- a state stays fit, with a round less to go

pub fit-posts : (plan : Plan) (kind k : ℕ) (s₀ : State) (takers : ℕ → Type 0) → Held plan → kind < 2 → k < 32 → (u : ℕ) {s : State}
    → Fit plan kind k s₀ takers (suc u) s → Fit plan kind k s₀ takers u (after_sending plan s).state
fit-posts plan kind k s₀ takers held g l u {s} f =
    let marks : (d : ℕ) → d < devices plan → bit (register (after_sending plan s).state d) k ≡ bit (register s d) k =
    λ d h. posts-marks plan held f.sound k l d h (λ b. let more = f.long d h b in omega arith) in
    record {
      sound = posts-sound plan held f.sound;
      runs = λ q h. posts-runs plan held f.sound q h ∙ f.runs q h;
      other = λ q h.
          let none : bit (waiting (after_sending plan s).state (1 - kind) q) k ≡ 1 → ⊥ =
          λ e. omega (arith, posts-waited plan held f.sound k l (1 - kind) q (omega arith) h e, f.other q h) in
          omega (arith, bit-two (waiting (after_sending plan s).state (1 - kind) q) k);
      long = λ d h b. omega (arith, posts-timer plan held f.sound k l d h, f.long d h (sym (marks d h) ∙ b));
      still = λ d h b. f.still d h (sym (marks d h) ∙ b);
    }

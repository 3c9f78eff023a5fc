-- A timer falls by one in each round in which no code of its identifier is accepted: a load of T, set in a round or just after it, ends in the T-th
-- round after, and only then is the timeout told.
use mathlib.Core.Path.{◌≡◌, refl, sym, ap, ◌∙◌}
use mathlib.Core.Bool.{Bool, true, false, cond}
use mathlib.Core.List.Memᴰ
use mathlib.Core.List.{List, [], ◌∷◌, ◌++◌, Memᴰ}
use mathlib.Core.Logic.{◌⊎◌, inl, inr, ◌≢◌}
use Prim.Native.Nat.{ℕ, zero, suc, ◌+◌, ◌-◌, ◌*◌, ◌/◌, ◌%◌, ◌≤◌, ◌<◌}
use native.Mathlib.Decide.{ℕ_discrete}
use native.Mathlib.Omega.{arith}
use lib.ListN.{length, get_or}
use Rattle.lists.specs.Loop.{up_to}
use Rattle.lists.proofs.Loops.{keeps, keeps-from, untouched, own, came}
use Rattle.bits.specs.Set.{bit, leave}
use Rattle.bits.proofs.Sets.{bit-two}
use Rattle.codes.specs.Codes.{byte_of}
use Rattle.device.specs.Reaction.{marked}
use Rattle.plan.specs.Fields.{nobody}
use Rattle.plan.specs.Reading.{Held}
use Rattle.plan.specs.declared.Plan.{Plan}
use Rattle.state.specs.State.{State, words, put, register_at, timer_at, register, timer}
use Rattle.state.specs.Network.{devices, router, peer, load_of}
use Rattle.bench.specs.Settling.{rounds}
use Rattle.state.specs.Sound.{Timed, Sound}
use Rattle.state.specs.Mark.{mark}
use Rattle.calls.specs.Calls.{called}
use Rattle.bench.specs.Round.{World, of_interrupt, of_timeout, of_time, told_word, nothing, fall, fallen, sent_bytes, arrives, reached, after_timers, after_sending, after_arrivals, round}
use Rattle.state.proofs.Words.{length-put, word_same}
use Rattle.state.proofs.Plans.{few, load_fits}
use Rattle.state.proofs.Keeping.{both-kinds}
use Rattle.state.proofs.Marks.{mark-other}
use Rattle.state.proofs.Waits.{queue-all-left}
use Rattle.bench.proofs.Falls.{fall-cases, fall-other, fall-step, fallen-sound}
use Rattle.bench.proofs.Unqueued.{posted-sound, posted-left}
use Rattle.bench.proofs.RoundSound.{Beside, arrives-cases, arrives-sound, round-sound, rounds-sound}
use Rattle.calls.proofs.Called.{call-sound}
use Rattle.laws.specs.Timing.{accepts, action, before, incoming, AcceptedAt, NoneAccepted, Unaccepted, Unsent, Loaded, Undisturbed, Fell}
use Rattle.laws.proofs.Accepting.{arrives-left, arrives-found, arrives-loads}

-- ---- one timer

module _ (is_router : Bool) (d k : ℕ) (w : World) where
  -- its own timer falls by one, if it runs
  fall-own : length w.state ≡ words → d < 32 → k < 32 → timer (fall is_router d k w).state d k ≡ timer w.state d k - 1
  fall-own size h l =
      fall-cases is_router d k w (λ v. timer v.state d k ≡ timer w.state d k - 1) (λ e. omega arith)
      (λ e. word_same _ (timer_at d k) 0 (omega (arith, length-put w.state (register_at d) (leave (register w.state d) k))) ∙ omega arith)
      (λ t e. word_same w.state (timer_at d k) (suc t) (omega arith) ∙ omega arith)

  -- what was told stays told
  fall-more : (v : ℕ) → Memᴰ v w.told → Memᴰ v (fall is_router d k w).told
  fall-more v m = fall-cases is_router d k w (λ u. Memᴰ v u.told) (λ e. m) (λ e. by-role is_router) (λ t e. m)
    where
      by-role : (r : Bool) → Memᴰ v (cond r w.told (w.told ++ (told_word of_timeout d k ∷ [])))
      by-role true = m
      by-role false = Memᴰ.append_left (told_word of_timeout d k ∷ []) m

  -- a node's timer that ends is told
  fall-tells : is_router ≡ false → timer w.state d k ≡ 1 → Memᴰ (told_word of_timeout d k) (fall is_router d k w).told
  fall-tells node o =
      fall-cases is_router d k w (λ u. Memᴰ (told_word of_timeout d k) u.told) (λ e. absurd (omega arith))
      (λ e. rw node (Memᴰ.append_right w.told (Memᴰ.head refl))) (λ t e. absurd (omega arith))

  -- and nothing else
  fall-came : (v : ℕ) → Memᴰ v (fall is_router d k w).told → Memᴰ v w.told ⊎ ((v ≡ told_word of_timeout d k) × (timer w.state d k ≡ 1) × (is_router ≡ false))
  fall-came v =
      fall-cases is_router d k w
      (λ u. Memᴰ v u.told → Memᴰ v w.told ⊎ ((v ≡ told_word of_timeout d k) × (timer w.state d k ≡ 1) × (is_router ≡ false)))
      (λ e m. inl m) (λ e. by-role e is_router refl) (λ t e m. inl m)
    where
      by-role : timer w.state d k ≡ 1 → (r : Bool) → is_router ≡ r → Memᴰ v (cond r w.told (w.told ++ (told_word of_timeout d k ∷ [])))
          → Memᴰ v w.told ⊎ ((v ≡ told_word of_timeout d k) × (timer w.state d k ≡ 1) × (is_router ≡ false))
      by-role o true e m = inl m
      by-role o false e m = elim (Memᴰ.append_cases w.told m) [ inl a ↦ inl a | inr b ↦ inr (Memᴰ.eq_of_singleton b, o, e) ]

-- ---- all timers

-- a sound state's bit says whether the timer runs
pub timed-bit : {plan : Plan} {s : State} {d k : ℕ} → Timed plan s d k → (timer s d k ≡ 0 → bit (register s d) k ≡ 0) × (1 ≤ timer s d k → bit (register s d) k ≡ 1)
timed-bit {s} {d} {k} t =
    let two = bit-two (register s d) k in
    elim (ℕ_discrete (bit (register s d) k) 0) [
      | yes e ↦ let off = t.off e in omega arith
      | no ne ↦ let on = t.on (omega arith) in omega arith
    ]

-- the turns of `fallen`
abbrev pub turn : Plan → ℕ → World → World
turn plan i = fall (router plan (i / 32)) (i / 32) (i % 32)

pub turn-sound : (plan : Plan) → Held plan → (i : ℕ) (v : World) → i < 32 * devices plan → Sound plan v.state → Sound plan (turn plan i v).state
turn-sound plan held i v b y = fall-step plan held y (i / 32) (omega arith) (router plan (i / 32)) (i % 32) v.told (omega arith)

module _ (plan : Plan) (held : Held plan) (d k : ℕ) (h : d < devices plan) (l : k < 32) where
  -- that of this timer, and the others
  turn-here : (P : ℕ → ℕ → Type 0) → P d k → P ((32 * d + k) / 32) ((32 * d + k) % 32)
  turn-here P p =
      let a : (32 * d + k) / 32 ≡ d = omega arith in
      let b : (32 * d + k) % 32 ≡ k = omega arith in
      rw (a, b) p

  turn-other : (i : ℕ) (v : World) → i ≢ 32 * d + k → timer (turn plan i v).state d k ≡ timer v.state d k
  turn-other i v ne = fall-other (router plan (i / 32)) (i / 32) (i % 32) v (timer_at d k) (omega arith) (omega arith)

  module _ (w : World) (x : Sound plan w.state) where
    pub fallen-timer : timer (fallen plan w).state d k ≡ timer w.state d k - 1
    unfolding fallen
    fallen-timer =
        let n = few plan held in
        own (turn plan) (λ v. Sound plan v.state) (32 * devices plan) (turn-sound plan held) (λ v. timer v.state d k) (λ t. t - 1) (32 * d + k) (omega arith)
        (λ i v b ne y. turn-other i v ne)
        (λ v y. turn-here (λ e j. timer (fall (router plan e) e j v).state d k ≡ timer v.state d k - 1)
        (fall-own (router plan d) d k v y.size (omega arith) l))
        w x

    -- until its turn, it stands as it stood
    before-turn : timer (up_to (turn plan) (32 * d + k) w).state d k ≡ timer w.state d k
    before-turn = untouched (turn plan) (λ v. timer v.state d k) (32 * d + k) (λ i v b. turn-other i v (omega arith)) w

    fallen-tells : router plan d ≡ false → timer w.state d k ≡ 1 → Memᴰ (told_word of_timeout d k) (fallen plan w).told
    unfolding fallen up_to
    fallen-tells node o =
        keeps-from (turn plan) (λ v. Memᴰ (told_word of_timeout d k) v.told) (suc (32 * d + k)) (32 * devices plan) (omega arith)
        (λ i v a b m. fall-more (router plan (i / 32)) (i / 32) (i % 32) v (told_word of_timeout d k) m) w
        (turn-here (λ e j. Memᴰ (told_word of_timeout d k) (fall (router plan e) e j (up_to (turn plan) (32 * d + k) w)).told)
        (fall-tells (router plan d) d k (up_to (turn plan) (32 * d + k) w) node (before-turn ∙ o)))

    pub fallen-came : Memᴰ (told_word of_timeout d k) (fallen plan w).told → Memᴰ (told_word of_timeout d k) w.told ⊎ ((timer w.state d k ≡ 1) × (router plan d ≡ false))
    unfolding fallen
    fallen-came m =
        elim (came (turn plan) (λ v. Sound plan v.state) (32 * devices plan) (turn-sound plan held) (λ v. Memᴰ (told_word of_timeout d k) v.told)
        (λ i v. (i ≡ 32 * d + k) × (timer v.state d k ≡ 1) × (router plan d ≡ false)) by_turn w x m) [
          | inl a ↦ inl a
          | inr b ↦ inr (sym before-turn ∙ ap (λ i. timer (up_to (turn plan) i w).state d k) (sym b.2.0) ∙ b.2.1, b.2.2)
        ]
      where
        by_turn : (i : ℕ) (v : World) → i < 32 * devices plan → Sound plan v.state → Memᴰ (told_word of_timeout d k) (turn plan i v).told
            → Memᴰ (told_word of_timeout d k) v.told ⊎ ((i ≡ 32 * d + k) × (timer v.state d k ≡ 1) × (router plan d ≡ false))
        by_turn i v b y m =
            elim (fall-came (router plan (i / 32)) (i / 32) (i % 32) v (told_word of_timeout d k) m) [
              | inl a ↦ inl a
              | inr c ↦
                  let e = c.0 in
                  let device : i / 32 ≡ d = omega arith in
                  let place : i % 32 ≡ k = omega arith in
                  inr (omega arith, rw (device, place) at c.1, rw device at c.2)
            ]

-- ---- what arrives

-- a Time-Code leaves what hosts were told, and adds no word but its own
module _ {w v : World} (b : Beside w v) (word : ℕ) where
  pub beside-more : Memᴰ word w.told → Memᴰ word v.told
  beside-more m = elim b.told [ inl e ↦ rw e m | inr (d, n, e) ↦ rw e (Memᴰ.append_left (told_word of_time d n ∷ []) m) ]

  pub beside-came : word < told_word of_time 0 0 → Memᴰ word v.told → Memᴰ word w.told
  beside-came small m =
      elim b.told [
        | inl e ↦ rw e at m
        | inr (d, n, e) ↦
            elim (Memᴰ.append_cases w.told (rw e at m)) [ inl a ↦ a | inr c ↦ let is = Memᴰ.eq_of_singleton c in absurd (omega arith) ]
      ]

module _ (plan : Plan) (sent : List ℕ) (q : ℕ) (w : World) (small : q / 8 < 32) where
  arrives-timer : (d k : ℕ) → d < 32 → k < 32 → ((kind : ℕ) → kind < 2 → q / 8 ≡ d → get_or sent (peer plan q) nothing ≢ byte_of kind k)
      → timer (arrives plan sent q w).state d k ≡ timer w.state d k
  arrives-timer d k h l quiet =
      let marks : (kind j : ℕ) → kind < 2 → j < 32 → get_or sent (peer plan q) nothing ≡ byte_of kind j
      → timer (mark plan kind (q / 8) j w.state) d k ≡ timer w.state d k =
      λ kind j g m b. mark-other plan kind (q / 8) j (timer_at d k) w.state (omega arith)
      (λ e. let here : q / 8 ≡ d = omega arith in quiet kind g here (omega arith)) in
      arrives-cases plan sent q small w (λ v. timer v.state d k ≡ timer w.state d k) (λ v b. b.front (timer_at d k) (omega arith))
      (λ kind j g m b. queue-all-left kind j (timer_at d k) g (omega arith) plan.core.permissions (q / 8) q small (mark plan kind (q / 8) j w.state) ∙ marks kind j g m b)
      marks

  pub arrives_more : (v : ℕ) → Memᴰ v w.told → Memᴰ v (arrives plan sent q w).told
  arrives_more v m =
      arrives-cases plan sent q small w (λ u. Memᴰ v u.told) (λ u b. beside-more b v m) (λ kind k g l b. m) (λ kind k g l b. Memᴰ.append_left (told_word (of_interrupt + kind) (q / 8) k ∷ []) m)

  -- no timeout is told
  arrives-came : (d k : ℕ) → d < 32 → k < 32 → Memᴰ (told_word of_timeout d k) (arrives plan sent q w).told → Memᴰ (told_word of_timeout d k) w.told
  arrives-came d k h l =
      arrives-cases plan sent q small w (λ u. Memᴰ (told_word of_timeout d k) u.told → Memᴰ (told_word of_timeout d k) w.told)
      (λ u b m. beside-came b (told_word of_timeout d k) (omega arith) m) (λ kind j g l b m. m)
      (λ kind j g l b m. elim (Memᴰ.append_cases w.told m) [ inl a ↦ a | inr c ↦ let e = Memᴰ.eq_of_singleton c in absurd (omega arith) ])

-- a code that is taken in loads its timer or stops it
mark-timer : (plan : Plan) (kind d k : ℕ) → kind < 2 → (s : State) → length s ≡ words → d < 32 → k < 32
    → (timer (mark plan kind d k s) d k ≡ 0) ⊎ (timer (mark plan kind d k s) d k ≡ load_of plan d k)
unfolding mark
mark-timer plan zero d k g s size h l = inr (word_same _ (timer_at d k) _ (omega (arith, length-put s (register_at d) (marked 0 (register s d) k))))
mark-timer plan (suc zero) d k g s size h l = inl (word_same _ (timer_at d k) _ (omega (arith, length-put s (register_at d) (marked 1 (register s d) k))))
mark-timer plan (suc (suc kind)) d k g s size h l = absurd (omega arith)

-- what is not sent is not accepted
pub unsent : (plan : Plan) (s : State) (d k : ℕ) → Unsent plan s d k → Unaccepted plan s d k
unsent plan s d k none = (λ p h a. none p 0 h (omega arith) a.0, λ p h a. none p 1 h (omega arith) a.0)

-- port by port
module _ (plan : Plan) (held : Held plan) (s : State) (x : Sound plan s) (d k : ℕ) (h : d < devices plan) (l : k < 32) where
  before-sound : (q : ℕ) → q ≤ 8 * devices plan → Sound plan (before plan s q).state
  before-sound q b =
      keeps (arrives plan (sent_bytes plan s)) (λ v. Sound plan v.state) q (λ j v c y. arrives-sound plan held (sent_bytes plan s) j (omega arith) v y) (after_sending plan s)
      (posted-sound plan held s x (after_timers plan s).state (fallen-sound plan held (record { state = s; told = [] }) x))

  -- the timer stands still where no code of k is accepted at its device
  before-still : (q : ℕ) → q < 8 * devices plan → ((kind : ℕ) → kind < 2 → q / 8 ≡ d → AcceptedAt plan s q kind k → ⊥)
      → timer (before plan s (suc q)).state d k ≡ timer (before plan s q).state d k
  unfolding up_to
  before-still q b none = by-action (accepts (action plan q (incoming plan s q) (before plan s q).state)) refl
    where
      by-action : (a : Bool) → accepts (action plan q (incoming plan s q) (before plan s q).state) ≡ a
          → timer (before plan s (suc q)).state d k ≡ timer (before plan s q).state d k
      by-action false e =
          let n = few plan held in
          (arrives-left plan (sent_bytes plan s) q (before plan s q) (omega arith) e).front (timer_at d k) (omega arith)
      by-action true e =
          let n = few plan held in
          arrives-timer plan (sent_bytes plan s) q (before plan s q) (omega arith) d k (omega arith) l (λ kind g here o. none kind g here (o, e))

  -- from port a on it stands at t, where nothing of k is accepted while it does
  stands_from : (a t : ℕ) → timer (before plan s a).state d k ≡ t
      → ((q : ℕ) → a ≤ q → q < 8 * devices plan → timer (before plan s q).state d k ≡ t → (kind : ℕ) → kind < 2 → q / 8 ≡ d → AcceptedAt plan s q kind k → ⊥)
      → (q : ℕ) → a ≤ q → q ≤ 8 * devices plan → timer (before plan s q).state d k ≡ t
  stands_from a t e none zero c b =
      let here : a ≡ 0 = omega arith in
      rw here at e
  stands_from a t e none (suc q) c b =
      elim (ℕ_discrete a (suc q)) [
        | yes here ↦ rw here at e
        | no ne ↦
            let o = stands_from a t e none q (omega arith) (omega arith) in
            before-still q (omega arith) (none q (omega arith) (omega arith) o) ∙ o
      ]

  -- an interrupt of k finds the bit of a running timer set
  finds-set : (q : ℕ) → q < 8 * devices plan → 1 ≤ timer (before plan s q).state d k → q / 8 ≡ d → AcceptedAt plan s q 0 k → ⊥
  finds-set q b runs here a =
      let n = few plan held in
      let bits = timed-bit ((before-sound q (omega arith)).timers d k h (omega arith) l) in
      let clear : bit (register (before plan s q).state d) k ≡ 0 = rw here at (arrives-found plan (sent_bytes plan s) q (before plan s q) k l a.0 a.1) in
      omega (arith, bits.1 runs)

  at-port : (kind : ℕ) → NoneAccepted plan s d kind k → (q : ℕ) → q / 8 ≡ d → AcceptedAt plan s q kind k → ⊥
  at-port kind none q here =
      let is : 8 * d + q % 8 ≡ q = omega arith in
      rw is at (none (q % 8) (omega arith))

  sending-still : timer (after_sending plan s).state d k ≡ timer (after_timers plan s).state d k
  sending-still = let n = few plan held in posted-left plan held s (timer_at d k) (after_timers plan s).state (omega arith) (omega arith)

  -- no code of k is accepted: the arrivals leave the timer as the timers' step did
  arrivals-still : Unaccepted plan s d k → timer (after_arrivals plan s).state d k ≡ timer (after_timers plan s).state d k
  unfolding reached up_to
  arrivals-still none =
      stands_from 0 (timer (after_timers plan s).state d k) sending-still
      (λ q a b o. both-kinds (λ kind. q / 8 ≡ d → AcceptedAt plan s q kind k → ⊥) (at-port 0 none.0 q) (at-port 1 none.1 q))
      (8 * devices plan) (omega arith) (omega arith)

  -- while the timer runs on, no interrupt is accepted unless an acknowledge is
  pub runs_on : 2 ≤ timer s d k → NoneAccepted plan s d 1 k → Unaccepted plan s d k
  unfolding up_to
  runs_on runs none =
      let t = timer (after_timers plan s).state d k in
      let falls : t ≡ timer s d k - 1 = fallen-timer plan held d k h l (record { state = s; told = [] }) x in
      let at : (q : ℕ) → q ≤ 8 * devices plan → timer (before plan s q).state d k ≡ t =
      λ q. stands_from 0 t sending-still
      (λ j a b o. both-kinds (λ kind. j / 8 ≡ d → AcceptedAt plan s j kind k → ⊥) (finds-set j b (omega arith)) (at-port 1 none j))
      q (omega arith) in
      (λ p m. finds-set (8 * d + p) (omega arith) (omega (arith, at (8 * d + p) (omega arith))) (omega arith), none)

  -- an accepted interrupt loads the timer, and no later one of the round changes that
  pub arrival-loads : Loaded plan s d k → timer (after_arrivals plan s).state d k ≡ load_of plan d k
  unfolding reached up_to
  arrival-loads y =
      let n = few plan held in
      let port = 8 * d + y.port in
      let here : port / 8 ≡ d = omega (arith, y.small) in
      let load = load_fits plan held d k h in
      let small : port < 8 * devices plan = omega (arith, y.small) in
      let loads : timer (before plan s (suc port)).state d k ≡ load_of plan d k =
      rw here at (arrives-loads plan (sent_bytes plan s) port (before plan s port) k l y.came.0 y.came.1 (before-sound port (omega arith)).size (omega arith)) in
      stands_from (suc port) (load_of plan d k) loads
      (λ q a b o. both-kinds (λ kind. q / 8 ≡ d → AcceptedAt plan s q kind k → ⊥) (finds-set q b (omega arith))
      (λ is c.
      let e : 8 * d + q % 8 ≡ q = omega arith in
      rw e at (y.stays (q % 8) (omega arith) (omega arith)) c))
      (8 * devices plan) (omega arith) (omega arith)

-- what was told stays told, and no timeout is told
module _ (plan : Plan) (held : Held plan) (w : World) (d k : ℕ) where
  reached-more : (sent : List ℕ) → Memᴰ (told_word of_timeout d k) w.told → Memᴰ (told_word of_timeout d k) (reached plan sent w).told
  unfolding reached
  reached-more sent m =
      let n = few plan held in
      keeps (arrives plan sent) (λ v. Memᴰ (told_word of_timeout d k) v.told) (8 * devices plan) (λ q v b. arrives_more plan sent q v (omega arith) (told_word of_timeout d k)) w m

  pub reached-came : d < 32 → k < 32 → (sent : List ℕ) → Memᴰ (told_word of_timeout d k) (reached plan sent w).told → Memᴰ (told_word of_timeout d k) w.told
  unfolding reached
  reached-came h l sent =
      let n = few plan held in
      keeps (arrives plan sent) (λ v. Memᴰ (told_word of_timeout d k) v.told → Memᴰ (told_word of_timeout d k) w.told) (8 * devices plan)
      (λ q v b p m. p (arrives-came plan sent q v (omega arith) d k h l m)) w (λ m. m)

-- ---- a round

module _ (plan : Plan) (held : Held plan) (s : State) (x : Sound plan s) (d k : ℕ) (h : d < devices plan) (l : k < 32) where
  -- step 1: the timers fall
  pub timer-falls : (t : ℕ) → timer s d k ≡ suc t → Fell plan (after_timers plan s) d k t
  timer-falls t e =
      let w : World = record { state = s; told = [] } in
      let now : timer (after_timers plan s).state d k ≡ t = fallen-timer plan held d k h l w x ∙ omega arith in
      let bits = timed-bit ((fallen-sound plan held w x).timers d k h (omega (arith, few plan held)) l) in
      record {
        now = now;
        runs = λ o. bits.1 (omega arith);
        ends = λ z. bits.0 (now ∙ z);
        tells = λ z node. fallen-tells plan held d k h l w x node (omega arith);
        only = λ m. elim (fallen-came plan held d k h l w x m) [ inl a ↦ absurd (Memᴰ.not-nil a) | inr c ↦ (omega (arith, c.0), c.1) ];
      }

  -- and nothing after them changes that, where no code of k is accepted
  pub round-falls : (t : ℕ) → timer s d k ≡ suc t → Unaccepted plan s d k → Fell plan (after_arrivals plan s) d k t
  unfolding round
  round-falls t e none =
      let f = timer-falls t e in
      let w : World = after_sending plan s in
      let now : timer (after_arrivals plan s).state d k ≡ t = arrivals-still plan held s x d k h l none ∙ f.now in
      let bits = timed-bit ((round-sound plan held s x).timers d k h (omega (arith, few plan held)) l) in
      record {
        now = now;
        runs = λ o. bits.1 (omega arith);
        ends = λ z. bits.0 (now ∙ z);
        tells = λ z node. reached-more plan held w d k (sent_bytes plan s) (f.tells z node);
        only = λ m. f.only (reached-came plan held w d k (omega (arith, few plan held)) l (sent_bytes plan s) m);
      }

  -- any timer, one that does not run too, is then one lower
  pub round-lowers : Unaccepted plan s d k → timer (round plan s).next d k ≡ timer s d k - 1
  unfolding round
  round-lowers none = arrivals-still plan held s x d k h l none ∙ fallen-timer plan held d k h l (record { state = s; told = [] }) x

  -- whatever arrives, it is one lower, or stopped, or loaded
  abbrev Stands : World → Type 0
  Stands w = (timer w.state d k ≡ timer s d k - 1) ⊎ (timer w.state d k ≡ 0) ⊎ (timer w.state d k ≡ load_of plan d k)

  arrives-stands : (q : ℕ) (w : World) → q < 8 * devices plan → Sound plan w.state → Stands w → Stands (arrives plan (sent_bytes plan s) q w)
  arrives-stands q w b y o =
      let n = few plan held in
      let marks : (kind j : ℕ) → kind < 2 → j < 32 → Stands (record { state = mark plan kind (q / 8) j w.state; told = w.told }) =
      λ kind j g m. elim (ℕ_discrete (timer_at (q / 8) j) (timer_at d k)) [
        | yes is ↦
            let device : q / 8 ≡ d = omega arith in
            let place : j ≡ k = omega arith in
            rw (device, place) (inr (mark-timer plan kind d k g w.state y.size (omega arith) l))
        | no ne ↦ let same = mark-other plan kind (q / 8) j (timer_at d k) w.state (omega arith) (λ e. ne (sym e)) in rw same o
      ] in
      arrives-cases plan (sent_bytes plan s) q (omega arith) w Stands (λ v c. rw (c.front (timer_at d k) (omega arith)) o)
      (λ kind j g m c. rw (queue-all-left kind j (timer_at d k) g (omega arith) plan.core.permissions (q / 8) q (omega arith) (mark plan kind (q / 8) j w.state)) (marks kind j g m))
      (λ kind j g m c. marks kind j g m)

  pub round-stands : (timer (round plan s).next d k ≡ timer s d k - 1) ⊎ (timer (round plan s).next d k ≡ 0) ⊎ (timer (round plan s).next d k ≡ load_of plan d k)
  unfolding round reached
  round-stands =
      let falls = fallen-timer plan held d k h l (record { state = s; told = [] }) x in
      (keeps (arrives plan (sent_bytes plan s)) (λ v. Sound plan v.state × Stands v) (8 * devices plan)
      (λ q v b y. (arrives-sound plan held (sent_bytes plan s) q (omega arith) v y.0, arrives-stands q v b y.0 y.1)) (after_sending plan s) (
        posted-sound plan held s x (after_timers plan s).state (fallen-sound plan held (record { state = s; told = [] }) x),
        inl (sending-still plan held s x d k h l ∙ falls),
      )).1

  -- a node's timer that stands at 1 ends in the round, whatever arrives, and its host is told
  pub timeout-told : router plan d ≡ false → timer s d k ≡ 1 → Memᴰ (told_word of_timeout d k) (round plan s).told
  unfolding round
  timeout-told node o = reached-more plan held (after_sending plan s) d k (sent_bytes plan s) ((timer-falls 0 o).tells refl node)

-- ---- a load of T ends in the T-th round after: round i + 1 leaves T - (i + 1)

-- rounds in which no code of k is accepted disturb no timer of it
pub undisturbed : (plan : Plan) (s : State) (d k T : ℕ) → ((i : ℕ) → i < T → Unaccepted plan (rounds plan i s) d k) → Undisturbed plan s d k T
undisturbed plan s d k T none = record { kept = λ i b. (none i b).1; last = λ i e. (none i (omega arith)).0 }

module _ (plan : Plan) (held : Held plan) (s : State) (x : Sound plan s) where
  module _ (d k : ℕ) (h : d < devices plan) (l : k < 32) (T : ℕ) (e : timer s d k ≡ T) (quiet : Undisturbed plan s d k T) where
    none : (i : ℕ) → i < T → timer (rounds plan i s) d k ≡ T - i → Unaccepted plan (rounds plan i s) d k
    none i b o =
        elim (ℕ_discrete (suc i) T) [
          | yes end ↦ (quiet.last i end, quiet.kept i b)
          | no ne ↦ runs_on plan held (rounds plan i s) (rounds-sound plan held s x i) d k h l (omega arith) (quiet.kept i b)
        ]

    falls : (i : ℕ) → i < T → timer (rounds plan i s) d k ≡ T - i → Fell plan (after_arrivals plan (rounds plan i s)) d k (T - suc i)
    falls i b o = round-falls plan held (rounds plan i s) (rounds-sound plan held s x i) d k h l (T - suc i) (omega arith) (none i b o)

    -- what is left after i rounds
    left : (i : ℕ) → i ≤ T → timer (rounds plan i s) d k ≡ T - i
    unfolding up_to round
    left zero b = omega arith
    left (suc i) b = (falls i b (left i (omega arith))).now

    pub timer-ends : (i : ℕ) → i < T → Fell plan (after_arrivals plan (rounds plan i s)) d k (T - suc i)
    timer-ends i b = falls i b (left i (omega arith))

module _ (plan : Plan) (held : Held plan) (s : State) (x : Sound plan s) (d k : ℕ) (h : d < devices plan) (l : k < 32) where
  abbrev T : ℕ
  T = load_of plan d k

  -- set in a round, by an arrival: it runs after that round, and ends T rounds later
  pub arrival-ends : Loaded plan s d k → (bit (register (round plan s).next d) k ≡ 1) × (timer (round plan s).next d k ≡ T)
      × (Undisturbed plan (round plan s).next d k T → (i : ℕ) → i < T → Fell plan (after_arrivals plan (rounds plan i (round plan s).next)) d k (T - suc i))
  unfolding round
  arrival-ends y =
      let n = few plan held in
      let sound = round-sound plan held s x in
      let loads = arrival-loads plan held s x d k h l y in
      let bits = timed-bit (sound.timers d k h (omega arith) l) in
      (bits.1 (omega (arith, load_fits plan held d k h)), loads, timer-ends plan held (round plan s).next sound d k h l T loads)

  -- set just after a round, by a request
  pub request-loads : timer (called plan 0 d k s) d k ≡ T
  unfolding called mark
  request-loads =
      let n = few plan held in
      let marks = put s (register_at d) (marked 0 (register s d) k) in
      queue-all-left 0 k (timer_at d k) (omega arith) (omega arith) plan.core.permissions d nobody (omega arith) (mark plan 0 d k s)
      ∙ word_same marks (timer_at d k) T (omega (arith, x.size, length-put s (register_at d) (marked 0 (register s d) k)))

  pub request-ends : Undisturbed plan (called plan 0 d k s) d k T → (i : ℕ) → i < T → Fell plan (after_arrivals plan (rounds plan i (called plan 0 d k s))) d k (T - suc i)
  request-ends = timer-ends plan held (called plan 0 d k s) (call-sound plan held s x 0 d k (omega arith) h l) d k h l T request-loads

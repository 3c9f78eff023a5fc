-- What a host is told in a round: a node's bit is what its host was told, a code is told that a port sent, and a timeout where a timer stood at 1; and the
-- interrupts and acknowledges that a node accepts are those that its host is told of.
use mathlib.Core.Path.{◌≡◌, refl, sym, ap, ◌∙◌}
use mathlib.Core.Bool.{Bool, true, false, cond}
use mathlib.Core.List.{List, [], ◌∷◌, ◌++◌, Memᴰ}
use mathlib.Core.Logic.{◌⊎◌, inl, inr, ◌≢◌}
use Prim.Native.Nat.{ℕ, zero, suc, ◌+◌, ◌-◌, ◌*◌, ◌/◌, ◌%◌, ◌≤◌, ◌<◌}
use native.Mathlib.Decide.{ℕ_discrete}
use native.Mathlib.Omega.{arith}
use lib.Dec.{eqb}
use lib.ListN.{length}
use borrow.Author.Tests.{eq-eqb, ne_eqb}
use Rattle.lists.specs.Loop.{up_to}
use Rattle.lists.proofs.Loops.{keeps, keeps-from, untouched, came}
use Rattle.bits.specs.Set.{bit, leave}
use Rattle.bits.proofs.Sets.{leave_same, leave-other}
use Rattle.codes.specs.Codes.{byte_of}
use Rattle.device.specs.Reaction.{marked}
use Rattle.device.proofs.Reactions.{marked-same, marked_other}
use Rattle.plan.specs.Reading.{Held}
use Rattle.plan.specs.declared.Plan.{Plan}
use Rattle.state.specs.State.{State, words, put, register_at, timer_at, register, timer}
use Rattle.state.specs.Network.{devices, router, peer}
use Rattle.state.specs.Sound.{Sound}
use Rattle.state.specs.Mark.{mark}
use Rattle.bench.specs.Round.{World, of_interrupt, of_acknowledge, of_timeout, of_time, told_word, fallen, sent_bytes, arrives, reached, after_timers, after_sending, round}
use Rattle.state.proofs.Words.{word_same, word-other}
use Rattle.state.proofs.Plans.{few}
use Rattle.state.proofs.Keeping.{both-kinds}
use Rattle.state.proofs.Waits.{queue-all-left}
use Rattle.bench.proofs.Falls.{fall-cases}
use Rattle.bench.proofs.Unqueued.{posted-sound, posted-left}
use Rattle.bench.proofs.RoundSound.{taking, Beside, arrives-taken, arrives-cases, arrives-sound}
use Rattle.laws.specs.Alike.{SendsIt}
use Rattle.laws.specs.Telling.{times, told_in, told_by}
use Rattle.laws.specs.Timing.{accepts, action, before, incoming, AcceptedAt, NoneAccepted}
use Rattle.laws.proofs.Accepting.{arrives-left, arrives-opens}
use Rattle.laws.proofs.Timers.{timed-bit, turn, turn-sound, fallen-came, beside-came, arrives_more, reached-came}

-- ---- how often a word stands in a list

-- once, where two are the same
abbrev pub once : ℕ → ℕ → ℕ
once a b = cond (eqb a b) 1 0

module _ (word : ℕ) where
  -- one more word
  pub times_more : (l : List ℕ) (w : ℕ) → times word (l ++ (w ∷ [])) ≡ times word l + once w word
  unfolding times
  times_more [] w = omega arith
  times_more (v ∷ l) w = omega (arith, times_more l w)

  -- another word, which a node tells
  pub times-other : (w : ℕ) → w ≢ word → (is_router : Bool) (l : List ℕ) → times word (cond is_router l (l ++ (w ∷ []))) ≡ times word l
  times-other w ne true l = refl
  times-other w ne false l = times_more l w ∙ rw (ne_eqb w word ne) (omega arith)

  -- a word that is in the list
  times-some : {l : List ℕ} → Memᴰ word l → 1 ≤ times word l
  unfolding times
  times-some (mathlib.Core.List.Memᴰ.head {x = w} e) = rw (eq-eqb w word (sym e)) (omega arith)
  times-some (mathlib.Core.List.Memᴰ.tail m) = omega (arith, times-some m)

  some-times : (l : List ℕ) → 1 ≤ times word l → Memᴰ word l
  unfolding times
  some-times [] b = absurd (omega arith)
  some-times (w ∷ l) b =
      elim (ℕ_discrete w word) [
        | yes e ↦ mathlib.Core.List.Memᴰ.head (sym e)
        | no ne ↦ mathlib.Core.List.Memᴰ.tail (some-times l (omega (arith, rw (ne_eqb w word ne) at b)))
      ]

  -- a Time-Code's word
  beside-times : {w v : World} → Beside w v → word < told_word of_time 0 0 → times word v.told ≡ times word w.told
  beside-times {w} b small =
      elim b.told [
        | inl e ↦ ap (times word) e
        | inr (d, n, e) ↦ ap (times word) e ∙ times-other (told_word of_time d n) (omega arith) false w.told
      ]

-- of the words of one identifier at one device, only that of the same kind
times-told : (a b d k : ℕ) (l : List ℕ) → times (told_word a d k) (l ++ (told_word b d k ∷ [])) ≡ times (told_word a d k) l + once b a
times-told a b d k l =
    let alike : eqb (told_word b d k) (told_word a d k) ≡ eqb b a =
    elim (ℕ_discrete b a) [
      | yes e ↦ eq-eqb (told_word b d k) (told_word a d k) (omega arith) ∙ sym (eq-eqb b a e)
      | no ne ↦ ne_eqb (told_word b d k) (told_word a d k) (omega arith) ∙ sym (ne_eqb b a ne)
    ] in
    times_more (told_word a d k) l (told_word b d k) ∙ rw alike

-- ---- what a turn makes of the bits

-- a bit is set where its host is told of an interrupt, and cleared where it is told of an acknowledge or a timeout
abbrev pub Moves : ℕ → ℕ → ℕ → Type 0
Moves kind old new = new + (once kind of_acknowledge + once kind of_timeout) ≡ old + once kind of_interrupt

-- a turn about identifier j of device e: its bit moves, and no other
pub record Turned (kind e j : ℕ) (s t : State) : Type 0 where
  pub own : Moves kind (bit (register s e) j) (bit (register t e) j)
  pub others : (d k : ℕ) → d < 32 → k < 32 → (e ≡ d → j ≡ k → ⊥) → bit (register t d) k ≡ bit (register s d) k

module _ (e j : ℕ) (b : e < 32) (m : j < 32) (s : State) (size : length s ≡ words) where
  -- the register becomes r
  put-turned : (kind r v : ℕ) → Moves kind (bit (register s e) j) (bit r j) → ((k : ℕ) → k < 32 → k ≢ j → bit r k ≡ bit (register s e) k)
      → Turned kind e j s (put (put s (register_at e) r) (timer_at e j) v)
  put-turned kind r v own left =
      let now : register (put (put s (register_at e) r) (timer_at e j) v) e ≡ r =
      word-other _ (timer_at e j) v (register_at e) (omega arith) ∙ word_same s (register_at e) r (omega arith) in
      record {
        own = rw now own;
        others = λ d k h l ne. elim (ℕ_discrete e d) [
          | yes is ↦ rw (← is) (ap (λ y. bit y k) now ∙ left k l (λ o. ne is (sym o)))
          | no n ↦ ap (λ y. bit y k) (word-other _ (timer_at e j) v (register_at d) (omega arith) ∙ word-other s (register_at e) r (register_at d) (omega arith))
        ];
      }

  -- a code is taken in that the bit stood ready for
  module _ (plan : Plan) (kind : ℕ) (g : kind < 2) (stood : bit (register s e) j ≡ kind) where
    mark-turned : Turned (of_interrupt + kind) e j s (mark plan kind e j s)
    unfolding mark
    mark-turned =
        put-turned (of_interrupt + kind) (marked kind (register s e) j) _
        (rw (marked-same kind (register s e) j g m, stood) (both-kinds (λ c. Moves (of_interrupt + c) c (1 - c)) refl refl kind g))
        (marked_other kind (register s e) j)

    pub taking-turned : (but : ℕ) (hands : Bool) → Turned (of_interrupt + kind) e j s (taking plan kind j e but hands s)
    taking-turned but false = mark-turned
    taking-turned but true =
        let left : (d : ℕ) → d < 32 → register (taking plan kind j e but true s) d ≡ register (mark plan kind e j s) d =
        λ d h. queue-all-left kind j (register_at d) g (omega arith) plan.core.permissions e but b (mark plan kind e j s) in
        record { own = rw (left e b) mark-turned.own; others = λ d k h l ne. ap (λ v. bit v k) (left d h) ∙ mark-turned.others d k h l ne }

-- ---- a node's bit is what its host was told

module _ (s : State) (d k : ℕ) where
  -- from s on, so far
  abbrev Even : World → Type 0
  Even w =
      bit (register w.state d) k + (times (told_word of_acknowledge d k) w.told + times (told_word of_timeout d k) w.told)
      ≡ bit (register s d) k + times (told_word of_interrupt d k) w.told

module _ (plan : Plan) (held : Held plan) (s : State) (x : Sound plan s) (d k : ℕ) (h : d < devices plan) (l : k < 32) (node : router plan d ≡ false) where
  -- a turn leaves it so, where a node tells its host of it
  turned-even : (kind e j : ℕ) → e < 32 → j < 32 → (w : World) (t : State) → Turned kind e j w.state t → Even s d k w → (is_router : Bool) → router plan e ≡ is_router
      → Even s d k (record { state = t; told = cond is_router w.told (w.told ++ (told_word kind e j ∷ [])) })
  turned-even kind e j b m w t y even is_router role =
      let n = few plan held in
      elim (ℕ_discrete (32 * e + j) (32 * d + k)) [
        | yes is ↦
            let device : e ≡ d = omega arith in
            let place : j ≡ k = omega arith in
            let tells : is_router ≡ false = sym role ∙ ap (router plan) device ∙ node in
            let own = rw (device, place) at y.own in
            let told : (a : ℕ) → times (told_word a d k) (w.told ++ (told_word kind d k ∷ [])) ≡ times (told_word a d k) w.told + once kind a =
            λ a. times-told a kind d k w.told in
            rw (tells, device, place) (omega (arith, told of_interrupt, told of_acknowledge, told of_timeout))
        | no ne ↦
            let left = y.others d k (omega arith) l (λ p o. ne (omega arith)) in
            let told : (a : ℕ) → times (told_word a d k) (cond is_router w.told (w.told ++ (told_word kind e j ∷ []))) ≡ times (told_word a d k) w.told =
            λ a. times-other (told_word a d k) (told_word kind e j) (omega arith) is_router w.told in
            omega (arith, told of_interrupt, told of_acknowledge, told of_timeout)
      ]

  fall-even : (i : ℕ) (v : World) → i < 32 * devices plan → Sound plan v.state → Even s d k v → Even s d k (turn plan i v)
  fall-even i v b y even =
      let n = few plan held in
      let e = i / 32 in
      let j = i % 32 in
      let r = register v.state e in
      fall-cases (router plan e) e j v (Even s d k) (λ o. even)
      (λ o.
      let on = (timed-bit (y.timers e j (omega arith) (omega arith) (omega arith))).1 (omega arith) in
      turned-even of_timeout e j (omega arith) (omega arith) v _
      (put-turned e j (omega arith) (omega arith) v.state y.size of_timeout (leave r j) 0 (omega (arith, leave_same r j (omega arith))) (leave-other r j))
      even (router plan e) refl)
      (λ t o. rw (word-other v.state (timer_at e j) (suc t) (register_at d) (omega arith)) even)

  arrives-even : (q : ℕ) (v : World) → q < 8 * devices plan → Sound plan v.state → Even s d k v → Even s d k (arrives plan (sent_bytes plan s) q v)
  arrives-even q v b y even =
      let n = few plan held in
      arrives-taken plan (sent_bytes plan s) q (omega arith) v (Even s d k)
      (λ none u a.
      let left : (kind : ℕ) → kind < of_time → times (told_word kind d k) u.told ≡ times (told_word kind d k) v.told = λ kind c. beside-times (told_word kind d k) a (omega arith) in
      rw (a.front (register_at d) (omega arith), left of_interrupt (omega arith), left of_acknowledge (omega arith), left of_timeout (omega arith)) even)
      (λ kind j g m e o.
      turned-even (of_interrupt + kind) (q / 8) j (omega arith) m v _
      (taking-turned (q / 8) j (omega arith) m v.state y.size plan kind g o.stood q (router plan (q / 8)))
      even (router plan (q / 8)) refl)

  pub told-balance : bit (register (round plan s).next d) k + (told_in plan of_acknowledge d k s + told_in plan of_timeout d k s)
      ≡ bit (register s d) k + told_in plan of_interrupt d k s
  unfolding round reached fallen told_in times
  told-balance =
      let n = few plan held in
      let timers : Sound plan (after_timers plan s).state × Even s d k (after_timers plan s) =
      keeps (turn plan) (λ v. Sound plan v.state × Even s d k v) (32 * devices plan)
      (λ i v b y. (turn-sound plan held i v b y.0, fall-even i v b y.0 y.1)) (record { state = s; told = [] }) (x, omega arith) in
      (keeps (arrives plan (sent_bytes plan s)) (λ v. Sound plan v.state × Even s d k v) (8 * devices plan)
      (λ q v b y. (arrives-sound plan held (sent_bytes plan s) q (omega arith) v y.0, arrives-even q v b y.0 y.1)) (after_sending plan s) (
        posted-sound plan held s x (after_timers plan s).state timers.0,
        rw (posted-left plan held s (register_at d) (after_timers plan s).state (omega arith) (omega arith)) timers.1,
      )).1

-- ---- what is told, and what is not

-- what is told in so many rounds, where none of them tells any
pub by-none : (plan : Plan) (kind d k : ℕ) (at : ℕ → State) (last : ℕ) → ((t : ℕ) → t < last → told_in plan kind d k (at t) ≡ 0)
    → (t : ℕ) → t ≤ last → told_by plan kind d k at t ≡ 0
unfolding told_by
by-none plan kind d k at last none zero h = refl
by-none plan kind d k at last none (suc t) h = omega (arith, none t h, by-none plan kind d k at last none t (omega arith))

-- what is among those told is told once at least
module _ (plan : Plan) (kind d k : ℕ) (s : State) where
  pub told-some : Memᴰ (told_word kind d k) (round plan s).told → 1 ≤ told_in plan kind d k s
  unfolding told_in
  told-some = times-some (told_word kind d k)

  pub some-told : 1 ≤ told_in plan kind d k s → Memᴰ (told_word kind d k) (round plan s).told
  unfolding told_in
  some-told = some-times (told_word kind d k) (round plan s).told

-- of timers no code: a word that is no timeout's is not told
pub falls-told : (plan : Plan) → Held plan → (s : State) (word : ℕ) → ((e j : ℕ) → e < 32 → j < 32 → told_word of_timeout e j ≢ word) → times word (after_timers plan s).told ≡ 0
unfolding fallen times
falls-told plan held s word other =
    let n = few plan held in
    untouched (turn plan) (λ v. times word v.told) (32 * devices plan)
    (λ i v b. fall-cases (router plan (i / 32)) (i / 32) (i % 32) v (λ u. times word u.told ≡ times word v.told) (λ e. refl)
    (λ e. times-other word (told_word of_timeout (i / 32) (i % 32)) (other (i / 32) (i % 32) (omega arith) (omega arith)) (router plan (i / 32)) v.told) (λ t e. refl))
    (record { state = s; told = [] })

module _ (plan : Plan) (held : Held plan) (s : State) (x : Sound plan s) (d k : ℕ) (h : d < devices plan) (l : k < 32) where
  -- of a kind of code nothing that no port sent
  pub none_told : (kind : ℕ) → kind < 2 → ((q : ℕ) → SendsIt plan k s kind q → ⊥) → told_in plan (of_interrupt + kind) d k s ≡ 0
  unfolding round reached told_in
  none_told kind g none =
      let n = few plan held in
      let word = told_word (of_interrupt + kind) d k in
      untouched (arrives plan (sent_bytes plan s)) (λ v. times word v.told) (8 * devices plan)
      (λ q v b. arrives-taken plan (sent_bytes plan s) q (omega arith) v (λ u. times word u.told ≡ times word v.told) (λ shut u a. beside-times word a (omega arith))
      (λ c j f m e o. times-other word (told_word (of_interrupt + c) (q / 8) j) (λ is. none (peer plan q) (omega arith)) (router plan (q / 8)) v.told))
      (after_sending plan s)
      ∙ falls-told plan held s (told_word (of_interrupt + kind) d k) (λ e j a b. omega arith)

  -- no timeout where the timer does not end
  pub no-timeout : timer s d k ≢ 1 → told_in plan of_timeout d k s ≡ 0
  unfolding round
  no-timeout runs =
      let untold : Memᴰ (told_word of_timeout d k) (round plan s).told → ⊥ =
      λ m. elim (fallen-came plan held d k h l (record { state = s; told = [] }) x (reached-came plan held (after_sending plan s) d k (omega (arith, few plan held)) l (sent_bytes plan s) m)) [
        | inl a ↦ mathlib.Core.List.Memᴰ.not-nil a
        | inr c ↦ runs c.0
      ] in
      elim (ℕ_discrete (told_in plan of_timeout d k s) 0) [ yes e ↦ e | no ne ↦ absurd (untold (some-told plan of_timeout d k s (omega arith))) ]

-- ---- the interrupts and acknowledges that a node accepts are those that its host is told of

module _ (plan : Plan) (held : Held plan) (s : State) (x : Sound plan s) (d k : ℕ) (h : d < devices plan) (l : k < 32) (kind : ℕ) (g : kind < 2) where
  abbrev word : ℕ
  word = told_word (of_interrupt + kind) d k

  abbrev sent : List ℕ
  sent = sent_bytes plan s

  turn-told : (q : ℕ) → q / 8 ≡ d → router plan d ≡ false → AcceptedAt plan s q kind k → Memᴰ word (arrives plan sent q (before plan s q)).told
  turn-told q here node a =
      let n = few plan held in
      let w = before plan s q in
      arrives-taken plan sent q (omega arith) w (λ v. Memᴰ word v.told) (λ none v b. absurd (none kind k g l a.0 (arrives-opens plan sent q w kind k g l a.0 a.1)))
      (λ c j f m e o.
      let tells : router plan (q / 8) ≡ false = ap (router plan) here ∙ node in
      rw tells (mathlib.Core.List.Memᴰ.append_right w.told (mathlib.Core.List.Memᴰ.head (omega (arith, a.0)))))

  pub accepted-told : router plan d ≡ false → (p : ℕ) → p < 8 → AcceptedAt plan s (8 * d + p) kind k → Memᴰ word (round plan s).told
  unfolding round reached up_to
  accepted-told node p b a =
      let n = few plan held in
      keeps-from (arrives plan sent) (λ v. Memᴰ word v.told) (suc (8 * d + p)) (8 * devices plan) (omega arith)
      (λ q v c e m. arrives_more plan sent q v (omega arith) word m) (after_sending plan s) (turn-told (8 * d + p) (omega arith) node a)

  -- the byte that came to port q of device d is such a code, and the device accepts it
  abbrev Came : ℕ → World → Type 0
  Came q v = (q / 8 ≡ d) × (incoming plan s q ≡ byte_of kind k) × (accepts (action plan q (incoming plan s q) v.state) ≡ true)

  turn-came : (q : ℕ) (v : World) → q < 8 * devices plan → Memᴰ word (arrives plan sent q v).told → Memᴰ word v.told ⊎ Came q v
  turn-came q v b m = by-action (accepts (action plan q (incoming plan s q) v.state)) refl
    where
      by-action : (t : Bool) → accepts (action plan q (incoming plan s q) v.state) ≡ t → Memᴰ word v.told ⊎ Came q v
      by-action false e = let n = few plan held in inl (beside-came (arrives-left plan sent q v (omega arith) e) word (omega arith) m)
      by-action true e =
          let n = few plan held in
          arrives-cases plan sent q (omega arith) v (λ u. Memᴰ word u.told → Memᴰ word v.told ⊎ Came q v)
          (λ u a y. inl (beside-came a word (omega arith) y)) (λ c j f i o y. inl y)
          (λ c j f i o y. elim (mathlib.Core.List.Memᴰ.append_cases v.told y) [
            | inl old ↦ inl old
            | inr new ↦ let is = mathlib.Core.List.Memᴰ.eq_of_singleton new in inr (omega arith, omega arith, e)
          ]) m

  pub told-accepted : Memᴰ word (round plan s).told → (p : ℕ) × (p < 8) × AcceptedAt plan s (8 * d + p) kind k
  unfolding round reached
  told-accepted m =
      elim (came (arrives plan sent) (λ v. Unit {0}) (8 * devices plan) (λ q v b u. tt) (λ v. Memᴰ word v.told) Came (λ q v b u. turn-came q v b) (after_sending plan s) tt m) [
        | inl a ↦ absurd (omega (arith, times-some word a, falls-told plan held s word (λ e j u v. omega (arith, few plan held))))
        | inr c ↦
            let q = c.0 in
            let here = c.2.0 in
            let is : 8 * d + q % 8 ≡ q = omega arith in
            (q % 8, omega arith, rw is (c.2.1, c.2.2))
      ]

  -- nothing is told of what is not accepted
  pub untold : NoneAccepted plan s d kind k → told_in plan (of_interrupt + kind) d k s ≡ 0
  untold none =
      elim (ℕ_discrete (told_in plan (of_interrupt + kind) d k s) 0) [
        | yes e ↦ e
        | no ne ↦ let a = told-accepted (some-told plan (of_interrupt + kind) d k s (omega arith)) in absurd (none a.0 a.1 a.2)
      ]

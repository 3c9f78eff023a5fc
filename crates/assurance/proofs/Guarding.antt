-- What a device sends that is barred wherever its ports lead gets nowhere; and a port counts each code that it drops, up to the most, until its device is reset.
use mathlib.Core.Path.{◌≡◌, refl, sym, ap, ◌∙◌}
use mathlib.Core.Bool.{Bool, true, false, not, ◌&&◌, false≢true}
use mathlib.Core.List.{List}
use mathlib.Core.Logic.{◌⊎◌, inl, inr, ◌≢◌}
use Prim.Native.Nat.{ℕ, ◌+◌, ◌-◌, ◌*◌, ◌/◌, ◌%◌, ◌≤◌, ◌<◌}
use native.Mathlib.Decide.{ℕ_discrete, dec_lt}
use native.Mathlib.Omega.{arith}
use lib.Dec.{eqb, ltb}
use lib.ListN.{length, get_or}
use borrow.Author.Tests.{eq-eqb, ne_eqb, lt-ltb, le-ltb}
use Rattle.answers.specs.Ordered.{Condition, Outcome}
use Rattle.answers.proofs.Outcomes.{Holds, numbered, holds}
use Rattle.lists.proofs.Loops.{keeps, own}
use Rattle.bits.specs.Set.{bit}
use Rattle.bits.proofs.Sets.{bit-two, bit-zero}
use Rattle.codes.specs.Codes.{byte_of}
use Rattle.device.specs.Permissions.{may_receive}
use Rattle.plan.specs.Fields.{nobody}
use Rattle.plan.specs.Reading.{Held}
use Rattle.plan.specs.declared.Plan.{Plan}
use Rattle.state.specs.State.{State, word, put, register_at, port_at, register, waiting, running_at, running, counter_at, drops_at, drops, most_drops}
use Rattle.state.specs.Network.{devices, router, peer, permissions, bars}
use Rattle.state.specs.Sound.{Sound}
use Rattle.state.specs.Mark.{mark}
use Rattle.state.proofs.Words.{length-put, word_same, word-other, word-past}
use Rattle.state.proofs.Parts.{register_of, port-of, drops-of}
use Rattle.state.proofs.Plans.{few, owned, port-there, joined-exists, far-end}
use Rattle.state.proofs.Marks.{mark-other}
use Rattle.state.proofs.Times.{queue-times-left}
use Rattle.state.proofs.Waits.{queue-all-left}
use Rattle.calls.specs.Calls.{called, switched, reset as calls_reset}
use Rattle.calls.specs.Stopping.{LinkKeeps}
use Rattle.calls.proofs.Called.{call-sound, tick-sound, tick-drops, link-sound, reset-sound}
use Rattle.calls.proofs.Stopping.{link-keeps}
use Rattle.calls.proofs.Zeros.{keep}
use Rattle.bench.specs.Round.{World, nothing, one_more, sent_bytes, arrives, reached, after_sending, round as round_round}
use Rattle.bench.proofs.RoundSound.{bars_at, Opens, Bars, is_new, bars-at, bars-not-opens, of_either, arrives-any, arrives-sound, round-sound}
use Rattle.laws.specs.Alike.{Alike, SendsIt}
use Rattle.laws.specs.Events.{Step, host, tick, link, reset, round}
use Rattle.laws.specs.Timing.{before, NoneAccepted}
use Rattle.laws.proofs.Accepting.{arrives-opens}
use Rattle.laws.proofs.Apart.{Both, about, alike_same, alike-front, arrives-aside, call-apart, tick-apart}
use Rattle.laws.proofs.Telling.{untold}
use Rattle.reach.specs.Walk.{stay, cross}
use Rattle.assurance.specs.Guarding.{Fenced, Outside, Babbles, Asks, Meanwhile, step, fault, Contained, ReachesItself, Restarts, Drops, Counts, Dropped, none, one, rest, up_to_most, EachCounted, OnlyResets}
use Rattle.assurance.proofs.Choices.{sends-small, sends-inside, sent-waits, waits-runs}
use Rattle.assurance.proofs.Taking.{Took, took, called-took}
use Rattle.assurance.proofs.Fits.{alike-back}
use Rattle.assurance.proofs.Posted.{posts-sound, posts-runs, posts-marks, posts-waited, posts-drops}
use Rattle.assurance.proofs.Entering.{arrives-meets}
use Rattle.assurance.proofs.Flags.{Same, arrives-same}

-- ---- a step, taken or refused

-- done, it is so of what the call makes; refused, of what was
by_number : (P : State → Type 0) {cs : List Condition} {s done t : State} {number : ℕ} → numbered cs ≡ true → Outcome cs s done number t → P s
    → (number ≡ 0 → Holds cs → P done) → P t
by_number P {cs} {number = number} ok call old new =
    elim (ℕ_discrete number 0) [
      | yes z ↦ rw (call.made z) (new z (holds cs ok call.answers z))
      | no n ↦ rw (call.kept n) old
    ]

-- every step keeps a sound state sound
step-sound : (plan : Plan) → Held plan → {s t : State} → Sound plan s → Step plan s t → Sound plan t
step-sound plan held {s} x (host kind e j number g call) =
    by_number (Sound plan) refl call x (λ z asked. call-sound plan held s x kind e j g asked.1.1.0 asked.1.1.1.0)
step-sound plan held {s} x (tick e number call) = by_number (Sound plan) refl call x (λ z asked. tick-sound plan held s x e asked.1.1.0)
step-sound plan held {s} x (link e p runs number call) =
    by_number (Sound plan) refl call x (λ z asked. link-sound plan held s x e p asked.1.1.0 asked.1.1.1.0 asked.1.1.1.1.0 runs)
step-sound plan held {s} x (reset e number call) = by_number (Sound plan) refl call x (λ z asked. reset-sound plan held s x e asked.1.1.0)
step-sound plan held {s} x round = round-sound plan held s x

-- ---- a device that is fenced in

-- what is so of 0 and of a word is so of it after any word became 0
zeroed : (P : ℕ → Type 0) → P 0 → (s : State) (i j : ℕ) → P (word s j) → P (word (put s i 0) j)
zeroed P z s i j old =
    elim (ℕ_discrete j i) [
      | no n ↦ rw (word-other s i 0 j n) old
      | yes e ↦ elim (dec_lt i (length s)) [
        | yes l ↦ rw (e, word_same s i 0 l) z
        | no m ↦ rw (e, word-past (put s i 0) i (omega (arith, length-put s i 0))) z
      ]
    ]

module _ (plan : Plan) (k : ℕ) where
  -- bit k of word i is 0
  abbrev Unset : ℕ → State → Type 0
  Unset i s = bit (word s i) k ≡ 0

  -- a link that is switched sets no bit but in flags
  link-unset : (runs : Bool) (q i : ℕ) → i ≢ port_at q running_at → i ≢ port_at (peer plan q) running_at → (s : State) → Unset i s → Unset i (switched plan runs q s)
  unfolding switched
  link-unset true q i a b s old = ap (λ v. bit v k) (word-other _ (port_at (peer plan q) running_at) 1 i b ∙ word-other s (port_at q running_at) 1 i a) ∙ old
  link-unset false q i a b s old = gone _ _ (gone _ _ (gone _ _ (gone _ _ (gone _ _ (gone _ _ (gone _ _ (gone _ _ old)))))))
    where
      gone : (t : State) (j : ℕ) → Unset i t → Unset i (put t j 0)
      gone t j = zeroed (λ v. bit v k ≡ 0) (bit-zero k) t j i

module _ (plan : Plan) (held : Held plan) (x kind k : ℕ) (g : kind < 2) (l : k < 32) where
  -- what does not concern k leaves it outside
  alike-outside : {s t : State} → Alike k s t → Sound plan t → Outside plan x kind k s → Outside plan x kind k t
  alike-outside a y o =
      let n = few plan held in
      record {
        sound = y;
        idle = λ q h ne. sym (a.waits kind q g h) ∙ o.idle q h ne;
        unset = λ z e h ne. sym (a.marks e (omega arith)) ∙ o.unset z e h ne;
      }

  -- a device takes a code of k in, one of the kind only where it is x: at other devices' ports none of the kind waits
  took-idle : (c : ℕ) → c < 2 → {d but : ℕ} {hands : Bool} {s t : State} → Took plan c k d but hands s t → (c ≡ kind → d ≡ x) → (q : ℕ) → q < 256 → q / 8 ≢ x
      → bit (waiting s kind q) k ≡ 0 → bit (waiting t kind q) k ≡ 0
  took-idle c b {t = t} got mine q h ne old =
      elim (ℕ_discrete c kind) [
        | yes is ↦
            let fresh = rw is at (got.fresh q h) in
            let none : bit (waiting t kind q) k ≡ 1 → ⊥ = λ b. elim (fresh b) [ inl a ↦ omega arith | inr a ↦ ne (a.1.here ∙ mine is) ] in
            omega (arith, bit-two (waiting t kind q) k)
        | no other ↦
            let is : 1 - c ≡ kind = omega arith in
            (rw is at (got.other q h)) old
      ]

  -- and, of interrupts, none of them holds it
  took-outside : {c d but : ℕ} {hands : Bool} {s t : State} → c < 2 → Took plan c k d but hands s t → (c ≡ kind → d ≡ x) → Sound plan t → Outside plan x kind k s → Outside plan x kind k t
  took-outside {c} {d} b got mine y o =
      let n = few plan held in
      record {
        sound = y;
        idle = λ q h ne. took-idle c b got mine q h ne (o.idle q h ne);
        unset = λ z e h ne. elim (ℕ_discrete e d) [
          | yes is ↦ let other : c ≢ kind = λ same. ne (is ∙ mine same) in rw is (omega (arith, got.held))
          | no other ↦ ap (λ v. bit v k) (got.others e (omega arith) other).0 ∙ o.unset z e h ne
        ];
      }

  module _ (fenced : Fenced plan x kind k) {s : State} (o : Outside plan x kind k s) where
    -- one of the kind that comes to another device is barred there
    barred-there : (q : ℕ) → q < 256 → q / 8 ≢ x → SendsIt plan k s kind (peer plan q) → bit (bars_at plan kind q) k ≡ 1
    barred-there q h ne e =
        let far = peer plan q in
        let small : far < 256 = sends-small plan k kind s far l g e in
        let back = (far-end plan held q h (joined-exists plan held q h small) small).back in
        let waits = sent-waits plan held k l s far (sends-inside plan k kind s far l g e) kind g e in
        elim (ℕ_discrete (far / 8) x) [
          | no other ↦ absurd (omega (arith, o.idle far small other))
          | yes here ↦
              let is : 8 * x + far % 8 ≡ far = omega arith in
              let bar = rw (is, back) at (fenced (far % 8) (omega arith)) in
              ap (λ v. bit v k) (bars-at plan held q kind h g) ∙ bar h ne
        ]

    -- so it opens no port there
    shut : (q : ℕ) → q < 256 → SendsIt plan k s kind (peer plan q) → {t : State} → Opens plan kind k q t → q / 8 ≡ x
    shut q h e p = elim (ℕ_discrete (q / 8) x) [ yes is ↦ is | no ne ↦ absurd (omega (arith, barred-there q h ne e, p.unbarred)) ]

    -- and is not taken in
    none-accepted : (e : ℕ) → e < devices plan → e ≢ x → NoneAccepted plan s e kind k
    none-accepted e h ne p b a =
        let n = few plan held in
        absurd (omega (arith, shut (8 * e + p) (omega arith) a.0 (arrives-opens plan (sent_bytes plan s) (8 * e + p) (before plan s (8 * e + p)) kind k g l a.0 a.1)))

    -- timers and sending
    posts-outside : Outside plan x kind k (after_sending plan s).state
    posts-outside =
        record {
          sound = posts-sound plan held o.sound;
          idle = λ q h ne.
              let none : bit (waiting (after_sending plan s).state kind q) k ≡ 1 → ⊥ = λ b. omega (arith, posts-waited plan held o.sound k l kind q g h b, o.idle q h ne) in
              omega (arith, bit-two (waiting (after_sending plan s).state kind q) k);
          unset = λ z e h ne. posts-marks plan held o.sound k l e h (λ b. absurd (omega (arith, o.unset z e h ne))) ∙ o.unset z e h ne;
        }

    -- one arrival
    arrives-outside : (j : ℕ) (w : World) → j < 8 * devices plan → Outside plan x kind k w.state → Outside plan x kind k (arrives plan (sent_bytes plan s) j w).state
    arrives-outside j w b v =
        let n = few plan held in
        let sent = sent_bytes plan s in
        let y = arrives-sound plan held sent j (omega arith) w v.sound in
        elim (about k (get_or sent (peer plan j) nothing)) [
          | inl c ↦
              arrives-meets plan j (omega arith) w k (λ t. Sound plan t → Outside plan x kind k t) sent l c.0 c.1 c.2
              (λ closed t u sound. alike-outside (alike-front k l (λ i h. sym (u.front i (omega arith)))) sound v)
              (λ p sound. took-outside c.1 (took plan c.0 k c.1 l (j / 8) j (omega arith) w.state v.sound.size (router plan (j / 8)))
              (λ z. shut j (omega arith) (rw z at c.2) (rw z at p)) sound v) y
          | inr away ↦
              let same : Both k w.state w.state = record { like = alike_same k w.state; left = v.sound.size; right = v.sound.size } in
              alike-outside (alike-back (arrives-aside l plan j (omega arith) sent w same away).like) y v
        ]

    -- all three steps
    round-outside : Outside plan x kind k (round_round plan s).next
    unfolding round_round reached
    round-outside = keeps (arrives plan (sent_bytes plan s)) (λ w. Outside plan x kind k w.state) (8 * devices plan) arrives-outside (after_sending plan s) posts-outside

  module _ {s : State} (o : Outside plan x kind k s) where
    -- a host's call, which is no other device's of the kind for k
    host-outside : (c e j : ℕ) → c < 2 → e < devices plan → j < 32 → (c ≡ kind → j ≡ k → e ≡ x) → Outside plan x kind k (called plan c e j s)
    host-outside c e j b h m mine =
        let n = few plan held in
        elim (ℕ_discrete j k) [
          | no ne ↦ alike-outside (call-apart plan held s o.sound k l c e j b h m ne) (call-sound plan held s o.sound c e j b h m) o
          | yes is ↦
              rw is
              (took-outside b (called-took plan c k b l e (omega arith) s o.sound.size) (λ z. mine z is) (call-sound plan held s o.sound c e k b h l) o)
        ]

    -- a link that is switched
    link-outside : (runs : Bool) (e p : ℕ) → 8 * e + p < 256 → Sound plan (switched plan runs (8 * e + p) s) → Outside plan x kind k (switched plan runs (8 * e + p) s)
    link-outside runs e p h y =
        let n = few plan held in
        record {
          sound = y;
          idle = λ q b ne. link-unset plan k runs (8 * e + p) (port_at q kind) (omega arith) (omega arith) s (o.idle q b ne);
          unset = λ z d b ne. link-unset plan k runs (8 * e + p) (register_at d) (omega arith) (omega arith) s (o.unset z d b ne);
        }

    -- a reset
    reset-outside : (e : ℕ) → e < devices plan → Outside plan x kind k (calls_reset e s)
    reset-outside e h =
        let n = few plan held in
        record {
          sound = reset-sound plan held s o.sound e h;
          idle = λ q b ne. rw (port-of _ q kind b (omega arith)) (keep (λ v. bit v k ≡ 0) (eqb (q / 8) e && not (eqb kind running_at)) (waiting s kind q) (bit-zero k) (o.idle q b ne));
          unset = λ z d b ne. rw (register_of _ d (omega arith)) (keep (λ v. bit v k ≡ 0) (eqb d e) (register s d) (bit-zero k) (o.unset z d b ne));
        }

  -- a step in which no other device asks for k
  step-outside : Fenced plan x kind k → {s t : State} → Outside plan x kind k s → (step : Step plan s t) → (Asks plan x kind k s t step → ⊥) → Outside plan x kind k t
  unfolding Asks
  step-outside fenced o (host c e j number b call) quiet =
      by_number (Outside plan x kind k) refl call o
      (λ z asked. host-outside o c e j b asked.1.1.0 asked.1.1.1.0
      (λ same is. elim (ℕ_discrete e x) [ yes here ↦ here | no ne ↦ absurd (quiet (same, ne, is, z)) ]))
  step-outside fenced {s} o (tick e number call) quiet =
      by_number (Outside plan x kind k) refl call o
      (λ z asked. alike-outside (tick-apart plan held s o.sound k l e asked.1.1.0) (tick-sound plan held s o.sound e asked.1.1.0) o)
  step-outside fenced {s} o (link e p runs number call) quiet =
      by_number (Outside plan x kind k) refl call o
      (λ z asked. link-outside o runs e p (port-there plan held e p asked.1.1.0 asked.1.1.1.0).0
      (link-sound plan held s o.sound e p asked.1.1.0 asked.1.1.1.0 asked.1.1.1.1.0 runs))
  step-outside fenced o (reset e number call) quiet = by_number (Outside plan x kind k) refl call o (λ z asked. reset-outside o e asked.1.1.0)
  step-outside fenced o round quiet = round-outside fenced o

  -- x does whatever it likes
  fault-outside : {s t : State} → Outside plan x kind k s → Babbles plan x s t → Outside plan x kind k t
  fault-outside o b =
      record {
        sound = b.sound;
        idle = λ q h ne. ap (λ v. bit v k) (b.waits kind q g h ne) ∙ o.idle q h ne;
        unset = λ z e h ne. ap (λ v. bit v k) (b.registers e h ne) ∙ o.unset z e h ne;
      }

  -- any number of both
  meanwhile-outside : Fenced plan x kind k → {s t : State} → Outside plan x kind k s → Meanwhile plan x kind k s t → Outside plan x kind k t
  meanwhile-outside fenced o none = o
  meanwhile-outside fenced o (step earlier last quiet) = step-outside fenced (meanwhile-outside fenced o earlier) last quiet
  meanwhile-outside fenced o (fault earlier last) = fault-outside (meanwhile-outside fenced o earlier) last

-- nothing of it gets to another device
pub contained : Contained
unfolding Contained
contained plan x kind k s t held g l fenced o steps =
    let y = meanwhile-outside plan held x kind k g l fenced o steps in (
      y,
      λ e h ne.
          let none = none-accepted plan held x kind k g l fenced y e h ne in
          (none, untold plan held t y.sound e k h l kind g none),
    )

-- codes of the kind go from it to itself alone
pub reaches-itself : ReachesItself
unfolding ReachesItself
reaches-itself plan x kind k s fenced n e stay = refl
reaches-itself plan x kind k s fenced n e (cross {n = m} {d = d} w on p l leads over) =
    let here = reaches-itself plan x kind k s fenced m d w in
    let leads = rw here at leads in
    elim (ℕ_discrete e x) [
      | yes is ↦ is
      | no ne ↦ absurd (omega (arith, fenced p l leads.joined (λ is. ne (leads.there ∙ is)), leads.admits))
    ]

-- ---- how many codes of a kind a port has dropped

-- one more is counted
up_more : (a n : ℕ) → one_more (up_to_most (a + n)) ≡ up_to_most (a + (1 + n))
unfolding one_more
up_more a n =
    elim (dec_lt (a + n) most_drops) [
      | yes l ↦ rw (lt-ltb (up_to_most (a + n)) most_drops (omega arith)) (omega arith)
      | no m ↦ rw (le-ltb (up_to_most (a + n)) most_drops (omega arith)) (omega arith)
    ]

-- a count does not fall by it
more-up : (n : ℕ) → n ≤ one_more n
unfolding one_more
more-up n = of_either (λ v. n ≤ v) (ltb n most_drops) (omega arith) (omega arith)

module _ (plan : Plan) (kind q : ℕ) where
  -- whether the port drops one
  drops-now : (s : State) → Drops plan kind q s ⊎ (Drops plan kind q s → ⊥)
  drops-now s =
      let byte = get_or (sent_bytes plan s) (peer plan q) nothing in
      let k = byte - byte_of kind 0 in
      elim (ℕ_discrete byte (byte_of kind k)) [
        | no ne ↦ inr (λ d. omega (arith, d.sent))
        | yes e ↦ elim (dec_lt k 32) [
          | no big ↦ inr (λ d. omega (arith, d.sent, d.small))
          | yes small ↦ elim (ℕ_discrete (bit (bars plan kind q) k) 1) [
            | no ne ↦ inr (λ d. let is : d.identifier ≡ k = omega (arith, d.sent) in ne (rw is at d.barred))
            | yes barred ↦ by-test (may_receive kind (permissions plan q)) refl k small e barred
          ]
        ]
      ]
    where
      by-test : (t : Bool) → may_receive kind (permissions plan q) ≡ t → (k : ℕ) → k < 32 → SendsIt plan k s kind (peer plan q) → bit (bars plan kind q) k ≡ 1
          → Drops plan kind q s ⊎ (Drops plan kind q s → ⊥)
      by-test true may k small e barred = inl (record { identifier = k; small = small; sent = e; may = may; barred = barred })
      by-test false may k small e barred = inr (λ d. false≢true (sym may ∙ d.may))

  -- and so whether a step counts
  pub drops-or-not : {s t : State} (step : Step plan s t) → Counts plan kind q s t step ⊎ (Counts plan kind q s t step → ⊥)
  unfolding Counts
  drops-or-not (host c e j number f call) = inr (λ y. y)
  drops-or-not (tick e number call) = inr (λ y. y)
  drops-or-not (link e p runs number call) = inr (λ y. y)
  drops-or-not (reset e number call) = inr (λ y. y)
  drops-or-not {s} round = drops-now s

  -- whether a step is a reset of its device
  restarts-or-not : {s t : State} (step : Step plan s t) → Restarts plan q s t step ⊎ (Restarts plan q s t step → ⊥)
  unfolding Restarts
  restarts-or-not (host c e j number f call) = inr (λ y. y)
  restarts-or-not (tick e number call) = inr (λ y. y)
  restarts-or-not (link e p runs number call) = inr (λ y. y)
  restarts-or-not (reset e number call) =
      elim (ℕ_discrete e (q / 8)) [
        | no ne ↦ inr (λ y. ne y.0)
        | yes is ↦ elim (ℕ_discrete number 0) [ yes z ↦ inl (is, z) | no ne ↦ inr (λ y. ne y.1) ]
      ]
  restarts-or-not round = inr (λ y. y)

  -- a step more has its count too, where it is no reset of the port's device
  pub counted-on : {n : ℕ} {s t u : State} → Dropped plan kind q s n t → (step : Step plan t u) → (Restarts plan q t u step → ⊥) → (m : ℕ) × Dropped plan kind q s m u
  counted-on {n} steps last other = elim (drops-or-not last) [ inl y ↦ (1 + n, one steps last y) | inr silent ↦ (n, rest steps last other silent) ]

module _ (plan : Plan) (held : Held plan) (kind q : ℕ) (g : kind < 2) (h : q < 256) where
  -- ---- a round

  module _ (s : State) (x : Sound plan s) where
    abbrev sent : List ℕ
    sent = sent_bytes plan s

    -- the port that drops one is one of the plan, and runs
    drops-there : Drops plan kind q s → (q < 8 * devices plan) × (running s q ≡ 1)
    drops-there d =
        let far = peer plan q in
        let k = d.identifier in
        let small : far < 256 = sends-small plan k kind s far d.small g d.sent in
        let there = joined-exists plan held q h small in
        let waits = sent-waits plan held k d.small s far (sends-inside plan k kind s far d.small g d.sent) kind g d.sent in
        (omega (arith, owned plan held q h there), (x.ports q h there).both_ends small ∙ waits-runs plan held x far small kind k g waits)

    -- its turn to receive: what it drops is counted
    drops-counts : Drops plan kind q s → (w : World) → Same plan held q h s x w → drops (arrives plan sent q w).state kind q ≡ one_more (drops w.state kind q)
    drops-counts d w y =
        let bars : Bars plan kind d.identifier q w.state =
        record {
          runs = y.1 ∙ (drops-there d).1;
          may = d.may;
          barred = λ z. omega (arith, ap (λ v. bit v d.identifier) (bars-at plan held q kind h g), d.barred);
        } in
        arrives-any plan sent q (omega arith) w (λ v. drops v.state kind q ≡ one_more (drops w.state kind q))
        (λ none no-bar big. absurd (no-bar kind d.identifier g d.small d.sent bars))
        (λ c k f l e b. let is : c ≡ kind = omega (arith, d.sent, d.small) in rw is (word_same w.state (drops_at q kind) _ (omega (arith, y.0.size))))
        (λ v l e. absurd (omega (arith, d.sent)))
        (λ c k f l e o.
        let is : c ≡ kind = omega (arith, d.sent, d.small) in
        let same : k ≡ d.identifier = omega (arith, d.sent, d.small) in
        absurd (bars-not-opens bars (rw (is, same) at o)))

    -- a turn in which it drops none leaves the count
    turn-keeps : (j : ℕ) (w : World) → j < 8 * devices plan → Sound plan w.state → (j ≡ q → Drops plan kind q s → ⊥)
        → drops (arrives plan sent j w).state kind q ≡ drops w.state kind q
    turn-keeps j w b y undropped =
        let n = few plan held in
        let same : State → Type 0 = λ t. drops t kind q ≡ drops w.state kind q in
        arrives-any plan sent j (omega arith) w (λ v. same v.state) (λ none no-bar big. refl)
        (λ c k f l e b. word-other w.state (drops_at j c) _ (drops_at q kind) (λ at. lost c k l e b (omega arith) (omega arith)))
        (λ v l e.
        let t = put w.state (counter_at (j / 8)) v in
        let left : same t = word-other w.state (counter_at (j / 8)) v (drops_at q kind) (omega arith) in
        of_either same (is_new v j w && router plan (j / 8)) (queue-times-left (drops_at q kind) (λ p m. omega arith) v (j / 8) j (omega arith) t ∙ left) left)
        (λ c k f l e o. (took plan c k f l (j / 8) j (omega arith) w.state y.size (router plan (j / 8))).behind (drops_at q kind) (omega arith))
      where
        lost : (c k : ℕ) → k < 32 → get_or sent (peer plan j) nothing ≡ byte_of c k → Bars plan c k j w.state → j ≡ q → c ≡ kind → ⊥
        lost c k l e b is same =
            let e : SendsIt plan k s kind (peer plan q) = rw (is, same) at e in
            let b : Bars plan kind k q w.state = rw (is, same) at b in
            undropped is
            (record {
              identifier = k;
              small = l;
              sent = e;
              may = b.may;
              barred =
                  let not_none : bit (bars plan kind q) k ≡ 0 → ⊥ = λ z. b.barred (ap (λ v. bit v k) (bars-at plan held q kind h g) ∙ z) in
                  omega (arith, bit-two (bars plan kind q) k);
            })

    -- the state after sending
    posts-same : Same plan held q h s x (after_sending plan s)
    posts-same = (posts-sound plan held x, posts-runs plan held x q h)

    -- a round in which it drops one
    round-counts : Drops plan kind q s → drops (round_round plan s).next kind q ≡ one_more (drops s kind q)
    unfolding round_round reached
    round-counts d =
        own (arrives plan sent) (Same plan held q h s x) (8 * devices plan) (λ j w b y. arrives-same plan held q h s x j w b y) (λ w. drops w.state kind q) one_more q (drops-there d).0
        (λ j w b ne y. turn-keeps j w b y.0 (λ is. absurd (ne is))) (drops-counts d) (after_sending plan s) posts-same
        ∙ ap one_more (posts-drops plan held x kind q g h)

    -- and one in which it drops none
    round-leaves : (Drops plan kind q s → ⊥) → drops (round_round plan s).next kind q ≡ drops s kind q
    unfolding round_round reached
    round-leaves undropped =
        (keeps (arrives plan sent) (λ w. Sound plan w.state × (drops w.state kind q ≡ drops s kind q)) (8 * devices plan)
        (λ j w b y. (arrives-sound plan held sent j (omega arith) w y.0, turn-keeps j w b y.0 (λ is. undropped) ∙ y.1)) (after_sending plan s)
        (posts-sound plan held x, posts-drops plan held x kind q g h)).1

  -- ---- a step

  module _ {s : State} (x : Sound plan s) where
    -- a step that counts one: there is one more
    step_counts : {t : State} (step : Step plan s t) → Counts plan kind q s t step → drops t kind q ≡ one_more (drops s kind q)
    unfolding Counts
    step_counts (host c e j number f call) y = absurd y
    step_counts (tick e number call) y = absurd y
    step_counts (link e p runs number call) y = absurd y
    step_counts (reset e number call) y = absurd y
    step_counts round y = round-counts s x y

    -- the count is as in s
    abbrev Still : State → Type 0
    Still t = drops t kind q ≡ drops s kind q

    -- a host's call leaves it
    called-leaves : (c e j : ℕ) → c < 2 → e < devices plan → j < 32 → drops (called plan c e j s) kind q ≡ drops s kind q
    unfolding called
    called-leaves c e j f b m =
        let n = few plan held in
        queue-all-left c j (drops_at q kind) f (omega arith) plan.core.permissions e nobody (omega arith) (mark plan c e j s)
        ∙ mark-other plan c e j (drops_at q kind) s (omega arith) (omega arith)

    -- a step that counts none, and is no reset of the port's device, leaves it
    step-leaves : {t : State} (step : Step plan s t) → (Restarts plan q s t step → ⊥) → (Counts plan kind q s t step → ⊥) → drops t kind q ≡ drops s kind q
    unfolding Counts Restarts LinkKeeps
    step-leaves (host c e j number f call) other silent = by_number Still refl call refl (λ z asked. called-leaves c e j f asked.1.1.0 asked.1.1.1.0)
    step-leaves (tick e number call) other silent =
        by_number Still refl call refl (λ z asked. tick-drops e (omega (arith, asked.1.1.0, few plan held)) s (drops_at q kind) (omega arith))
    step-leaves {t} (link e p runs number call) other silent = (link-keeps plan e p runs s number t call).counts q kind h g
    step-leaves (reset e number call) other silent =
        by_number Still refl call refl (λ z asked. drops-of _ q kind h g ∙ rw (ne_eqb (q / 8) e (λ is. other (sym is, z))))
    step-leaves round other silent = round-leaves s x silent

    -- and such a reset clears it
    step-clears : {t : State} (step : Step plan s t) → Restarts plan q s t step → drops t kind q ≡ 0
    unfolding Restarts
    step-clears (host c e j number f call) y = absurd y
    step-clears (tick e number call) y = absurd y
    step-clears (link e p runs number call) y = absurd y
    step-clears (reset e number call) y = rw (call.made y.1) (drops-of _ q kind h g ∙ rw (eq-eqb (q / 8) e (sym y.0)))
    step-clears round y = absurd y

    -- nothing else makes it fall
    step_falls : {t : State} (step : Step plan s t) → drops t kind q < drops s kind q → Restarts plan q s t step
    step_falls taken less =
        elim (restarts-or-not plan kind q taken) [
          | inl y ↦ y
          | inr other ↦ elim (drops-or-not plan kind q taken) [
            | inl y ↦ absurd (omega (arith, step_counts taken y, more-up (drops s kind q)))
            | inr silent ↦ absurd (omega (arith, step-leaves taken other silent))
          ]
        ]

  -- ---- many steps

  -- each that is dropped is counted, in sound states all the way
  counted : {s : State} {n : ℕ} {t : State} → Sound plan s → Dropped plan kind q s n t → Sound plan t × (drops t kind q ≡ up_to_most (drops s kind q + n))
  counted {s = s} x none = (x, omega (arith, x.guard.counts q kind h g))
  counted {s = s} x (one {n = n} steps last y) =
      let before = counted x steps in (
        step-sound plan held before.0 last,
        step_counts before.0 last y ∙ ap one_more before.1 ∙ up_more (drops s kind q) n,
      )
  counted x (rest steps last other silent) =
      let before = counted x steps in (step-sound plan held before.0 last, step-leaves before.0 last other silent ∙ before.1)

-- each code that is dropped is counted, and nothing else
pub each-counted : EachCounted
unfolding EachCounted
each-counted plan kind q n s t held x g h steps = (counted plan held kind q g h x steps).1

-- a reset clears the count, and nothing else makes it fall
pub only-resets : OnlyResets
unfolding OnlyResets
only-resets plan kind q s t taken held x g h = (step-clears plan held kind q g h x taken, step_falls plan held kind q g h x taken)

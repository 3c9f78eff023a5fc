-- What keeps a state sound: a change in the words of one device, in the waiting sets or next of one port, in the words behind the ports, in the count of one port, or of the flags at both ends of a link; and emptying any ports.
use mathlib.Core.Path.{◌≡◌, refl, sym, ap, ◌∙◌}
use mathlib.Core.Bool.{true, false, false≢true}
use mathlib.Core.Logic.{◌⊎◌, inl, inr, ◌≢◌, dite}
use Prim.Native.Nat.{ℕ, zero, suc, ◌+◌, ◌*◌, ◌^◌, ◌≤◌, ◌<◌}
use native.Mathlib.Decide.{dec_lt, ℕ_discrete}
use native.Mathlib.Omega.{arith}
use lib.Bits.{bit_and, and_zero_l, and_zero_r}
use lib.ListN.{length}
use Rattle.device.specs.Permissions.{may_send}
use Rattle.plan.specs.Fields.{nobody}
use Rattle.plan.specs.Reading.{Held}
use Rattle.plan.specs.declared.Plan.{Plan}
use Rattle.state.specs.State.{State, words, word, put, device_words, ports_at, ports_end, port_words, register_at, timer_at, port_at, register, timer, waiting, next_at, next, running_at, running, counter_at, time_at, time_waits, drops_start, drops_at, most_drops}
use Rattle.state.specs.Network.{devices, exists, peer, permissions, guards}
use Rattle.state.specs.Sound.{Timed, Kept, Clocked, Guarded, Sound}
use Rattle.state.proofs.Words.{length-put, word_same, word-other}
use Rattle.state.proofs.Plans.{FarEnd, few, far-end}

-- what is so of both kinds
pub both-kinds : (P : ℕ → Type 0) → P 0 → P 1 → (kind : ℕ) → kind < 2 → P kind
both-kinds P a b zero h = a
both-kinds P a b (suc zero) h = b
both-kinds P a b (suc (suc n)) h = absurd (omega arith)

-- ---- as many words as a state has, of 32 bits

pub record Fits (s : State) : Type 0 where
  pub size : length s ≡ words
  pub fits : (i : ℕ) → word s i < 2 ^ 32

pub put-fits : {s : State} → Fits s → (i v : ℕ) → i < words → v < 2 ^ 32 → Fits (put s i v)
put-fits {s} f i v h g =
    record {
      size = length-put s i v ∙ f.size;
      fits = λ j. elim (ℕ_discrete j i) [
        | yes e ↦ rw (e, word_same s i v (omega arith)) g
        | no ne ↦ rw (word-other s i v j ne) (f.fits j)
      ];
    }

pub sound-fits : {plan : Plan} {s : State} → Sound plan s → Fits s
sound-fits x = record { size = x.size; fits = x.fits }

-- ---- words that are as they were

timed-same : {plan : Plan} {s t : State} {d k : ℕ} → Timed plan s d k → register t d ≡ register s d → timer t d k ≡ timer s d k → Timed plan t d k
timed-same x r e = record { on = rw (r, e) x.on; off = rw (r, e) x.off }

-- a port, and the flag at its far end
kept_same : {plan : Plan} {s t : State} {q : ℕ} → Kept plan s q → ((i : ℕ) → i < port_words → word t (port_at q i) ≡ word s (port_at q i))
    → (peer plan q < nobody → running t (peer plan q) ≡ running s (peer plan q)) → Kept plan t q
kept_same {q} x e f =
    record {
      next-below = rw (e 2 (omega arith)) x.next-below;
      flag = rw (e 3 (omega arith)) x.flag;
      both_ends = λ l. e 3 (omega arith) ∙ x.both_ends l ∙ sym (f l);
      loose = rw (e 3 (omega arith)) x.loose;
      apart = rw (e 0 (omega arith), e 1 (omega arith)) x.apart;
      stopped = λ z kind h. e kind (omega arith) ∙ x.stopped (sym (e 3 (omega arith)) ∙ z) kind h;
      mute = λ kind h z. e kind (omega arith) ∙ x.mute kind h z;
    }

-- the counters, and what ports have of Time-Codes; no port has stopped at which one waits
pub clock-same : {plan : Plan} {s t : State} → Clocked plan s → ((i : ℕ) → ports_end ≤ i → i < drops_start → word t i ≡ word s i)
    → ((q : ℕ) → q < 256 → running t q ≡ 0 → time_waits s q ≡ 0) → Clocked plan t
clock-same x e f =
    record {
      counters = λ d h. rw (e (counter_at d) (omega arith) (omega arith)) (x.counters d h);
      ranges = λ q h. rw (e (time_at q) (omega arith) (omega arith)) (x.ranges q h);
      stopped = λ q h z. rw (e (time_at q) (omega arith) (omega arith)) (f q h z);
      no-counter = λ d l h. e (counter_at d) (omega arith) (omega arith) ∙ x.no-counter d l h;
      no_word = λ q h y. e (time_at q) (omega arith) (omega arith) ∙ x.no_word q h y;
    }

-- what ports dropped
guard-same : {plan : Plan} {s t : State} → Guarded plan s → ((i : ℕ) → drops_start ≤ i → word t i ≡ word s i) → Guarded plan t
guard-same x e =
    record {
      counts = λ q kind h l. rw (e (drops_at q kind) (omega arith)) (x.counts q kind h l);
      no-count = λ q kind h l y. e (drops_at q kind) (omega arith) ∙ x.no-count q kind h l y;
    }

-- two sets that may wait at port q: interrupts (kind 0) and acknowledges (kind 1)
pub record May (plan : Plan) (s : State) (q : ℕ) (w : ℕ → ℕ) : Type 0 where
  pub fits : (kind : ℕ) → kind < 2 → w kind < 2 ^ 32
  pub apart : bit_and (w 0) (w 1) ≡ 0
  pub stopped : running s q ≡ 0 → (kind : ℕ) → kind < 2 → w kind ≡ 0
  pub mute : (kind : ℕ) → kind < 2 → may_send kind (permissions plan q) ≡ false → w kind ≡ 0

module _ (plan : Plan) (held : Held plan) {s : State} (x : Sound plan s) where
  -- ---- a step in the words of one device

  pub device-step : {t : State} → Fits t → (d : ℕ) → d < devices plan → ((i : ℕ) → (register_at d ≤ i → i < register_at d + device_words → ⊥) → word t i ≡ word s i)
      → ((k : ℕ) → k < 32 → Timed plan t d k) → Sound plan t
  device-step f d h same timed =
      let n = few plan held in
      record {
        size = f.size;
        fits = f.fits;
        timers = λ e k l g m. elim (ℕ_discrete e d) [
          | yes q ↦ rw q (timed k m)
          | no ne ↦ timed-same (x.timers e k l g m) (same (register_at e) (omega arith)) (same (timer_at e k) (omega arith))
        ];
        ports = λ q l y. kept_same (x.ports q l y) (λ i m. same (port_at q i) (omega arith)) (λ o. same (port_at (peer plan q) running_at) (omega arith));
        no-device = λ e i l m o. same (device_words * e + i) (omega arith) ∙ x.no-device e i l m o;
        no-port = λ q i l y m. same (port_at q i) (omega arith) ∙ x.no-port q i l y m;
        clock = clock-same x.clock (λ i l m. same i (omega arith)) (λ q l z. x.clock.stopped q l (sym (same (port_at q running_at) (omega arith)) ∙ z));
        guard = guard-same x.guard (λ i l. same i (omega arith));
      }

  -- ---- a step in the words behind the ports

  pub behind-step : {t : State} → Fits t → ((i : ℕ) → i < ports_end → word t i ≡ word s i) → Clocked plan t → Guarded plan t → Sound plan t
  behind-step f same clock guard =
      let n = few plan held in
      record {
        size = f.size;
        fits = f.fits;
        timers = λ e k l g m. timed-same (x.timers e k l g m) (same (register_at e) (omega arith)) (same (timer_at e k) (omega arith));
        ports = λ q l y. kept_same (x.ports q l y) (λ i m. same (port_at q i) (omega arith)) (λ o. same (port_at (peer plan q) running_at) (omega arith));
        no-device = λ e i l m o. same (device_words * e + i) (omega arith) ∙ x.no-device e i l m o;
        no-port = λ q i l y m. same (port_at q i) (omega arith) ∙ x.no-port q i l y m;
        clock = clock;
        guard = guard;
      }

  -- in those of Time-Codes alone
  pub clock-step : {t : State} → Fits t → ((i : ℕ) → (ports_end ≤ i → i < drops_start → ⊥) → word t i ≡ word s i) → Clocked plan t → Sound plan t
  clock-step f same clock = behind-step f (λ i l. same i (omega arith)) clock (guard-same x.guard (λ i l. same i (omega arith)))

  -- the count of a port of a router
  pub drops-step : (q kind v : ℕ) → q < 256 → kind < 2 → v ≤ most_drops → guards plan q ≡ true → Sound plan (put s (drops_at q kind) v)
  drops-step q kind v h l b there =
      let t : State = put s (drops_at q kind) v in
      let left : (i : ℕ) → i ≢ drops_at q kind → word t i ≡ word s i = word-other s (drops_at q kind) v in
      behind-step (put-fits (sound-fits x) (drops_at q kind) v (omega arith) (omega arith)) (λ i g. left i (omega arith))
      (clock-same x.clock (λ i m g. left i (omega arith)) (λ p m z. x.clock.stopped p m (sym (left (port_at p running_at) (omega arith)) ∙ z)))
      (record {
        counts = λ p c m g. elim (ℕ_discrete (drops_at p c) (drops_at q kind)) [
          | yes e ↦ rw (e, word_same s (drops_at q kind) v (omega (arith, x.size))) b
          | no ne ↦ rw (left (drops_at p c) ne) (x.guard.counts p c m g)
        ];
        no-count = λ p c m g y. elim (ℕ_discrete p q) [
          | yes e ↦ absurd (false≢true (sym y ∙ ap (guards plan) e ∙ there))
          | no ne ↦ left (drops_at p c) (omega arith) ∙ x.guard.no-count p c m g y
        ];
      })

  -- ---- a step in the words of ports

  ports-step : {t : State} → Fits t → ((i : ℕ) → (ports_at ≤ i → i < ports_end → ⊥) → word t i ≡ word s i) → ((q : ℕ) → q < 256 → exists plan q ≡ true → Kept plan t q)
      → ((q : ℕ) → q < 256 → exists plan q ≡ false → (i : ℕ) → i < port_words → word t (port_at q i) ≡ word s (port_at q i))
      → ((q : ℕ) → q < 256 → running t q ≡ 0 → time_waits s q ≡ 0) → Sound plan t
  ports-step f same kept gone still =
      let n = few plan held in
      record {
        size = f.size;
        fits = f.fits;
        timers = λ e k l g m. timed-same (x.timers e k l g m) (same (register_at e) (omega arith)) (same (timer_at e k) (omega arith));
        ports = kept;
        no-device = λ e i l m o. same (device_words * e + i) (omega arith) ∙ x.no-device e i l m o;
        no-port = λ q i l y m. gone q l y i m ∙ x.no-port q i l y m;
        clock = clock-same x.clock (λ i l m. same i (λ a b. omega arith)) still;
        guard = guard-same x.guard (λ i l. same i (λ a b. omega arith));
      }

  -- waiting sets and next become 0, at any ports
  pub empty-step : {t : State} → Fits t → ((i : ℕ) → (ports_at ≤ i → i < ports_end → ⊥) → word t i ≡ word s i) → ((q : ℕ) → running t q ≡ running s q)
      → ((q i : ℕ) → q < 256 → i < running_at → (word t (port_at q i) ≡ 0) ⊎ (word t (port_at q i) ≡ word s (port_at q i))) → Sound plan t
  empty-step {t} f same flags emptied =
      let keep : (P : ℕ → Type 0) → P 0 → (q i : ℕ) → q < 256 → i < running_at → P (word s (port_at q i)) → P (word t (port_at q i)) =
      λ P none q i l m p. elim (emptied q i l m) [ inl e ↦ rw e none | inr e ↦ rw e p ] in
      let none : (q i : ℕ) → q < 256 → i < running_at → word s (port_at q i) ≡ 0 → word t (port_at q i) ≡ 0 = keep (λ v. v ≡ 0) refl in
      ports-step f same
      (λ q l y.
      let own = x.ports q l y in
      record {
        next-below = keep (λ v. v < 32) (omega arith) q next_at l (omega arith) own.next-below;
        flag = rw (flags q) own.flag;
        both_ends = rw (flags q, flags (peer plan q)) own.both_ends;
        loose = rw (flags q) own.loose;
        apart =
            keep (λ v. bit_and v (waiting t 1 q) ≡ 0) (and_zero_l (waiting t 1 q)) q 0 l (omega arith)
            (keep (λ v. bit_and (waiting s 0 q) v ≡ 0) (and_zero_r (waiting s 0 q)) q 1 l (omega arith) own.apart);
        stopped = λ e kind m. none q kind l (omega arith) (own.stopped (sym (flags q) ∙ e) kind m);
        mute = λ kind m e. none q kind l (omega arith) (own.mute kind m e);
      })
      (λ q l y i m. elim (ℕ_discrete i running_at) [
        | yes e ↦ rw e (flags q)
        | no ne ↦ let z = x.no-port q i l y m in none q i l (omega arith) z ∙ sym z
      ])
      (λ q l z. x.clock.stopped q l (sym (flags q) ∙ z))

  module _ (q : ℕ) (small : q < 256) (there : exists plan q ≡ true) where
    -- a port that its device lacks is another one
    not-here : (p : ℕ) → exists plan p ≡ false → p ≢ q
    not-here p y e = false≢true (sym y ∙ ap (exists plan) e ∙ there)

    -- a step in all of a port but its flag
    port-step : {t : State} → Fits t → ((i : ℕ) → (port_at q 0 ≤ i → i < port_at q running_at → ⊥) → word t i ≡ word s i)
        → next t q < 32
        → bit_and (waiting t 0 q) (waiting t 1 q) ≡ 0
        → (running s q ≡ 0 → (kind : ℕ) → kind < 2 → waiting t kind q ≡ 0)
        → ((kind : ℕ) → kind < 2 → may_send kind (permissions plan q) ≡ false → waiting t kind q ≡ 0) → Sound plan t
    port-step f same below apart stopped mute =
        let own = x.ports q small there in
        let flags : (p : ℕ) → running _ p ≡ running s p = λ p. same (port_at p running_at) (omega arith) in
        ports-step f (λ i l. same i (λ a b. l (omega arith) (omega arith)))
        (λ p l y. elim (ℕ_discrete p q) [
          | no ne ↦ kept_same (x.ports p l y) (λ i m. same (port_at p i) (omega arith)) (λ o. flags (peer plan p))
          | yes e ↦ rw e (record {
            next-below = below;
            flag = rw (flags q) own.flag;
            both_ends = rw (flags q, flags (peer plan q)) own.both_ends;
            loose = rw (flags q) own.loose;
            apart = apart;
            stopped = λ z. stopped (sym (flags q) ∙ z);
            mute = mute;
          })
        ])
        (λ p l y i m. let ne = not-here p y in same (port_at p i) (omega arith))
        (λ p l z. x.clock.stopped p l (sym (flags p) ∙ z))

    -- the search starts elsewhere
    pub next-step : (n : ℕ) → n < 32 → Sound plan (put s (port_at q next_at) n)
    next-step n h =
        let own = x.ports q small there in
        let same : (i : ℕ) → i ≢ port_at q next_at → word (put s (port_at q next_at) n) i ≡ word s i = word-other s (port_at q next_at) n in
        let sets : (kind : ℕ) → kind < 2 → waiting (put s (port_at q next_at) n) kind q ≡ waiting s kind q = λ kind l. same (port_at q kind) (omega arith) in
        port-step (put-fits (sound-fits x) (port_at q next_at) n (omega arith) (omega arith)) (λ i l. same i (λ e. l (omega arith) (omega arith)))
        (rw (word_same s (port_at q next_at) n (omega (arith, x.size))) h)
        (rw (sets 0 (omega arith), sets 1 (omega arith)) own.apart)
        (λ z kind l. sets kind l ∙ own.stopped z kind l)
        (λ kind l z. sets kind l ∙ own.mute kind l z)

    -- sets that may wait there are put there
    pub sets-step : (w : ℕ → ℕ) → May plan s q w → Sound plan (put (put s (port_at q 0) (w 0)) (port_at q 1) (w 1))
    sets-step w may =
        let t : State = put s (port_at q 0) (w 0) in
        let u : State = put t (port_at q 1) (w 1) in
        let z : Fits t = put-fits (sound-fits x) (port_at q 0) (w 0) (omega arith) (may.fits 0 (omega arith)) in
        let same : (i : ℕ) → i ≢ port_at q 0 → i ≢ port_at q 1 → word u i ≡ word s i =
        λ i a b. word-other t (port_at q 1) (w 1) i b ∙ word-other s (port_at q 0) (w 0) i a in
        let sets : (kind : ℕ) → kind < 2 → waiting u kind q ≡ w kind =
        both-kinds (λ kind. waiting u kind q ≡ w kind)
        (word-other t (port_at q 1) (w 1) (port_at q 0) (omega arith) ∙ word_same s (port_at q 0) (w 0) (omega (arith, x.size)))
        (word_same t (port_at q 1) (w 1) (omega (arith, z.size))) in
        port-step (put-fits z (port_at q 1) (w 1) (omega arith) (may.fits 1 (omega arith)))
        (λ i l. same i (λ e. l (omega arith) (omega arith)) (λ e. l (omega arith) (omega arith)))
        (rw (same (port_at q next_at) (omega arith) (omega arith)) (x.ports q small there).next-below)
        (rw (sets 0 (omega arith), sets 1 (omega arith)) may.apart)
        (λ y kind l. sets kind l ∙ may.stopped y kind l)
        (λ kind l y. sets kind l ∙ may.mute kind l y)

    -- ---- the flags at both ends of a link become v; if that is 0, nothing may wait there

    module _ (link : peer plan q < nobody) (v : ℕ) (h : v < 2) where
      abbrev flagged : State
      flagged = put (put s (port_at q running_at) v) (port_at (peer plan q) running_at) v

      end : FarEnd plan q
      end = far-end plan held q small there link

      flagged-other : (i : ℕ) → i ≢ port_at q running_at → i ≢ port_at (peer plan q) running_at → word flagged i ≡ word s i
      flagged-other i a b = word-other (put s (port_at q running_at) v) (port_at (peer plan q) running_at) v i b ∙ word-other s (port_at q running_at) v i a

      near_fits : Fits (put s (port_at q running_at) v)
      near_fits = put-fits (sound-fits x) (port_at q running_at) v (omega arith) (omega arith)

      flagged-near : running flagged q ≡ v
      flagged-near =
          let ne = end.other in
          word-other (put s (port_at q running_at) v) (port_at (peer plan q) running_at) v (port_at q running_at) (omega arith) ∙ word_same s (port_at q running_at) v (omega (arith, x.size))

      flagged-far : running flagged (peer plan q) ≡ v
      flagged-far = word_same (put s (port_at q running_at) v) (port_at (peer plan q) running_at) v (omega (arith, near_fits.size))

      -- one end, p, whose other end is o
      flagged-end : (p o : ℕ) → Kept plan s p → peer plan p ≡ o → o < nobody → running flagged p ≡ v → running flagged o ≡ v
          → ((kind : ℕ) → kind < 2 → v ≡ 0 → waiting s kind p ≡ 0) → Kept plan flagged p
      flagged-end p o k e l a b none =
          let words : (i : ℕ) → i < 3 → word flagged (port_at p i) ≡ word s (port_at p i) = λ i m. flagged-other (port_at p i) (omega arith) (omega arith) in
          record {
            next-below = rw (words 2 (omega arith)) k.next-below;
            flag = rw a h;
            both_ends = λ m. a ∙ sym (ap (running flagged) e ∙ b);
            loose = λ m. absurd (omega arith);
            apart = rw (words 0 (omega arith), words 1 (omega arith)) k.apart;
            stopped = λ z kind m. words kind (omega arith) ∙ none kind m (sym a ∙ z);
            mute = λ kind m z. words kind (omega arith) ∙ k.mute kind m z;
          }

      -- no other port leads to one of the two
      leads-elsewhere : (p : ℕ) → p < 256 → exists plan p ≡ true → p ≢ q → p ≢ peer plan q → (peer plan p ≢ q) × (peer plan p ≢ peer plan q)
      leads-elsewhere p l y a b =
          dite (dec_lt (peer plan p) nobody)
          (λ m. let back = (far-end plan held p l y m).back in (λ e. b (sym back ∙ ap (peer plan) e), λ e. a (sym back ∙ ap (peer plan) e ∙ end.back)))
          (λ m. omega arith)

      pub flags-step : ((kind : ℕ) → kind < 2 → v ≡ 0 → (waiting s kind q ≡ 0) × (waiting s kind (peer plan q) ≡ 0))
          → (v ≡ 0 → (time_waits s q ≡ 0) × (time_waits s (peer plan q) ≡ 0)) → Sound plan flagged
      flags-step empty timeless =
          let r = peer plan q in
          ports-step (put-fits near_fits (port_at r running_at) v (omega arith) (omega arith)) (λ i l. flagged-other i (λ e. l (omega arith) (omega arith)) (λ e. l (omega arith) (omega arith))) kept
          (λ p l y i m.
          let a = not-here p y in
          let b : p ≢ r = λ e. false≢true (sym y ∙ ap (exists plan) e ∙ end.far) in
          flagged-other (port_at p i) (omega arith) (omega arith))
          (λ p l z. elim (ℕ_discrete p q) [
            | yes e ↦ rw e (timeless (sym flagged-near ∙ rw e at z)).0
            | no a ↦ elim (ℕ_discrete p r) [
              | yes e ↦ rw e (timeless (sym flagged-far ∙ rw e at z)).1
              | no b ↦ x.clock.stopped p l (sym (flagged-other (port_at p running_at) (omega arith) (omega arith)) ∙ z)
            ]
          ])
        where
          kept : (p : ℕ) → p < 256 → exists plan p ≡ true → Kept plan flagged p
          kept p l y =
              elim (ℕ_discrete p q) [
                | yes e ↦ rw e (flagged-end q (peer plan q) (x.ports q small there) refl link flagged-near flagged-far (λ kind m z. (empty kind m z).0))
                | no a ↦ elim (ℕ_discrete p (peer plan q)) [
                  | yes e ↦
                      rw e
                      (flagged-end (peer plan q) q (x.ports (peer plan q) link end.far) end.back small flagged-far flagged-near (λ kind m z. (empty kind m z).1))
                  | no b ↦
                      let c = leads-elsewhere p l y a b in
                      kept_same (x.ports p l y) (λ i m. flagged-other (port_at p i) (omega arith) (omega arith)) (λ o. flagged-other (port_at (peer plan p) running_at) (omega arith) (omega arith))
                ]
              ]

-- What a round passes over: it is so in every sound state of a held plan, and passing over it changes nothing.
use mathlib.Core.Path.{◌≡◌, refl, sym, ap, subst, ◌∙◌}
use mathlib.Core.Bool.{Bool}
use mathlib.Core.List.{List, [], ◌++◌}
use mathlib.Core.Logic.{dite}
use Prim.Native.Nat.{ℕ, ◌+◌, ◌-◌, ◌*◌, ◌/◌, ◌%◌, ◌≤◌, ◌<◌}
use native.Mathlib.Decide.{dec_lt, ℕ_discrete}
use native.Mathlib.Omega.{arith}
use lib.ListN.{length, get_or, take, drop, replicate, length-replicate, get_or-replicate, get_or-eq_default}
use lib.Seq.{ext_get_or}
use Rattle.std.proofs.lemmas.List.{get_or_append_left, get_or-append_right, get_or-take, get_or-drop, length-take-le, length-drop}
use borrow.Rule.Slice.PartMut.{mid_of, post_of, Post-is, same_len_mid}
use borrow.Author.Tests.{lt-ltb, le-ltb}
use Rattle.lists.specs.Loop.{up_to}
use Rattle.lists.specs.Table.{table}
use Rattle.lists.proofs.Loops.{untouched}
use Rattle.lists.proofs.Tables.{length-table, get_d-table, is-table}
use Rattle.bits.specs.Set.{bit}
use Rattle.plan.specs.Fields.{nobody}
use Rattle.plan.specs.Reading.{Held}
use Rattle.plan.specs.declared.Plan.{Plan}
use Rattle.plan.proofs.BothWays.{held-few}
use Rattle.state.specs.State.{State, words, word, put, device_words, ports_at, ports_end, register_at, timer_at, timer, counter_at, time_at, drops_start}
use Rattle.state.specs.Network.{devices, ports_of, peer}
use Rattle.state.specs.Sound.{Sound}
use Rattle.bench.specs.Round.{World, nothing, sent_words, fall, sent_bytes, arrives, round}
use Rattle.bench.specs.Inner.Idle.{Rests, Unused, ports_past, Behind, Blank, Idles, Laid, Copies, Silent}
use Rattle.bench.specs.Inner.Shown.{Leads}
use Rattle.bench.specs.declared.rounds.Told.{Told}
use Rattle.bench.proofs.Falls.{fall-other}
use Rattle.state.proofs.Plans.{few, past-absent, absent-loose}
use Rattle.state.proofs.Words.{word-past, length-put, word_same, word-other}
use Rattle.state.proofs.Parts.{by_place, by-behind}
use Rattle.bench.proofs.Stepped.{fall-idle, goes-not, chosen_none, post-nothing, arrives-nothing}
use Rattle.bench.proofs.Following.{world, turns-still, shows-none}

-- ---- timers

pub sound-rests : {plan : Plan} {s : State} → Sound plan s → (d : ℕ) → d < devices plan → d < 32 → Rests s d
sound-rests x d h g = record { rests = λ k l. (x.timers d k h g l).off }

-- of one device: from timer i to timer m none runs
pub rests-lead : (is_router : Bool) (d : ℕ) {s t : State} {told now : Told} {n i m : ℕ} → i ≤ m → ((k : ℕ) → i ≤ k → k < m → timer s d k ≡ 0)
    → Leads (up_to (fall is_router d) i) n s told t now → Leads (up_to (fall is_router d) m) n s told t now
rests-lead is_router d {i = i} l h p =
    turns-still (fall is_router d) i p l
    (λ w e k a b.
    let same : timer (up_to (fall is_router d) i w).state d k ≡ timer w.state d k =
    untouched (fall is_router d) (λ v. timer v.state d k) i (λ j v c. fall-other is_router d j v (timer_at d k) (omega arith) (omega arith)) w in
    fall-idle is_router d k _ _ (same ∙ ap (λ (s : State). timer s d k) e ∙ h k a b))

-- of all devices, by device then identifier
module _ (is_router : ℕ → Bool) where
  abbrev pub falls : ℕ → World → World
  falls i = fall (is_router (i / 32)) (i / 32) (i % 32)

  pub falls_of : (d k : ℕ) (w : World) → k < 32 → falls (32 * d + k) w ≡ fall (is_router d) d k w
  falls_of d k w l =
      let device : (32 * d + k) / 32 ≡ d = omega arith in
      let place : (32 * d + k) % 32 ≡ k = omega arith in
      rw (device, place)

  -- those of the devices before d leave its words
  falls-leave : (d i : ℕ) (w : World) → register_at d ≤ i → word (up_to falls (32 * d) w).state i ≡ word w.state i
  falls-leave d i w h =
      untouched falls (λ v. word v.state i) (32 * d)
      (λ j v b. fall-other (is_router (j / 32)) (j / 32) (j % 32) v i (omega arith) (omega arith)) w

  -- so when its turn comes, it rests as at first
  pub rests-yet : {s t : State} {told now : Told} {n : ℕ} (d : ℕ) → told.count ≡ 0 → Rests s d → Leads (up_to falls (32 * d)) n s told t now → Rests t d
  rests-yet {s} {t} {told} d none r p =
      let is : (i : ℕ) → register_at d ≤ i → word t i ≡ word s i =
      λ i h. ap (λ (u : State). word u i) (p.follows.follows told.area.now (world s []) (shows-none s told.area.now none)).state ∙ falls-leave d i (world s []) h in
      record {
        rests = λ k l z.
            is (timer_at d k) (omega arith) ∙ r.rests k l (sym (ap (λ (v : ℕ). bit v k) (is (register_at d) (omega arith))) ∙ z);
      }

-- ---- ports

-- the ports that a device lacks, of a sound state
pub sound-unused : {plan : Plan} {s : State} → Held plan → Sound plan s → (d : ℕ) → d < 32 → Unused s d (ports_of plan d)
sound-unused {plan} {s} h x d l =
    record {
      most = (held-few plan h d l).1;
      unused = λ q kind a b k.
          let device : q / 8 ≡ d = omega arith in
          x.no-port q kind (omega arith) (rw device (le-ltb (q % 8) (ports_of plan d) (omega arith))) (omega arith);
      untimed = λ q a b.
          let device : q / 8 ≡ d = omega arith in
          x.clock.no_word q (omega arith) (rw device (le-ltb (q % 8) (ports_of plan d) (omega arith)));
    }

-- at them nothing arrives, as they lead nowhere
pub arrives-unused : (plan : Plan) → Laid plan → (sent : List ℕ) → length sent ≡ sent_words → (d q : ℕ) → d < devices plan → 8 * d + ports_of plan d ≤ q
    → q < 8 * d + 8 → (w : World) → arrives plan sent q w ≡ w
arrives-unused plan h sent e d q l a b w =
    let device : 8 * d + q % 8 ≡ q = omega arith in
    let nowhere : peer plan q ≡ nobody = rw device at (h.nowhere d (q % 8) l (omega arith) (omega arith)) in
    let byte : get_or sent (peer plan q) nothing ≡ nothing = ap (λ (p : ℕ). get_or sent p nothing) nowhere ∙ get_or-eq_default sent nothing (omega arith) in
    arrives-nothing plan sent q nothing (sym byte) w (omega arith)

-- ---- the words of absent devices

pub sound-blank : (plan : Plan) → Held plan → {s : State} → Sound plan s → Blank (devices plan) s
sound-blank plan h {s} x =
    let n = few plan h in
    record {
      size = x.size;
      blank =
          by_place (λ i. register_at (devices plan) ≤ i → (ports_at ≤ i → ports_past (devices plan) ≤ i) → Behind (devices plan) i → word s i ≡ 0)
          (λ d l a b c. ap (word s) {x = register_at d} {y = device_words * d + 0} (omega arith) ∙ x.no-device d 0 (omega arith) l (omega arith))
          (λ d k l m a b c. ap (word s) {x = timer_at d k} {y = device_words * d + (1 + k)} (omega arith) ∙ x.no-device d (1 + k) (omega arith) l (omega arith))
          (λ q i l m a b c. x.no-port q i l (past-absent plan h q l (omega (arith, b (omega arith)))) m)
          (by-behind (λ i. register_at (devices plan) ≤ i → (ports_at ≤ i → ports_past (devices plan) ≤ i) → Behind (devices plan) i → word s i ≡ 0)
          (λ d l a b c. x.clock.no-counter d (omega (arith, c.0 (omega arith))) l)
          (λ q l a b c. x.clock.no_word q l (past-absent plan h q l (omega (arith, c.1 (omega arith)))))
          (λ q kind l m a b c. x.guard.no-count q kind l m (rw (le-ltb (q / 8) (devices plan) (omega (arith, c.2 (omega arith))))))
          (λ i l a b c. word-past s i (omega (arith, x.size))));
    }

-- an area that is filled with one word
pub filled : (n v : ℕ) {s : State} → s ≡ replicate n v → s ≡ table n (λ _. v)
filled n v e = e ∙ is-table n (λ _. v) _ 0 (length-replicate n v) (λ i h. get_or-replicate n i v 0 h)

pub zeros-blank : (n : ℕ) {s : State} → s ≡ table words (λ i. 0) → Blank n s
unfolding word
zeros-blank n {s} e =
    let long : length s ≡ words = ap length e ∙ length-table words _ in
    record {
      size = long;
      blank = λ i a b c. dite (dec_lt i words) (λ l. ap (λ (x : State). word x i) e ∙ get_d-table words (λ i. 0) i 0 l)
          (λ l. word-past s i (omega (arith, long)));
    }

-- a part of the words is copied
module _ (from to : ℕ) (old before part : State) (l : from ≤ to) (m : to ≤ length old) (room : to ≤ length before) (is : part ≡ mid_of from (to - from) old) where
  abbrev after : State
  after = take from before ++ (part ++ post_of from (to - from) before)

  front : length (take from before) ≡ from
  front = length-take-le from before (omega arith)

  long : length part ≡ to - from
  long = ap length is ∙ length-take-le (to - from) (drop from old) (omega (arith, length-drop from old))

  inside : (i : ℕ) → from ≤ i → i < to → word after i ≡ word old i
  unfolding word
  inside i a b =
      get_or-append_right (take from before) _ from i 0 front a
      ∙ get_or_append_left part _ 0 (i - from) (omega (arith, long))
      ∙ ap (λ (w : State). get_or w (i - from) 0) is
      ∙ get_or-take (to - from) (drop from old) (i - from) 0 (omega arith)
      ∙ get_or-drop from old (i - from) 0
      ∙ ap (λ (n : ℕ). get_or old n 0) (omega arith)

  outside : (i : ℕ) → (from ≤ i → i < to → ⊥) → word after i ≡ word before i
  unfolding word
  outside i o =
      dite (dec_lt i from)
      (λ b. get_or_append_left (take from before) _ 0 i (omega (arith, front)) ∙ get_or-take from before i 0 b)
      (λ b.
      get_or-append_right (take from before) _ from i 0 front (omega arith)
      ∙ get_or-append_right part _ (to - from) (i - from) 0 long (omega (arith, o (omega arith)))
      ∙ ap (λ (w : State). get_or w (i - from - (to - from)) 0) (Post-is from to before l)
      ∙ get_or-drop to before (i - from - (to - from)) 0
      ∙ ap (λ (n : ℕ). get_or before n 0) (omega (arith, o (omega arith))))

  pub copies-part : Copies from to old before after
  copies-part =
      record {
        size = same_len_mid from (to - from) before part (long ∙ sym (length-take-le (to - from) (drop from before) (omega (arith, length-drop from before))));
        there = inside;
        left = outside;
      }

-- words that are copied, by one store after the other
pub copies-none : {from to : ℕ} {old s : State} → to ≤ from → Copies from to old s s
copies-none h = record { size = refl; there = λ i a b. absurd (omega arith); left = λ i o. refl }

pub copies-more : {from i v : ℕ} {old s t : State} → Copies from i old s t → from ≤ i → i < length t → v ≡ word old i → Copies from (i + 1) old s (put t i v)
copies-more {i = i} {v} {t = t} x l h e =
    record {
      size = length-put t i v ∙ x.size;
      there = λ j a b. elim (ℕ_discrete j i) [
        | yes z ↦ rw z (word_same t i v h ∙ e)
        | no n ↦ word-other t i v j n ∙ x.there j a (omega arith)
      ];
      left = λ j o. word-other t i v j (λ z. o (omega arith) (omega arith)) ∙ x.left j (λ a b. o a (omega arith));
    }

-- what is so of every place that is theirs, and of every other, is so of all; those of devices, of ports, of counters, of the ports' Time-Codes, and of
-- their drops
by-theirs : {n : ℕ} (P : ℕ → Type 0) → n ≤ 32 → ((i : ℕ) → i < register_at n → P i) → ((i : ℕ) → ports_at ≤ i → i < ports_past n → P i)
    → ((i : ℕ) → ports_end ≤ i → i < counter_at n → P i) → ((i : ℕ) → time_at 0 ≤ i → i < time_at (8 * n) → P i)
    → ((i : ℕ) → drops_start ≤ i → i < drops_start + 16 * n → P i)
    → ((i : ℕ) → register_at n ≤ i → (ports_at ≤ i → ports_past n ≤ i) → Behind n i → P i) → (i : ℕ) → P i
by-theirs {n} P few devices ports counters times counts others i =
    dite (dec_lt i (register_at n)) (devices i)
    (λ a. dite (dec_lt i ports_at) (λ m. others i (omega arith) (λ o. absurd (omega arith)) (λ o. absurd (omega arith), λ o. absurd (omega arith), λ o. absurd (omega arith)))
    (λ b. dite (dec_lt i (ports_past n)) (ports i (omega arith))
    (λ c. dite (dec_lt i ports_end) (λ m. others i (omega arith) (λ _. omega arith) (λ o. absurd (omega arith), λ o. absurd (omega arith), λ o. absurd (omega arith)))
    (λ d. dite (dec_lt i (counter_at n)) (counters i (omega arith))
    (λ e. dite (dec_lt i (time_at 0)) (λ m. others i (omega arith) (λ _. omega arith) (λ _. omega arith, λ o. absurd (omega arith), λ o. absurd (omega arith)))
    (λ f. dite (dec_lt i (time_at (8 * n))) (times i (omega arith))
    (λ g. dite (dec_lt i drops_start) (λ m. others i (omega arith) (λ _. omega arith) (λ _. omega arith, λ _. omega arith, λ o. absurd (omega arith)))
    (λ j. dite (dec_lt i (drops_start + 16 * n)) (counts i (omega arith)) (λ k. others i (omega arith) (λ _. omega arith) (λ _. omega arith, λ _. omega arith, λ _. omega arith))))))))))

-- the words of the devices and of their ports are brought over
pub brought : {n : ℕ} {old next one two three four after : State} → n ≤ 32 → Blank n old → Blank n next → Copies 0 (device_words * n) old next one
    → Copies ports_at (ports_past n) old one two → Copies ports_end (counter_at n) old two three → Copies (time_at 0) (time_at (8 * n)) old three four
    → Copies drops_start (drops_start + 16 * n) old four after → after ≡ old
unfolding word
brought {n} {old} {next} {one} {two} {three} {four} {after} few x y a b c d e =
    ext_get_or 0 after old (e.size ∙ d.size ∙ c.size ∙ b.size ∙ a.size ∙ y.size ∙ sym x.size)
    (λ i h. by-theirs (λ i. word after i ≡ word old i) few
    (λ i l. e.left i (λ p q. omega arith) ∙ d.left i (λ p q. omega arith) ∙ c.left i (λ p q. omega arith) ∙ b.left i (λ p q. omega arith) ∙ a.there i (omega arith) l)
    (λ i l m. e.left i (λ p q. omega arith) ∙ d.left i (λ p q. omega arith) ∙ c.left i (λ p q. omega arith) ∙ b.there i l m)
    (λ i l m. e.left i (λ p q. omega arith) ∙ d.left i (λ p q. omega arith) ∙ c.there i l m)
    (λ i l m. e.left i (λ p q. omega arith) ∙ d.there i l m)
    (λ i l m. e.there i l m)
    (λ i l m o.
    e.left i (λ p q. omega (arith, o.2 p)) ∙ d.left i (λ p q. omega (arith, o.1 p)) ∙ c.left i (λ p q. omega (arith, o.0 p)) ∙ b.left i (λ p q. omega (arith, m p)) ∙ a.left i (λ p q. omega arith)
    ∙ y.blank i l m o ∙ sym (x.blank i l m o)) i)

-- ---- where nothing is sent

pub silent-all : (n : ℕ) (ports : List ℕ) {sent : List ℕ} → sent ≡ table sent_words (λ i. nothing) → Silent n ports sent
silent-all n ports {sent} e =
    record {
      size = ap length e ∙ length-table sent_words _;
      unsent = λ q l h. ap (λ (x : List ℕ). get_or x q nothing) e ∙ get_d-table sent_words (λ i. nothing) q nothing l;
    }

pub silent-repeat : (n : ℕ) (ports : List ℕ) → Silent n ports (replicate sent_words nothing)
silent-repeat n ports =
    record { size = length-replicate sent_words nothing; unsent = λ q l h. get_or-replicate sent_words q nothing nothing l }

-- after a round, too
silent-sent : (plan : Plan) {s : State} → Idles plan s → Silent (devices plan) plan.core.ports (sent_bytes plan s)
unfolding sent_bytes
silent-sent plan {s} x =
    record {
      size = length-table sent_words _;
      unsent = λ q l h. get_d-table sent_words _ q nothing l ∙ dite (dec_lt q (8 * devices plan))
          (λ m.
          let device : 8 * (q / 8) + q % 8 ≡ q = omega arith in
          rw (lt-ltb q (8 * devices plan) m)
          (let u = x.unused (q / 8) (omega arith) in
          post-nothing s q (goes-not s q (rw (u.untimed q (h m) (omega arith)))) (chosen_none s q (λ kind k. u.unused q kind (h m) (omega arith) k))))
          (λ m. rw (le-ltb q (8 * devices plan) (omega arith)));
    }

pub silent-played : {plan : Plan} {s : State} {sent : List ℕ} → Idles plan s → sent ≡ (round plan s).sent → Silent (devices plan) plan.core.ports sent
unfolding round
silent-played {plan} x e = subst (Silent (devices plan) plan.core.ports) (sym e) (silent-sent plan x)

-- ---- all of it, of a sound state of a held plan

pub held-laid : (plan : Plan) → Held plan → Laid plan
held-laid plan h =
    let n = few plan h in
    record {
      few = n;
      most = λ d l. (held-few plan h d (omega arith)).1;
      nowhere = λ d p l a b.
          let device : (8 * d + p) / 8 ≡ d = omega arith in
          let place : (8 * d + p) % 8 ≡ p = omega arith in
          absent-loose plan h (8 * d + p) (omega arith) (rw (device, place) (le-ltb p (ports_of plan d) a));
    }

pub sound-idles : (plan : Plan) → Held plan → {s : State} → Sound plan s → Idles plan s
sound-idles plan h x =
    let n = few plan h in
    record { resting = λ d l. sound-rests x d l (omega arith); unused = λ d l. sound-unused h x d (omega arith); absent = sound-blank plan h x }

-- A round keeps a sound state sound.
use mathlib.Core.Path.{◌≡◌, refl, sym, ap, ◌∙◌}
use mathlib.Core.Bool.{Bool, true, false, cond, not, ◌&&◌, false≢true}
use mathlib.Core.List.{List, [], ◌∷◌, ◌++◌}
use mathlib.Core.Logic.{◌⊎◌, inl, inr}
use Prim.Native.Nat.{ℕ, ◌+◌, ◌*◌, ◌/◌, ◌≤◌, ◌<◌}
use native.Mathlib.Decide.{dec_lt}
use native.Mathlib.Omega.{arith}
use lib.Dec.{eqb, ltb}
use lib.ListN.{length, get_or}
use borrow.Author.Tests.{eqb-true, eqb-false, eq-eqb, ne_eqb, ltb-false, lt-ltb, le-ltb, not-true}
use Rattle.lists.proofs.Loops.{keeps}
use Rattle.lists.proofs.Tests.{both, and_left, and_right}
use Rattle.bits.specs.Set.{bit}
use Rattle.bits.proofs.Sets.{bit-zero}
use Rattle.codes.specs.Codes.{byte_of, reads}
use Rattle.codes.specs.declared.Code.{Code}
use Rattle.codes.specs.declared.Code.TheVariants.{Time, Interrupt, Acknowledge, Reserved}
use Rattle.codes.proofs.BothWays.{Stands, stands, time, interrupt, acknowledge, reserved, reserved-apart}
use Rattle.device.specs.Permissions.{may_receive}
use Rattle.device.specs.Reaction.{next_time, is_used, bars_of, marked, kept, ruled, counted as reaction_counted, reacts_to, reacts}
use Rattle.device.specs.declared.Action.TheVariants.{Named, Forwarded, Told, Dropped}
use Rattle.device.specs.declared.Reaction.{Reaction}
use Rattle.device.specs.declared.Side.{Side}
use Rattle.device.proofs.Rule.{Accepts, is_dropped, ruled-cases, when-dropped}
use Rattle.plan.specs.Reading.{Held}
use Rattle.plan.specs.declared.Plan.{Plan}
use Rattle.state.specs.State.{State, word, put, ports_end, register_at, register, running, counter_at, counter, drops_at, drops, most_drops}
use Rattle.state.specs.Network.{devices, router, exists, peer, permissions, bars, guards, events, load_of}
use Rattle.state.specs.Sound.{Sound}
use Rattle.state.specs.Queue.{queue_all, queue_time_all}
use Rattle.state.specs.Mark.{mark}
use Rattle.bench.specs.Round.{World, of_interrupt, of_time, told_word, one_more, timed, forwarded, lost, tells, side_of, acted, arrived, sent_bytes, arrives, reached, after_timers, after_sending, round, nothing}
use Rattle.bench.specs.Settling.{rounds}
use Rattle.state.proofs.Words.{length-put, word-other, put_word}
use Rattle.state.proofs.Plans.{few, no-bars}
use Rattle.state.proofs.Keeping.{both-kinds, drops-step}
use Rattle.state.proofs.Marks.{mark-step}
use Rattle.bench.proofs.Falls.{fallen-sound}
use Rattle.state.proofs.Waits.{queue-all-sound}
use Rattle.state.proofs.Times.{counter-step, queue-time-sound, length-times, queue-times-left}
use Rattle.bench.proofs.Unqueued.{posted-sound}

-- ---- a byte arrives at port q

-- what a reaction makes of the world
abbrev pub after : Plan → ℕ → World → Reaction → World
after plan q w r =
    acted (load_of plan (q / 8)) plan.core.permissions q r.action
    (record { state = put (put w.state (counter_at (q / 8)) r.counter) (register_at (q / 8)) r.register; told = w.told })

-- what port q bars of codes of a kind: a node's port bars nothing
abbrev pub bars_at : Plan → ℕ → ℕ → ℕ
bars_at plan kind q = cond (router plan (q / 8)) (bars plan kind q) 0

-- port q takes codes of a kind, they are in use for identifier k, and this one is new to its device
pub record Opens (plan : Plan) (kind k q : ℕ) (s : State) : Type 0 where
  pub runs : running s q ≡ 1
  pub may : may_receive kind (permissions plan q) ≡ true
  pub unbarred : bit (bars_at plan kind q) k ≡ 0
  pub used : is_used (events plan) kind k ≡ true
  pub stood : bit (register s (q / 8)) k ≡ kind

-- port q may receive codes of a kind, and bars identifier k
pub record Bars (plan : Plan) (kind k q : ℕ) (s : State) : Type 0 where
  pub runs : running s q ≡ 1
  pub may : may_receive kind (permissions plan q) ≡ true
  pub barred : bit (bars_at plan kind q) k ≡ 0 → ⊥

-- it drops a code of the kind, which is counted
abbrev pub loses : ℕ → ℕ → World → World
loses kind q w = record { state = put w.state (drops_at q kind) (one_more (drops w.state kind q)); told = w.told }

-- device d takes a code in: it marks it, and if it hands it on, queues it at its ports but one
abbrev pub taking : Plan → ℕ → ℕ → ℕ → ℕ → Bool → State → State
taking plan kind k d but hands s = cond hands (queue_all plan kind k d but (mark plan kind d k s)) (mark plan kind d k s)

-- it came by port q; who does not hand it on tells its host
abbrev pub takes : Plan → ℕ → ℕ → ℕ → Bool → World → World
takes plan kind k q hands w =
    record {
      state = taking plan kind k (q / 8) q hands w.state;
      told = cond hands w.told (w.told ++ (told_word (of_interrupt + kind) (q / 8) k ∷ []));
    }

-- a Time-Code with the value v comes by port q: its device's counter takes the value, and a new one is queued or told
abbrev pub counts : Bool → Bool → ℕ → ℕ → World → World
counts new hands v q w =
    let t = put w.state (counter_at (q / 8)) v in
    record {
      state = cond (new && hands) (queue_time_all v (q / 8) q t) t;
      told = cond (new && not hands) (w.told ++ (told_word of_time (q / 8) v ∷ [])) w.told;
    }

-- it is new where it is one more than the counter was
abbrev pub is_new : ℕ → ℕ → World → Bool
is_new v q w = eqb v (next_time (counter w.state (q / 8)))

-- where only the counter is new, the register is put back as it was
pub counter-only : (s : State) (d v : ℕ) → d < 32 → put (put s (counter_at d) v) (register_at d) (register s d) ≡ put s (counter_at d) v
counter-only s d v h =
    ap (put (put s (counter_at d) v) (register_at d)) (sym (word-other s (counter_at d) v (register_at d) (omega arith))) ∙ put_word (put s (counter_at d) v) (register_at d)

-- what a port's side bars is what the plan says
pub side-bars : (plan : Plan) (q : ℕ) (s : State) (kind : ℕ) → kind < 2 → bars_of (side_of plan q s) kind ≡ bars_at plan kind q
unfolding bars_of
side-bars plan q s kind h = both-kinds (λ c. bars_of (side_of plan q s) c ≡ bars_at plan c q) (ap (λ i. cond (router plan (q / 8)) (get_or plan.barred i 0) 0) (omega arith)) refl kind h

-- a code comes that the port is open to, and the device takes it in, and hands it on if it is a router; or one that it bars, which is dropped; or a
-- Time-Code comes; or none does, and nothing changes. What is so in these cases is so of what arrives
module _ (plan : Plan) (sent : List ℕ) (q : ℕ) (small : q / 8 < 32) (w : World) (P : World → Type 0)
    (left : ((kind k : ℕ) → kind < 2 → k < 32 → get_or sent (peer plan q) nothing ≡ byte_of kind k → Opens plan kind k q w.state → ⊥)
    → ((kind k : ℕ) → kind < 2 → k < 32 → get_or sent (peer plan q) nothing ≡ byte_of kind k → Bars plan kind k q w.state → ⊥)
    → 64 ≤ get_or sent (peer plan q) nothing → P w)
    (lost-case : (kind k : ℕ) → kind < 2 → k < 32 → get_or sent (peer plan q) nothing ≡ byte_of kind k → Bars plan kind k q w.state → P (loses kind q w))
    (counted : (v : ℕ) → v < 64 → get_or sent (peer plan q) nothing ≡ v → P (counts (is_new v q w) (router plan (q / 8)) v q w))
    (taken : (kind k : ℕ) → kind < 2 → k < 32 → get_or sent (peer plan q) nothing ≡ byte_of kind k → Opens plan kind k q w.state
    → P (takes plan kind k q (router plan (q / 8)) w)) where
  abbrev byte : ℕ
  byte = get_or sent (peer plan q) nothing

  abbrev bits : ℕ
  bits = register w.state (q / 8)

  abbrev count : ℕ
  count = counter w.state (q / 8)

  abbrev side : Side
  side = side_of plan q w.state

  -- register and counter are put back as they were
  unchanged : P w → P (record { state = put (put w.state (counter_at (q / 8)) count) (register_at (q / 8)) bits; told = w.told })
  unchanged p = rw (put_word w.state (counter_at (q / 8)), put_word w.state (register_at (q / 8))) p

  -- a code of a kind
  module _ (kind k : ℕ) (g : kind < 2) (l : k < 32) (e : byte ≡ byte_of kind k) (code : Code)
      (marks : timed (load_of plan (q / 8)) (q / 8) code (put w.state (register_at (q / 8)) (marked kind bits k)) ≡ mark plan kind (q / 8) k w.state)
      (queues : (t : State) → forwarded plan.core.permissions q code t ≡ queue_all plan kind k (q / 8) q t)
      (says : tells (q / 8) code ≡ told_word (of_interrupt + kind) (q / 8) k ∷ [])
      (counts-as : (t : State) → lost q code t ≡ put t (drops_at q kind) (one_more (drops t kind q))) where
    by-role : (hands : Bool) → P (takes plan kind k q hands w)
        → P (after plan q w (record { register = marked kind bits k; counter = count; action = cond hands (Forwarded code) (Told code) }))
    unfolding acted
    by-role true p = rw (put_word w.state (counter_at (q / 8)), marks, queues) p
    by-role false p = rw (put_word w.state (counter_at (q / 8)), marks, says) p

    -- no other code comes than this one
    same : (Q : ℕ → ℕ → Type 0) → (Q kind k → ⊥) → (c j : ℕ) → c < 2 → j < 32 → byte ≡ byte_of c j → Q c j → ⊥
    same Q n c j f m o y =
        let a : c ≡ kind = omega arith in
        let b : j ≡ k = omega arith in
        n (rw (a, b) at y)

    opens : Opens plan kind k q w.state → Accepts side bits kind k
    opens y =
        record { runs = eq-eqb (running w.state q) 1 y.runs; may = y.may; unbarred = ap (λ x. bit x k) (side-bars plan q w.state kind g) ∙ y.unbarred; used = y.used; stood = y.stood }

    accepts : Accepts side bits kind k → Opens plan kind k q w.state
    accepts o =
        record {
          runs = eqb-true (running w.state q) 1 o.runs;
          may = o.may;
          unbarred = ap (λ x. bit x k) (sym (side-bars plan q w.state kind g)) ∙ o.unbarred;
          used = o.used;
          stood = o.stood;
        }

    -- whether the rule drops it
    abbrev drops-it : Bool
    drops-it = side.running && may_receive kind side.permissions && not (eqb (bit (bars_of side kind) k) 0)

    not-dropped : false ≡ drops-it → Bars plan kind k q w.state → ⊥
    not-dropped e b =
        false≢true (e ∙ both _ _ (both _ _ (eq-eqb (running w.state q) 1 b.runs) b.may)
        (ap not (ne_eqb (bit (bars_of side kind) k) 0 (λ z. b.barred (ap (λ x. bit x k) (sym (side-bars plan q w.state kind g)) ∙ z)))))

    is-dropped : true ≡ drops-it → Bars plan kind k q w.state
    is-dropped e =
        let f = sym e in
        let front = and_left (side.running && may_receive kind side.permissions) (not (eqb (bit (bars_of side kind) k) 0)) f in
        record {
          runs = eqb-true (running w.state q) 1 (and_left side.running (may_receive kind side.permissions) front);
          may = and_right side.running (may_receive kind side.permissions) front;
          barred = λ z. eqb-false (bit (bars_of side kind) k) 0 (not-true _ (and_right (side.running && may_receive kind side.permissions) _ f)) (ap (λ x. bit x k) (side-bars plan q w.state kind g) ∙ z);
        }

    refused : (Accepts side bits kind k → ⊥) → false ≡ drops-it → P (record { state = put (put w.state (counter_at (q / 8)) count) (register_at (q / 8)) bits; told = w.told })
    refused n d =
        unchanged
        (left (same (λ c j. Opens plan c j q w.state) (λ y. n (opens y))) (same (λ c j. Bars plan c j q w.state) (not-dropped d)) (omega arith))

    dropped : true ≡ drops-it → P (after plan q w (kept bits count (Dropped code)))
    unfolding acted
    dropped d = rw (put_word w.state (counter_at (q / 8)), put_word w.state (register_at (q / 8)), counts-as) (lost-case kind k g l e (is-dropped d))

    ruled-taken : P (after plan q w (ruled side bits count kind k code))
    unfolding acted
    ruled-taken =
        ruled-cases (λ r. is_dropped r.action ≡ drops-it → P (after plan q w r)) side bits count kind k code refused refused (λ n d. dropped d)
        (λ o d. by-role (router plan (q / 8)) (taken kind k g l e (accepts o)))
        (when-dropped side bits count kind k code)

  -- a Time-Code: the register is put back as it was
  time-taken : (v : ℕ) (new hands : Bool) → P (counts new hands v q w)
      → P (after plan q w (record { register = bits; counter = v; action = cond new (cond hands (Forwarded (Time v)) (Told (Time v))) (Named (Time v)) }))
  unfolding acted timed forwarded tells
  time-taken v new hands p = by_tests new hands (counter-only w.state (q / 8) v small) p
    where
      by_tests : (n h : Bool) → put (put w.state (counter_at (q / 8)) v) (register_at (q / 8)) bits ≡ put w.state (counter_at (q / 8)) v → P (counts n h v q w)
          → P (after plan q w (record { register = bits; counter = v; action = cond n (cond h (Forwarded (Time v)) (Told (Time v))) (Named (Time v)) }))
      by_tests false false same p = rw same p
      by_tests false true same p = rw same p
      by_tests true false same p = rw same p
      by_tests true true same p = rw same p

  reacts-taken : (code : Code) → Stands byte code → P (after plan q w (reacts_to side bits count code))
  unfolding reacts_to reaction_counted acted timed forwarded lost tells mark
  reacts-taken (Time v) (time h) = time-taken v (is_new v q w) (router plan (q / 8)) (counted v (omega arith) (omega arith))
  reacts-taken (Reserved top low) p = unchanged (left (λ kind k g l e o. reserved-apart kind k p g l e) (λ kind k g l e o. reserved-apart kind k p g l e) (above p))
    where
      above : Stands byte (Reserved top low) → 64 ≤ byte
      above (reserved (inl u) l e) = omega arith
      above (reserved (inr u) l e) = omega arith
  reacts-taken (Interrupt k) (interrupt l e) = ruled-taken 0 k (omega arith) (omega arith) (omega arith) (Interrupt k) refl (λ t. refl) refl (λ t. refl)
  reacts-taken (Acknowledge k) (acknowledge l e) = ruled-taken 1 k (omega arith) (omega arith) (omega arith) (Acknowledge k) refl (λ t. refl) refl (λ t. refl)

  pub arrives-any : P (arrives plan sent q w)
  unfolding arrives arrived reacts
  arrives-any = by-test (ltb byte nothing) refl
    where
      by-test : (t : Bool) → ltb byte nothing ≡ t → P (arrives plan sent q w)
      by-test false e =
          let b = ltb-false byte nothing e in rw e (left (λ kind k g l o. absurd (omega arith)) (λ kind k g l o. absurd (omega arith)) (omega arith))
      by-test true e = rw e (reacts-taken (reads byte) (stands byte))

-- ---- what a Time-Code leaves, and a code that is dropped

-- no word in front of the counters changes, and hosts are told of nothing but a Time-Code
pub record Beside (w v : World) : Type 0 where
  pub size : length v.state ≡ length w.state
  pub front : (i : ℕ) → i < ports_end → word v.state i ≡ word w.state i
  pub told : (v.told ≡ w.told) ⊎ ((d n : ℕ) × (v.told ≡ w.told ++ (told_word of_time d n ∷ [])))

pub beside_same : (w : World) → Beside w w
beside_same w = record { size = refl; front = λ i h. refl; told = inl refl }

-- what is so of both is so of the one in use
pub of_either : {A : Type 0} (P : A → Type 0) (b : Bool) {x y : A} → P x → P y → P (cond b x y)
of_either P true p q = p
of_either P false p q = q

counts-beside : (new hands : Bool) (v q : ℕ) (w : World) → q / 8 < 32 → Beside w (counts new hands v q w)
counts-beside new hands v q w small =
    let t = put w.state (counter_at (q / 8)) v in
    let put-left : (i : ℕ) → i < ports_end → word t i ≡ word w.state i = λ i h. word-other w.state (counter_at (q / 8)) v i (omega arith) in
    record {
      size = of_either (λ u. length u ≡ length w.state) (new && hands) (length-times v (q / 8) q t ∙ length-put w.state (counter_at (q / 8)) v) (length-put w.state (counter_at (q / 8)) v);
      front = λ i h. of_either (λ u. word u i ≡ word w.state i) (new && hands) (queue-times-left i (λ p l. omega arith) v (q / 8) q small t ∙ put-left i h) (put-left i h);
      told = of_either (λ u. (u ≡ w.told) ⊎ ((d n : ℕ) × (u ≡ w.told ++ (told_word of_time d n ∷ [])))) (new && not hands) (inr (q / 8, v, refl)) (inl refl);
    }

loses-beside : (kind q : ℕ) (w : World) → Beside w (loses kind q w)
loses-beside kind q w =
    record {
      size = length-put w.state (drops_at q kind) (one_more (drops w.state kind q));
      front = λ i h. word-other w.state (drops_at q kind) (one_more (drops w.state kind q)) i (omega arith);
      told = inl refl;
    }

-- what is barred is not taken in
pub bars-not-opens : {plan : Plan} {kind k q : ℕ} {s : State} → Bars plan kind k q s → Opens plan kind k q s → ⊥
bars-not-opens b o = b.barred o.unbarred

-- a code comes that the port is open to, and is taken in; or none comes, and nothing changes but what a Time-Code changes, or a code that is dropped
module _ (plan : Plan) (sent : List ℕ) (q : ℕ) (small : q / 8 < 32) (w : World) (P : World → Type 0)
    (left : ((kind k : ℕ) → kind < 2 → k < 32 → get_or sent (peer plan q) nothing ≡ byte_of kind k → Opens plan kind k q w.state → ⊥) → (v : World) → Beside w v → P v) where
  pub arrives-taken : ((kind k : ℕ) → kind < 2 → k < 32 → get_or sent (peer plan q) nothing ≡ byte_of kind k → Opens plan kind k q w.state
      → P (takes plan kind k q (router plan (q / 8)) w)) → P (arrives plan sent q w)
  arrives-taken =
      arrives-any plan sent q small w P (λ none no big. left none w (beside_same w))
      (λ kind k g l e b. left
      (λ c j f m o y.
      let a : c ≡ kind = omega arith in
      let i : j ≡ k = omega arith in
      bars-not-opens b (rw (a, i) at y)) (loses kind q w) (loses-beside kind q w))
      (λ v h e. left (λ kind k g l o. absurd (omega arith)) (counts (is_new v q w) (router plan (q / 8)) v q w) (counts-beside (is_new v q w) (router plan (q / 8)) v q w small))

-- nothing of these changes; or a router marks the code and queues it at its other ports; or a node marks it and tells its host
module _ (plan : Plan) (sent : List ℕ) (q : ℕ) (small : q / 8 < 32) (w : World) (P : World → Type 0) (left : (v : World) → Beside w v → P v)
    (queued : (kind k : ℕ) → kind < 2 → k < 32 → get_or sent (peer plan q) nothing ≡ byte_of kind k → P (takes plan kind k q true w))
    (told : (kind k : ℕ) → kind < 2 → k < 32 → get_or sent (peer plan q) nothing ≡ byte_of kind k → P (takes plan kind k q false w)) where
  pub arrives-cases : P (arrives plan sent q w)
  arrives-cases =
      arrives-taken plan sent q small w P (λ none. left)
      (λ kind k g l e o. elim (router plan (q / 8)) as (λ r. P (takes plan kind k q r w)) [ true ↦ queued kind k g l e | false ↦ told kind k g l e ])

-- ---- a round

-- a count stays within its bound, and does not fall
pub one-more-few : (count : ℕ) → count ≤ most_drops → one_more count ≤ most_drops
unfolding one_more
one-more-few count h =
    elim (dec_lt count most_drops) [ yes l ↦ rw (lt-ltb count most_drops l) (omega arith) | no n ↦ rw (le-ltb count most_drops (omega arith)) h ]

module _ (plan : Plan) (held : Held plan) where
  -- a port that bars anything is one that a router has
  bars-guard : {kind k q : ℕ} {s : State} → Bars plan kind k q s → q < 256 → kind < 2 → guards plan q ≡ true
  bars-guard {kind} {k} {q} b h l = by-test (guards plan q) refl
    where
      by-test : (t : Bool) → guards plan q ≡ t → guards plan q ≡ true
      by-test true e = e
      by-test false e = absurd (b.barred (rw (no-bars plan held q kind h l e) (of_either (λ v. bit v k ≡ 0) (router plan (q / 8)) (bit-zero k) (bit-zero k))))

  -- what a port bars is what stands in the plan, where for a node's port it is nothing
  pub bars-at : (q kind : ℕ) → q < 256 → kind < 2 → bars_at plan kind q ≡ bars plan kind q
  bars-at q kind h l = by-role (router plan (q / 8)) refl
    where
      node : (t : Bool) → (t && false && exists plan q) ≡ false
      node true = refl
      node false = refl

      by-role : (r : Bool) → router plan (q / 8) ≡ r → cond r (bars plan kind q) 0 ≡ bars plan kind q
      by-role true e = refl
      by-role false e = sym (no-bars plan held q kind h l (rw e (node (ltb (q / 8) (devices plan)))))

  pub arrives-sound : (sent : List ℕ) (q : ℕ) → q / 8 < devices plan → (w : World) → Sound plan w.state → Sound plan (arrives plan sent q w).state
  arrives-sound sent q h w x =
      let n = few plan held in
      arrives-any plan sent q (omega arith) w (λ v. Sound plan v.state) (λ none no big. x)
      (λ kind k g l e b. drops-step plan held x q kind (one_more (drops w.state kind q)) (omega arith) g (one-more-few (drops w.state kind q) (x.guard.counts q kind (omega arith) g)) (bars-guard b (omega arith) g))
      (λ v l e.
      let y = counter-step plan held x (q / 8) v h l in
      of_either (Sound plan) (is_new v q w && router plan (q / 8)) (queue-time-sound plan held v (q / 8) q l (omega arith) _ y) y)
      (λ kind k g l e o.
      let y = mark-step plan held x (q / 8) h kind k g l in
      of_either (Sound plan) (router plan (q / 8)) (queue-all-sound plan held kind k (q / 8) q g l h _ y) y)

  reached-sound : (sent : List ℕ) (w : World) → Sound plan w.state → Sound plan (reached plan sent w).state
  unfolding reached
  reached-sound sent w x = keeps (arrives plan sent) (λ v. Sound plan v.state) (8 * devices plan) (λ q v l y. arrives-sound sent q (omega arith) v y) w x

  -- all three steps
  pub round-sound : (s : State) → Sound plan s → Sound plan (round plan s).next
  unfolding round
  round-sound s x =
      reached-sound (sent_bytes plan s) (after_sending plan s)
      (posted-sound plan held s x (after_timers plan s).state (fallen-sound plan held (record { state = s; told = [] }) x))

  -- any number of them
  pub rounds-sound : (s : State) → Sound plan s → (n : ℕ) → Sound plan (rounds plan n s)
  rounds-sound s x n = keeps (λ i t. (round plan t).next) (Sound plan) n (λ i t b y. round-sound t y) s x

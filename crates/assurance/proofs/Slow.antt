-- The slowest that a code can be. At a node's port all identifiers wait, the last of them 31, and a Time-Code waits before each round: then 31 waits on
-- for 63 rounds, and nothing happens that concerns it.
use mathlib.Core.Path.{◌≡◌, refl, sym, ap, ◌∙◌}
use mathlib.Core.Bool.{Bool, true, false, false≢true}
use mathlib.Core.Logic.{◌≢◌}
use Prim.Native.Nat.{ℕ, zero, suc, ◌+◌, ◌-◌, ◌*◌, ◌/◌, ◌%◌, ◌≤◌, ◌<◌}
use native.Mathlib.Decide.{ℕ_discrete}
use native.Mathlib.Omega.{arith}
use Rattle.lists.specs.Loop.{up_to}
use Rattle.lists.proofs.Loops.{keeps}
use Rattle.bits.specs.Set.{bit}
use Rattle.bits.specs.First.{after, Finds}
use Rattle.std.specs.Prelude.{Option, Some, None}
use Rattle.bits.proofs.Sets.{bit-two}
use Rattle.plan.specs.Reading.{Held}
use Rattle.plan.specs.declared.Plan.{Plan}
use Rattle.state.specs.State.{State, ports_end, word, register_at, timer_at, port_at, register, timer, waiting, next_at, next, running_at, running, time_waits, lately}
use Rattle.state.specs.Network.{devices, router}
use Rattle.state.specs.Sound.{Sound}
use Rattle.state.specs.Mark.{mark}
use Rattle.state.proofs.Plans.{few}
use Rattle.state.proofs.Marks.{mark-other}
use Rattle.state.proofs.Waits.{queue-all-else}
use Rattle.calls.specs.Calls.{advanced}
use Rattle.calls.proofs.Called.{tick-sound, tick-left, tick-lately, tick-waits}
use Rattle.bench.specs.Round.{World, first_waits, time_goes, chosen, sent_bytes, arrives, reached, after_sending, round}
use Rattle.bench.proofs.Stepped.{not-nowhere, first-is, first-chosen, time-chosen, goes_first, goes-second}
use Rattle.bench.proofs.RoundSound.{taking, arrives-taken, arrives-sound, round-sound}
use Rattle.laws.proofs.Apart.{sends-chosen}
use Rattle.assurance.specs.Demand3.{SendsK}
use Rattle.assurance.specs.Ticking.{ticking}
use Rattle.assurance.proofs.Turns.{SameTurn, turn-same, turn-then}
use Rattle.assurance.proofs.Begun.{Begun}
use Rattle.assurance.proofs.Choices.{sends-small, sends-inside, sent-waits, waiting-of}
use Rattle.assurance.proofs.Posted.{posts-sound, posts-late, posts-early, posts-next, posts-timer, posts-marks, posts-waited, posts-wait-late, posts-wait-on}
use Rattle.assurance.proofs.Entering.{arrives-turns}
use Rattle.assurance.proofs.Flags.{round-runs}
use Rattle.assurance.proofs.Quiet.{unsent-aside}

-- what is found
place_of : Option ℕ → ℕ
place_of (Some k) = k
place_of None = 0

same_place : {j k : ℕ} → Some j ≡ Some k → j ≡ k
unfolding place_of
same_place e = ap place_of e

-- ---- what a round leaves at a node's port

module _ (plan : Plan) (held : Held plan) {s : State} (x : Sound plan s) (q : ℕ) (small : q < 256) where
  -- its turn is as sending left it
  round-turns : SameTurn (after_sending plan s).state (round plan s).next q
  unfolding round reached
  round-turns =
      let n = few plan held in
      (keeps (arrives plan (sent_bytes plan s)) (λ v. Sound plan v.state × SameTurn (after_sending plan s).state v.state q) (8 * devices plan)
      (λ j v b y. (
        arrives-sound plan held (sent_bytes plan s) j (omega arith) v y.0,
        turn-then y.1 (arrives-turns plan (sent_bytes plan s) j (omega arith) v y.0.size q small),
      ))
      (after_sending plan s) (posts-sound plan held x, turn-same _ q)).1

  -- and so is what waits there, since a node hands nothing on
  round-waits : router plan (q / 8) ≡ false → (kind : ℕ) → kind < 2 → waiting (round plan s).next kind q ≡ waiting (after_sending plan s).state kind q
  unfolding round reached
  round-waits node kind g =
      let n = few plan held in
      keeps (arrives plan (sent_bytes plan s)) (λ v. waiting v.state kind q ≡ waiting (after_sending plan s).state kind q) (8 * devices plan)
      (λ j v b y. arrives-left j v (omega arith) ∙ y) (after_sending plan s) refl
    where
      arrives-left : (j : ℕ) (v : World) → j / 8 < 32 → waiting (arrives plan (sent_bytes plan s) j v).state kind q ≡ waiting v.state kind q
      arrives-left j v h =
          arrives-taken plan (sent_bytes plan s) j h v (λ w. waiting w.state kind q ≡ waiting v.state kind q) (λ none w b. b.front (port_at q kind) (omega arith))
          (λ c k f l e o. by-role (router plan (j / 8)) refl c k f l)
        where
          marks : (c k : ℕ) → k < 32 → waiting (mark plan c (j / 8) k v.state) kind q ≡ waiting v.state kind q
          marks c k l = mark-other plan c (j / 8) k (port_at q kind) v.state (omega arith) (omega arith)

          by-role : (hands : Bool) → router plan (j / 8) ≡ hands → (c k : ℕ) → c < 2 → k < 32 → waiting (taking plan c k (j / 8) j hands v.state) kind q ≡ waiting v.state kind q
          by-role false r c k f l = marks c k l
          by-role true r c k f l =
              queue-all-else c k q f plan.core.permissions (j / 8) j (λ e. false≢true (sym node ∙ ap (router plan) e ∙ r)) kind (omega arith) _ ∙ marks c k l

-- ---- the slow port

module _ (plan : Plan) (held : Held plan) (kind : ℕ) (g : kind < 2) (d p : ℕ) (there : d < devices plan) (node : router plan d ≡ false) (small : p < 8) where
  abbrev q : ℕ
  q = 8 * d + p

  room : d < 32
  room = omega (arith, few plan held)

  -- after t rounds, from u on
  pub record Ready (u : State) (t : ℕ) (s : State) : Type 0 where
    pub sound : Sound plan s
    pub runs : running s q ≡ 1
    pub start : next s q ≡ t / 2
    pub late : lately s q ≡ t % 2
    pub waits : (j : ℕ) → t / 2 ≤ j → j < 32 → bit (waiting s kind q) j ≡ 1
    -- 31 waits nowhere else, its bits are as at first, and its timers run on
    pub alone : (c r : ℕ) → c < 2 → r < 256 → (c ≡ kind → r ≢ q) → bit (waiting s c r) 31 ≡ 0
    pub marks : (e : ℕ) → e < devices plan → bit (register s e) 31 ≡ bit (register u e) 31
    pub long : (e : ℕ) → e < devices plan → bit (register s e) 31 ≡ 1 → 65 ≤ t + timer s e 31

  -- and a Time-Code waits there
  pub record Slow (u : State) (t : ℕ) (s : State) : Type 0 where
    pub ready : Ready u t s
    pub time : 1 ≤ time_waits s q

  -- a tick leaves all that, and brings the Time-Code
  pub ticked-slow : {u s : State} {t : ℕ} → Ready u t s → Slow u t (advanced d s)
  ticked-slow {s = s} x =
      let n = few plan held in
      let small-q : q < 256 = omega (arith, room) in
      let left : (i : ℕ) → i < ports_end → word (advanced d s) i ≡ word s i = tick-left d room s in
      let marks : (e : ℕ) → e < devices plan → bit (register (advanced d s) e) 31 ≡ bit (register s e) 31 = λ e b. ap (λ v. bit v 31) (left (register_at e) (omega arith)) in
      record {
        ready = record {
          sound = tick-sound plan held s x.sound d there;
          runs = left (port_at q running_at) (omega arith) ∙ x.runs;
          start = left (port_at q next_at) (omega arith) ∙ x.start;
          late = tick-lately d room s x.sound.size q small-q ∙ x.late;
          waits = λ j b l. ap (λ v. bit v j) (left (port_at q kind) (omega arith)) ∙ x.waits j b l;
          alone = λ c r f b out. ap (λ v. bit v 31) (left (port_at r c) (omega arith)) ∙ x.alone c r f b out;
          marks = λ e b. marks e b ∙ x.marks e b;
          long = λ e b o. omega (arith, left (timer_at e 31) (omega arith), x.long e b (sym (marks e b) ∙ o));
        };
        time = omega (arith, tick-waits d p room small s x.sound.size x.runs);
      }

  -- where 31 has just begun at d, and no other port of d runs, it waits at that port alone
  pub alone-begun : {s u : State} → Begun plan kind 31 d s u → ((r : ℕ) → r / 8 ≡ d → r ≢ q → running s r ≡ 1 → ⊥)
      → (c r : ℕ) → c < 2 → r < 256 → (c ≡ kind → r ≢ q) → bit (waiting u c r) 31 ≡ 0
  alone-begun {u = u} b single c r f l out =
      elim (ℕ_discrete c kind) [
        | no ne ↦ let is : c ≡ 1 - kind = omega arith in rw is (b.other r l)
        | yes is ↦
            let two = bit-two (waiting u kind r) 31 in
            let none : bit (waiting u kind r) 31 ≡ 1 → ⊥ = λ o. let new = b.only r l o in single r new.here (out is) new.runs in
            rw is (omega arith)
      ]

  module _ {u s : State} {t : ℕ} (h : t < 63) (x : Slow u t s) where
    inside : q < 8 * devices plan
    inside = omega arith

    -- the first that waits there is t / 2
    first : first_waits s q ≡ Some (t / 2)
    unfolding Finds after
    first =
        sym (first-is s q (record {
          place = omega arith;
          member = omega (arith, waiting-of plan held (t / 2) (omega arith) s q inside kind g, x.ready.waits (t / 2) (omega arith) (omega arith), bit-two (waiting s (1 - kind) q) (t / 2));
          nearest = λ k l b. rw x.ready.start (omega arith);
        }))

    -- a Time-Code goes in every other round
    even : t % 2 ≡ 0 → time_goes s q ≡ true
    even e = goes_first s q x.time (x.ready.late ∙ e) first

    odd : t % 2 ≡ 1 → time_goes s q ≡ false
    odd e = goes-second s q (x.ready.late ∙ e) first

    -- so 31 is not sent
    unsent : (r : ℕ) → SendsK plan 31 s r → ⊥
    unsent r y =
        let i = sends-inside plan 31 y.0 s r (omega arith) y.1 y.2 in
        let w = sent-waits plan held 31 (omega arith) s r i y.0 y.1 y.2 in
        let c = sends-chosen (omega arith) plan held s r i y.0 y.1 y.2 in
        elim (ℕ_discrete r q) [
          | no ne ↦ omega (arith, x.ready.alone y.0 r y.1 (sends-small plan 31 y.0 s r (omega arith) y.1 y.2) (λ _. ne), w)
          | yes here ↦ not-here (rw here at c)
        ]
      where
        not-here : chosen s q ≡ Some 31 → ⊥
        not-here c =
            elim (ℕ_discrete (t % 2) 0) [
              | yes e ↦ not-nowhere (sym (time-chosen s q (even e)) ∙ c)
              | no ne ↦ omega (arith, same_place (sym first ∙ sym (first-chosen s q (odd (omega arith))) ∙ c))
            ]

    abbrev posts : State
    posts = (after_sending plan s).state

    abbrev after-round : State
    after-round = (round plan s).next

    -- what waits there goes on waiting, but for the identifier whose turn it is
    sets : (j : ℕ) → suc t / 2 ≤ j → j < 32 → bit (waiting posts kind q) j ≡ 1
    sets j b l =
        elim (ℕ_discrete (t % 2) 0) [
          | yes e ↦ posts-wait-late plan held x.ready.sound j l kind q g (omega (arith, room)) inside (even e) (x.ready.waits j (omega arith) l)
          | no ne ↦
              posts-wait-on plan held x.ready.sound j l kind q g (omega (arith, room)) (t / 2) inside (first-chosen s q (odd (omega arith)) ∙ first) (omega arith) (x.ready.waits j (omega arith) l)
        ]

    turned : (next posts q ≡ suc t / 2) × (lately posts q ≡ suc t % 2)
    turned =
        elim (ℕ_discrete (t % 2) 0) [
          | yes e ↦ let y = posts-late plan held x.ready.sound q inside (even e) in (omega (arith, y.0, x.ready.start), omega (arith, y.1))
          | no ne ↦
              let c = first-chosen s q (odd (omega arith)) ∙ first in
              (omega (arith, posts-next plan held x.ready.sound q (t / 2) inside c), omega (arith, posts-early plan held x.ready.sound q (t / 2) inside c))
        ]

    next-on : Ready u (suc t) after-round
    next-on =
        let n = few plan held in
        let small-q : q < 256 = omega (arith, room) in
        let y = x.ready.sound in
        let apart = (unsent-aside plan held 31 (omega arith) y unsent).like in
        let turn = round-turns plan held y q small-q in
        let node-waits = round-waits plan held y q small-q (let e : q / 8 ≡ d = omega arith in rw e node) kind g in
        let marked : (e : ℕ) → e < devices plan → bit (register after-round e) 31 ≡ bit (register s e) 31 =
        λ e b. apart.marks e (omega arith) ∙ posts-marks plan held y 31 (omega arith) e b (λ o. omega (arith, x.ready.long e b o)) in
        record {
          sound = round-sound plan held s y;
          runs = round-runs plan held q small-q s y ∙ x.ready.runs;
          start = turn.start ∙ turned.0;
          late = turn.late ∙ turned.1;
          waits = λ j b l. ap (λ v. bit v j) node-waits ∙ sets j b l;
          alone = λ c r f b out.
              let same = apart.waits c r f b in
              let none : bit (waiting posts c r) 31 ≡ 1 → ⊥ = λ o. omega (arith, posts-waited plan held y 31 (omega arith) c r f b o, x.ready.alone c r f b out) in
              omega (arith, same, bit-two (waiting posts c r) 31);
          marks = λ e b. marked e b ∙ x.ready.marks e b;
          long = λ e b o.
              let timed = apart.timers e (omega arith) ∙ posts-timer plan held y 31 (omega arith) e b in
              omega (arith, timed, x.ready.long e b (sym (marked e b) ∙ o));
        }

  -- all 63 rounds, with a tick before each, from a state in which nothing of that has begun
  pub slow : (u : State) → Ready u 0 u → (t : ℕ) → t ≤ 63 → Slow u t (ticking plan d u t)
  unfolding ticking up_to
  slow u first zero h = ticked-slow first
  slow u first (suc t) h = ticked-slow (next-on h (slow u first t (omega arith)))

-- Time is distributed, proved: what follows a tick that is taken is a run of the flood, with two rounds a crossing.
use mathlib.Core.Path.{◌≡◌, refl, sym, ap, subst, ◌∙◌}
use mathlib.Core.Bool.{Bool, true, false, false≢true}
use mathlib.Core.Logic.{◌⊎◌, inl, inr, ◌≢◌}
use Prim.Native.Nat.{ℕ, zero, suc, ◌+◌, ◌*◌, ◌/◌, ◌%◌, ◌≤◌, ◌<◌}
use native.Mathlib.Decide.{ℕ_discrete}
use native.Mathlib.Nat.{le_refl}
use native.Mathlib.Omega.{arith}
use borrow.Author.Tests.{eq-eqb, ne_eqb}
use Rattle.answers.proofs.Outcomes.{holds}
use Rattle.lists.proofs.Loops.{keeps as loops_keeps}
use Rattle.device.specs.Reaction.{next_time}
use Rattle.plan.specs.Reading.{Held}
use Rattle.plan.specs.declared.Plan.{Plan}
use Rattle.plan.proofs.BothWays.{held-master-node}
use Rattle.state.specs.State.{State, word, ports_end, port_at, running_at, running, counter_at, counter, time_at, time_waits, lately, drops_start}
use Rattle.state.specs.Network.{devices, role, router, peer}
use Rattle.state.specs.Sound.{Sound}
use Rattle.state.specs.Start.{started}
use Rattle.state.proofs.Plans.{few, far-end}
use Rattle.state.proofs.Started.{start-behind, started-sound}
use Rattle.calls.specs.Calls.{call_asks, tick_asks, advanced}
use Rattle.calls.proofs.Called.{call-sound, tick-sound, tick-left, tick-counts, tick-counts-else, tick-only, tick-waits}
use Rattle.bench.specs.Round.{of_time, time_goes, sent_bytes, arrives as round_arrives, reached, after_sending, round}
use Rattle.bench.proofs.Stepped.{goes-waits, goes-late}
use Rattle.bench.proofs.RoundSound.{arrives-any, arrives-sound, round-sound}
use Rattle.laws.specs.Telling.{told_in, told_by}
use Rattle.flood.specs.Flood.{Net, Sight, Relays, here, cross, Within, Start, Step, Flooded}
use Rattle.flood.proofs.Spreads.{flooded}
use Rattle.assurance.specs.Demand3.{Played}
use Rattle.assurance.specs.Distribution.{Others, none, then, tick, carrying, time_crossing, Crosses, SendsTime, InStep, Beat, Arrives, Beats, still, rest, beat, EachArrives, Distributes, DistributesAll}
use Rattle.assurance.proofs.Taking.{took, called-took}
use Rattle.assurance.proofs.Entering.{loses-unmoved}
use Rattle.assurance.proofs.Choices.{runs-there, runs-joined}
use Rattle.assurance.proofs.Posted.{posts-sound, posts-early, posts-time-on, posts-counter}
use Rattle.assurance.proofs.Flags.{round-runs}
use Rattle.assurance.proofs.Timely.{GoesAt, byte-goes, left-waiting, Gets, gets-device, Timely, has, Goes, goes-only, sent-value, came-leads, came-gets, Going, going-keeps, going-count, going, gets-in}

-- ---- what hosts do meanwhile leaves every word behind the ports

record Beside (plan : Plan) (s t : State) : Type 0 where
  sound : Sound plan t
  runs : (q : ℕ) → q < 256 → running t q ≡ running s q
  behind : (i : ℕ) → ports_end ≤ i → word t i ≡ word s i

others-beside : (plan : Plan) → Held plan → {s t : State} → Sound plan s → Others plan s t → Beside plan s t
others-beside plan held x none = record { sound = x; runs = λ q h. refl; behind = λ i h. refl }
others-beside plan held {s} x (tick d number before call refused) =
    subst (Beside plan s) (sym (call.kept refused)) (others-beside plan held x before)
others-beside plan held {s} x (then {t = t} kind d k number before g call) =
    let b = others-beside plan held x before in
    elim (ℕ_discrete number 0) [
      | no n ↦ subst (Beside plan s) (sym (call.kept n)) b
      | yes z ↦
          let asked = holds (call_asks plan kind d k t) refl call.answers z in
          let h = asked.1.1.0 in
          let l = asked.1.1.1.0 in
          let room : d < 32 = omega (arith, h, few plan held) in
          let took = called-took plan kind k g l d room t b.sound.size in
          subst (Beside plan s) (sym (call.made z)) (record {
            sound = call-sound plan held t b.sound kind d k g h l;
            runs = λ q m. took.runs q ∙ b.runs q m;
            behind = λ i m. took.behind i m ∙ b.behind i m;
          })
    ]

-- ---- at the start all are in step

pub start-in-step : (plan : Plan) → Held plan → (master D : ℕ) → Within (carrying plan (started plan) master) D → InStep plan master D (started plan)
start-in-step plan held master D within =
    record {
      sound = started-sound plan held;
      idle = λ q h. ap (λ n. n % 128) (start-behind plan (time_at q) (omega arith));
      equal = λ n e w. start-behind plan (counter_at e) (omega arith) ∙ sym (start-behind plan (counter_at master) (omega arith));
      within = within;
    }

-- ---- in step all stay, while nobody ticks

-- where links run as they did the same devices are as far away
crosses-on : (plan : Plan) (master : ℕ) (a b : State) → ((q : ℕ) → q < 256 → running b q ≡ running a q) → (n e : ℕ) → Crosses plan master a n e → Crosses plan master b n e
crosses-on plan master a b on zero e here = here
crosses-on plan master a b on (suc n) e (cross q way relays leads) =
    cross q (crosses-on plan master a b on n (q / 8) way) relays (leads.0, on q leads.0 ∙ leads.1, leads.2)

within_on : (plan : Plan) (master D : ℕ) (a b : State) → ((q : ℕ) → q < 256 → running b q ≡ running a q) → Within (carrying plan a master) D → Within (carrying plan b master) D
within_on plan master D a b on w =
    record {
      shorter = λ {n} {d = e} way.
          let near = w.shorter (crosses-on plan master b a (λ q h. sym (on q h)) n e way) in
          (near.0, near.1, crosses-on plan master a b on near.0 e near.2);
    }

module _ (plan : Plan) (held : Held plan) (master D : ℕ) where
  -- the master is one of 32, where a way leads to such a device
  from-master : (s : State) (n e : ℕ) → Crosses plan master s n e → e < 32 → master < 32
  from-master s zero e here h = h
  from-master s (suc n) e (cross q way relays leads) h = from-master s n (q / 8) way (omega (arith, leads.0))

  crosses-small : (s : State) → Sound plan s → (n e : ℕ) → Crosses plan master s n e → (e ≡ master) ⊎ (e < 32)
  crosses-small s x zero e here = inl refl
  crosses-small s x (suc n) e (cross q way relays leads) = inr (omega (arith, leads.2, runs-joined plan held x q leads.0 leads.1))

  -- links, counters and what waits of Time-Codes are as they were
  in-step-on : (a b : State) → InStep plan master D a → Sound plan b → ((q : ℕ) → q < 256 → running b q ≡ running a q)
      → ((e : ℕ) → e < 32 → counter b e ≡ counter a e) → ((q : ℕ) → q < 256 → time_waits b q ≡ 0) → InStep plan master D b
  in-step-on a b g sound runs count idle =
      record {
        sound = sound;
        idle = idle;
        equal = λ n e way.
            let before = crosses-on plan master b a (λ q h. sym (runs q h)) n e way in
            elim (crosses-small a g.sound n e before) [
              | inl o ↦ ap (counter b) o
              | inr h ↦ count e h ∙ g.equal n e before ∙ sym (count master (from-master a n e before h))
            ];
        within = within_on plan master D a b runs g.within;
      }

  beside-in-step : {a b : State} → InStep plan master D a → Beside plan a b → InStep plan master D b
  beside-in-step g y =
      in-step-on _ _ g y.sound y.runs (λ e h. y.behind (counter_at e) (omega arith))
      (λ q h. ap (λ n. n % 128) (y.behind (time_at q) (omega arith)) ∙ g.idle q h)

  module _ {a : State} (g : InStep plan master D a) where
    none-goes : (q : ℕ) → GoesAt plan a q → ⊥
    none-goes q goes = omega (arith, goes-waits a q goes.1, g.idle q (omega (arith, goes.0, few plan held)))

    -- so that what arrives changes no word between the ports and the drops
    round-behind : (i : ℕ) → ports_end ≤ i → i < drops_start → word (round plan a).next i ≡ word (after_sending plan a).state i
    unfolding round reached
    round-behind i h front =
        let n = few plan held in
        (loops_keeps (round_arrives plan (sent_bytes plan a)) (λ w. Sound plan w.state × (word w.state i ≡ word (after_sending plan a).state i)) (8 * devices plan)
        (λ j w b y. (
          arrives-sound plan held (sent_bytes plan a) j (omega arith) w y.0,
          arrives-any plan (sent_bytes plan a) j (omega arith) w (λ u. word u.state i ≡ word (after_sending plan a).state i) (λ none no big. y.1)
              (λ kind k f l e b. (loses-unmoved kind j w).front i front ∙ y.1)
              (λ value l e. absurd (none-goes (peer plan j) (byte-goes plan held a (peer plan j) (omega arith))))
              (λ kind k f l e o. (took plan kind k f l (j / 8) j (omega arith) w.state y.0.size (router plan (j / 8))).behind i h ∙ y.1),
        ))
        (after_sending plan a) (posts-sound plan held g.sound, refl)).1

    round-in-step : InStep plan master D (round plan a).next
    round-in-step =
        in-step-on a _ g (round-sound plan held a g.sound) (λ q h. round-runs plan held q h a g.sound)
        (λ e h. round-behind (counter_at e) (omega arith) (omega arith) ∙ posts-counter plan held g.sound e h)
        (λ q h. ap (λ n. n % 128) (round-behind (time_at q) (omega arith) (omega arith)) ∙ elim (left-waiting plan held a g.sound q h) [ inl z ↦ z | inr o ↦ o.0 ∙ g.idle q h ])

  -- after any number of rounds, with what hosts do between them
  rests : {s : State} (last : ℕ) (at : ℕ → State) → InStep plan master D s → Played plan (Others plan) last s at → (t : ℕ) → t ≤ last → InStep plan master D (at t)
  rests last at g played zero h = beside-in-step g (others-beside plan held g.sound played.begins)
  rests last at g played (suc t) h =
      let y = round-in-step (rests last at g played t (omega arith)) in
      beside-in-step y (others-beside plan held y.sound (played.goes_on t h))

-- ---- from the tick on

module _ (plan : Plan) (held : Held plan) (master D : ℕ) (s : State) (last : ℕ) (at : ℕ → State) (given : InStep plan master D s) (beaten : Beat plan master D s last at) where
  abbrev x : Sound plan s
  x = given.sound

  there : master < devices plan
  there = (holds (tick_asks plan master s) refl beaten.taken refl).1.1.0

  room : master < 32
  room = omega (arith, there, few plan held)

  is-node : router plan master ≡ false
  is-node = ne_eqb (role plan master) 1 (omega (arith, (held-master-node plan held master (holds (tick_asks plan master s) refl beaten.taken refl).1.1.1.0).1))

  abbrev c : ℕ
  c = counter s master

  c-small : c < 64
  c-small = x.clock.counters master room

  abbrev v : ℕ
  v = next_time c

  abbrev N : Net
  N = carrying plan s master

  abbrev Fine : State → Type 0
  Fine = Timely plan held master there s x c c-small

  abbrev Reached : ℕ → Type 0
  Reached = Gets plan held master there s x c c-small

  device : {e : ℕ} → Reached e → e < devices plan
  device get = gets-device plan held master there s x c c-small get.1

  small : {e : ℕ} → Reached e → e < 32
  small get = omega (arith, device get, few plan held)

  fine-beside : {a b : State} → Fine a → Beside plan a b → Fine b
  fine-beside f y =
      record {
        sound = y.sound;
        runs = λ q h. y.runs q h ∙ f.runs q h;
        count = λ e get. elim (f.count e get) [ inl o ↦ inl (y.behind (counter_at e) (omega arith) ∙ o) | inr o ↦ inr (y.behind (counter_at e) (omega arith) ∙ o) ];
        only = λ q h. elim (f.only q h) [
          | inl o ↦ inl (ap (λ n. n % 128) (y.behind (time_at q) (omega arith)) ∙ o)
          | inr o ↦ inr (ap (λ n. n % 128) (y.behind (time_at q) (omega arith)) ∙ o.0, o.1)
        ];
      }

  -- ---- the state right after the tick

  abbrev first : State
  first = advanced master s

  first-sound : Sound plan first
  first-sound = tick-sound plan held s x master there

  first-here : counter first master ≡ v
  first-here = tick-counts master room s x.size

  first_else : (e : ℕ) → e < 32 → e ≢ master → counter first e ≡ counter s e
  first_else e h ne = tick-counts-else master e room h ne s

  -- it waits at ports of the master, and nowhere else
  first-waits : (q : ℕ) → q < 256 → (time_waits first q ≡ 0) ⊎ ((time_waits first q ≡ v + 1) × (q / 8 ≡ master))
  first-waits q h = elim (tick-only master room s x.size q h) [ inl o ↦ inl (o ∙ given.idle q h) | inr o ↦ inr o ]

  reaches-itself : Reached master
  reaches-itself = (0, here)

  fine-first : Fine first
  fine-first =
      record {
        sound = first-sound;
        runs = λ q h. tick-left master room s (port_at q running_at) (omega arith);
        count = λ e get. elim (ℕ_discrete e master) [
          | yes o ↦ inr (rw o (first-here))
          | no ne ↦ inl (first_else e (small get) ne ∙ given.equal get.0 e get.1)
        ];
        only = λ q h. elim (first-waits q h) [ inl z ↦ inl z | inr o ↦ inr (o.0, (rw o.1 reaches-itself, inl o.1)) ];
      }

  -- ---- each round

  module _ {a : State} (f : Fine a) where
    abbrev gone-on : Going plan held master there s x c c-small a f (reached plan (sent_bytes plan a) (after_sending plan a))
    gone-on = going plan held master there s x c c-small a f

    fine-round : Fine (round plan a).next
    unfolding round
    fine-round =
        record {
          sound = round-sound plan held a f.sound;
          runs = gone-on.runs;
          count = going-count plan held master there s x c c-small a f gone-on;
          only = λ q h. elim (gone-on.fresh q h) [
            | inr o ↦ inr (o.0, (o.3, inr o.4))
            | inl same ↦ elim (left-waiting plan held a f.sound q h) [
              | inl z ↦ inl (same ∙ z)
              | inr o ↦ elim (f.only q h) [ inl z ↦ inl (same ∙ o.0 ∙ z) | inr w ↦ inr (same ∙ o.0 ∙ w.0, w.1) ]
            ]
          ];
        }

  begins : Beside plan first (at 0)
  begins = others-beside plan held first-sound beaten.passing.begins

  fine : (t : ℕ) → t ≤ last → Fine (at t)
  fine zero h = fine-beside fine-first begins
  fine (suc t) h =
      let f = fine t (omega arith) in
      fine-beside (fine-round f) (others-beside plan held (round-sound plan held (at t) f.sound) (beaten.passing.goes_on t h))

  -- ---- as the flood sees it

  sight : State → Sight N
  sight a =
      record {
        holds = λ e. Reached e × (counter a e ≡ v);
        waits = λ q. (q < 256) × (time_waits a q ≡ v + 1);
        rank = λ q. lately a q;
      }

  start : Start N (sight (at 0))
  unfolding sight
  start =
      let time : (q : ℕ) → time_waits (at 0) q ≡ time_waits first q = λ q. ap (λ n. n % 128) (begins.behind (time_at q) (omega arith)) in
      let count : (e : ℕ) → counter (at 0) e ≡ counter first e = λ e. begins.behind (counter_at e) (omega arith) in
      record {
        source-holds = (reaches-itself, count master ∙ first-here);
        alone = λ {d} y. elim (ℕ_discrete d master) [
          | yes o ↦ o
          | no ne ↦ absurd (omega (arith, y.1, count d, first_else d (small y.0) ne, given.equal y.0.0 d y.0.1))
        ];
        waits_there = λ {q} y. elim (first-waits q y.0) [ inl z ↦ absurd (omega (arith, y.1, time q, z)) | inr o ↦ o.1 ];
        waits-all = λ {q} {e} own leads.
            let is : 8 * master + q % 8 ≡ q = omega arith in
            inl (leads.0, time q ∙ rw is at (tick-waits master (q % 8) room (omega arith) s x.size (rw is leads.1)));
      }

  module _ (t : ℕ) (h : t < last) where
    abbrev a : State
    a = at t

    abbrev b : State
    b = at (suc t)

    f : Fine a
    f = fine t (omega arith)

    y : Going plan held master there s x c c-small a f (reached plan (sent_bytes plan a) (after_sending plan a))
    y = gone-on f

    abbrev GoesOut : ℕ → Type 0
    GoesOut = Goes plan held master there s x c c-small a f

    after : Beside plan (round plan a).next b
    after = others-beside plan held (round-sound plan held a f.sound) (beaten.passing.goes_on t h)

    counted : (e : ℕ) → counter b e ≡ counter (round plan a).next e
    counted e = after.behind (counter_at e) (omega arith)

    timed : (q : ℕ) → time_waits b q ≡ time_waits (round plan a).next q
    timed q = ap (λ n. n % 128) (after.behind (time_at q) (omega arith))

    kept : (e : ℕ) → e < 32 → counter a e ≡ v → counter (round plan a).next e ≡ v
    unfolding round
    kept e l is = going-keeps plan held master there s x c c-small a f y e l (posts-counter plan held f.sound e l ∙ is)

    -- a waiting Time-Code is sent, or another code is, and then it is next
    served : (q : ℕ) → q < 256 → time_waits a q ≡ v + 1 → GoesOut q ⊎ ((time_waits b q ≡ v + 1) × (lately b q < lately a q))
    unfolding round
    served q l w = by-test (time_goes a q) refl
      where
        inside : q < 8 * devices plan
        inside = elim (f.only q l) [ inl z ↦ absurd (omega arith) | inr o ↦ let there = device o.1.0 in omega arith ]

        by-test : (g : Bool) → time_goes a q ≡ g → GoesOut q ⊎ ((time_waits b q ≡ v + 1) × (lately b q < lately a q))
        by-test true g = inl (inside, g)
        by-test false g =
            let o = goes-late a q (omega arith) g in
            let early = posts-early plan held f.sound q o.0 inside o.1 in
            let late : lately b q ≡ 0 = ap (λ n. n / 128 % 2) (after.behind (time_at q) (omega arith)) ∙ y.late q l ∙ early in
            let still = posts-time-on plan held f.sound q inside g ∙ w in
            let some = o.2 in
            inr (
              timed q ∙ elim (y.fresh q l) [ inl same ↦ same ∙ still | inr new ↦ new.0 ],
              omega arith,
            )

    step : Step N time_crossing (sight a) GoesOut (sight b)
    unfolding sight round
    step =
        record {
          keeps = λ {d} z. (z.0, counted d ∙ kept d (small z.0) z.1);
          waited = λ {q} g.
              (omega (arith, g.0, few plan held), (goes-only plan held master there s x c c-small a f q g).0);
          bounded = λ {q} z. omega arith;
          served = λ {q} z. elim (served q z.0 z.1) [ inl g ↦ inl g | inr o ↦ inr ((z.0, o.0), o.1) ];
          arrives = λ {q} {e} g leads.
              let only = (goes-only plan held master there s x c c-small a f q g).1 in
              let joined = runs-joined plan held x q leads.0 leads.1 in
              let end = far-end plan held q leads.0 (runs-there plan held x q leads.0 leads.1) joined in
              let get : Reached e = (suc only.0.0, cross q only.0.1 only.1 leads) in
              let near = device get in
              (get, counted e ∙ rw (← leads.2) at (gets-in plan held master there s x c c-small a f (peer plan q) (omega (arith, leads.2)) (rw end.back g)));
          begins = λ {e} z. elim (y.counted e (small z.0)) [
            | inl same ↦ inl (z.0, sym (posts-counter plan held f.sound e (small z.0)) ∙ sym same ∙ sym (counted e) ∙ z.1)
            | inr o ↦ inr (peer plan o.1.0, o.1.1.sender, came-leads plan held master there s x c c-small a f o.1.1)
          ];
          waiting = λ {q} z. elim (y.fresh q z.0) [
            | inl same ↦ elim (left-waiting plan held a f.sound q z.0) [
              | inl empty ↦ absurd (omega (arith, timed q, same, empty, z.1))
              | inr o ↦ inl ((z.0, sym o.0 ∙ sym same ∙ sym (timed q) ∙ z.1), λ g. false≢true (sym o.1 ∙ g.1))
            ]
            | inr o ↦ inr (
              λ was. omega (arith, was.1, o.1, posts-counter plan held f.sound (q / 8) (small o.3)),
              (o.3, counted (q / 8) ∙ o.2),
              o.4,
            )
          ];
          relayed = λ {q} {e} z r leads. elim (y.relays q leads.0 r leads.1 (sym (counted (q / 8)) ∙ z.1)) [
            | inl old ↦ inl (z.0, sym (posts-counter plan held f.sound (q / 8) (small z.0)) ∙ old)
            | inr o ↦ inr (elim o [ inl w ↦ inl (leads.0, timed q ∙ w) | inr g ↦ inr (peer plan q, g, sym leads.2) ])
          ];
        }

    -- what a node's host is told of it in the round
    told_in_lem : (e : ℕ) → Reached e → router plan e ≡ false → told_in plan of_time e v a + has plan held master there s x c c-small (counter a e) ≡ has plan held master there s x c c-small (counter b e)
    unfolding round told_in
    told_in_lem e get node = rw (counted e, ← posts-counter plan held f.sound e (small get)) (y.told e get node)

    untold-in : (e n : ℕ) → e < 32 → n < 64 → (n ≡ v → Reached e → router plan e ≡ false → ⊥) → told_in plan of_time e n a ≡ 0
    unfolding round told_in
    untold-in e n l m not = y.untold e n l m not

  spread : Flooded N time_crossing last D (λ t. sight (at t)) (λ t q. GoesAt plan (at t) q)
  spread =
      flooded N time_crossing last (omega arith) (λ t. sight (at t)) (λ t q. GoesAt plan (at t) q) (record { start = start; step = step }) D
      given.within

  -- ---- what hosts are told of it, in the first t rounds

  told-by : (e : ℕ) → Reached e → router plan e ≡ false → (t : ℕ) → t ≤ last → told_by plan of_time e v at t + has plan held master there s x c c-small (counter (at 0) e)
      ≡ has plan held master there s x c c-small (counter (at t) e)
  unfolding told_by
  told-by e get node zero h = omega arith
  told-by e get node (suc t) h = omega (arith, told-by e get node t (omega arith), told_in_lem t h e get node)

  untold-by : (e n : ℕ) → e < 32 → n < 64 → (n ≡ v → Reached e → router plan e ≡ false → ⊥) → (t : ℕ) → t ≤ last → told_by plan of_time e n at t ≡ 0
  unfolding told_by
  untold-by e n l m not zero h = refl
  untold-by e n l m not (suc t) h = omega (arith, untold-by e n l m not t (omega arith), untold-in t h e n l m not)

  comes : (n e t : ℕ) → Crosses plan master s n e → time_crossing * n ≤ t → t ≤ last → counter (at t) e ≡ v
  unfolding sight
  comes n e t w from to = (spread.reached w t from to).1

  at_last : (n e : ℕ) → Crosses plan master s n e → counter (at last) e ≡ v
  at_last n e w = let near = given.within.shorter w in comes near.0 e last near.2 (omega (arith, near.1, beaten.enough)) (le_refl _)

  first-value : counter (at 0) master ≡ v
  first-value = begins.behind (counter_at master) (omega arith) ∙ first-here

  first-other : (n e : ℕ) → Crosses plan master s n e → e ≢ master → counter (at 0) e ≡ c
  first-other n e w ne = begins.behind (counter_at e) (omega arith) ∙ first_else e (small (n, w)) ne ∙ given.equal n e w

  -- ---- over which links it goes

  -- in one of the first t rounds the link at port q carried it
  Carried : ℕ → ℕ → Type 0
  Carried q t = (u : ℕ) × (u < t) × (GoesAt plan (at u) q ⊎ GoesAt plan (at u) (peer plan q))

  module _ (q : ℕ) (l : q < 256) (get : Reached (q / 8)) (on : Relays N (q / 8)) (runs : running s q ≡ 1) where
    is-router : (t : ℕ) → t ≤ last → counter (at t) (q / 8) ≡ c → router plan (q / 8) ≡ true
    is-router t h old = elim on [ inr r ↦ r | inl own ↦ absurd (omega (arith, old, ap (counter (at t)) own, comes 0 master t here (omega arith) h, c-small)) ]

    -- its device does not have the value yet, or the Time-Code waits there, or it went
    on-its-way : (t : ℕ) → t ≤ last → (counter (at t) (q / 8) ≡ c) ⊎ ((time_waits (at t) q ≡ v + 1) ⊎ Carried q t)
    unfolding round Carried
    on-its-way zero h =
        elim (ℕ_discrete (q / 8) master) [
          | no ne ↦ inl (first-other get.0 (q / 8) get.1 ne)
          | yes own ↦
              let is : 8 * master + q % 8 ≡ q = omega arith in
              inr (inl (ap (λ n. n % 128) (begins.behind (time_at q) (omega arith)) ∙ rw is at (tick-waits master (q % 8) room (omega arith) s x.size (rw is runs))))
        ]
    on-its-way (suc t) h =
        elim (on-its-way t (omega arith)) [
          | inr o ↦ elim o [
            | inr z ↦ inr (inr (z.0, omega (arith, z.1), z.2))
            | inl w ↦ elim (served t h q l w) [ inl g ↦ inr (inr (t, le_refl _, inl g)) | inr a ↦ inr (inl a.0) ]
          ]
          | inl old ↦ elim ((fine (suc t) h).count (q / 8) get) [
            | inl yet ↦ inl yet
            | inr now ↦ elim ((y t h).relays q l (is-router t (omega arith) old) runs (sym (counted t h (q / 8)) ∙ now)) [
              | inl had ↦ absurd (omega (arith, old, had, posts-counter plan held (f t h).sound (q / 8) (small get)))
              | inr o ↦ elim o [ inl w ↦ inr (inl (timed t h q ∙ w)) | inr g ↦ inr (inr (t, le_refl _, inr g)) ]
            ]
          ]
        ]

    carried : Carried q last
    unfolding sight
    carried =
        elim (on-its-way last (le_refl _)) [
          | inl old ↦ absurd (omega (arith, old, at_last get.0 (q / 8) get.1, c-small))
          | inr o ↦ elim o [ inl w ↦ absurd (spread.done last beaten.enough (le_refl _) (l, w)) | inr z ↦ z ]
        ]

  -- links run as they did, so that the same devices are as far away
  same : (q : ℕ) → q < 256 → running (at last) q ≡ running s q
  same = (fine last (le_refl _)).runs

  in_step : InStep plan master D (at last)
  unfolding sight
  in_step =
      record {
        sound = (fine last (le_refl _)).sound;
        idle = λ q h. elim ((fine last (le_refl _)).only q h) [ inl z ↦ z | inr o ↦ absurd (spread.done last beaten.enough (le_refl _) (h, o.0)) ];
        equal = λ n e w. at_last n e (crosses-on plan master (at last) s (λ q h. sym (same q h)) n e w) ∙ sym (at_last 0 master here);
        within = within_on plan master D s (at last) same given.within;
      }

  -- a counter that moved is that of a device that Time-Codes get to
  moved : (e t : ℕ) → e < 32 → t ≤ last → (counter (at t) e ≡ counter s e) ⊎ Reached e
  unfolding round
  moved e zero h to =
      elim (ℕ_discrete e master) [
        | yes o ↦ inr (rw o reaches-itself)
        | no ne ↦ inl (begins.behind (counter_at e) (omega arith) ∙ first_else e h ne)
      ]
  moved e (suc t) h to =
      elim (moved e t h (omega arith)) [
        | inr get ↦ inr get
        | inl same ↦ elim ((y t to).counted e h) [
          | inl left ↦ inl (counted t to e ∙ left ∙ posts-counter plan held (f t to).sound e h ∙ same)
          | inr o ↦ inr (came-gets plan held master there s x c c-small (at t) (f t to) o.1.1)
        ]
      ]

  only : (e t : ℕ) → e < 32 → t ≤ last
      → (counter (at t) e ≡ counter s e) ⊎ ((counter (at t) e ≡ v) × ((n : ℕ) × (n ≤ t) × Crosses plan master s n e))
  unfolding sight
  only e t h to =
      elim (moved e t h to) [
        | inl same ↦ inl same
        | inr get ↦ elim ((fine t to).count e get) [
          | inl old ↦ inl (old ∙ sym (given.equal get.0 e get.1))
          | inr new ↦ inr (new, spread.only t to (get, new))
        ]
      ]

  master-untold : told_by plan of_time master v at last ≡ 0
  master-untold =
      let sum = told-by master reaches-itself is-node last (le_refl _) in
      let end : has plan held master there s x c c-small (counter (at last) master) ≡ 1 = rw (at_last 0 master here, eq-eqb v v refl) in
      let one : has plan held master there s x c c-small (counter (at 0) master) ≡ 1 = rw (first-value, eq-eqb v v refl) in
      omega arith

  sends-time : (t : ℕ) → t < last → (q : ℕ) → GoesAt plan (at t) q → SendsTime plan (at t) q
  sends-time t h q g = omega (arith, sent-value plan held master there s x c c-small (at t) (f t h) q g)

  arrives : Arrives plan master D s last at
  unfolding sight Carried
  arrives =
      record {
        comes = comes;
        only = only;
        keeps = λ e t h to is. counted t to e ∙ kept t to e h is;
        carries = λ n q w on l runs.
            let z = carried q l (n, w) on runs in
            (z.0, z.1, elim z.2 [ inl g ↦ inl (sends-time z.0 z.1 q g) | inr g ↦ inr (sends-time z.0 z.1 (peer plan q) g) ]);
        once = λ q t u lt to g k. spread.once t u lt to (byte-goes plan held (at t) q g) (byte-goes plan held (at u) q k);
        told = λ e hears.
            let get = hears.0 in
            let sum = told-by e get hears.1 last (le_refl _) in
            let end : has plan held master there s x c c-small (counter (at last) e) ≡ 1 = rw (at_last get.0 e get.1, eq-eqb v v refl) in
            let none : has plan held master there s x c c-small (counter (at 0) e) ≡ 0 = rw (first-other get.0 e get.1 hears.2, ne_eqb c v (omega arith)) in
            omega arith;
        untold = λ e n h l not. elim (ℕ_discrete e master) [
          | no ne ↦ untold-by e n h l (λ is get node. not is (get, node, ne)) last (le_refl _)
          | yes o ↦ elim (ℕ_discrete n v) [
            | no ne ↦ untold-by e n h l (λ is get node. ne is) last (le_refl _)
            | yes is ↦ rw (o, is) master-untold
          ]
        ];
        again = in_step;
      }

pub distributes : Distributes
unfolding Distributes
distributes plan held master D s rounds at = arrives plan held master D s rounds at

-- each tick finds all in step, as the one before it left them
pub distributes-all : DistributesAll
unfolding DistributesAll EachArrives
distributes-all plan held master D s u given beats = (each u beats).0
  where
    each : (u : State) (beats : Beats plan master D s u) → EachArrives plan master D s u beats × InStep plan master D u
    each u still = (tt, given)
    each u (rest {t} rounds at before resting) =
        let past = each t before in
        (past.0, rests plan held master D rounds at past.1 resting rounds (le_refl _))
    each u (beat {t} rounds at before last) =
        let past = each t before in
        let now = arrives plan held master D t rounds at past.1 last in
        ((past.0, now), now.again)

-- What takes the place of the return trip for an event, proved: demand 3's window brings it everywhere; behind it nothing of it is under way, and
-- each timer runs down.
use mathlib.Core.Path.{◌≡◌, refl, sym, ap, ◌∙◌}
use mathlib.Core.Bool.{false, ◌&&◌}
use mathlib.Core.List.{[]}
use mathlib.Core.Logic.{◌⊎◌, inl, inr, ◌≢◌, dite}
use Prim.Native.Nat.{ℕ, suc, ◌+◌, ◌-◌, ◌*◌, ◌≤◌, ◌<◌}
use native.Mathlib.Decide.{ℕ_discrete, dec_lt, le_ind}
use native.Mathlib.Nat.{le_refl}
use native.Mathlib.Omega.{arith}
use lib.Dec.{eqb}
use borrow.Author.Tests.{eqb-false}
use Rattle.answers.specs.Ordered.{Ordered}
use Rattle.answers.proofs.Outcomes.{Holds, holds, passed}
use Rattle.bits.specs.Set.{bit}
use Rattle.bits.proofs.Sets.{bit-two}
use Rattle.device.specs.Permissions.{may_send}
use Rattle.plan.specs.Reading.{Held}
use Rattle.plan.specs.declared.Plan.{Plan}
use Rattle.plan.proofs.BothWays.{held-few}
use Rattle.state.specs.State.{State, register, timer, running}
use Rattle.state.specs.Network.{devices, role, router, permissions, load_of}
use Rattle.state.specs.Sound.{Sound}
use Rattle.state.proofs.Plans.{few, masked, load-most}
use Rattle.calls.specs.Calls.{call_asks, called}
use Rattle.bench.specs.Round.{of_interrupt, of_timeout, round}
use Rattle.laws.specs.Alike.{SendsIt}
use Rattle.laws.specs.Telling.{told_by}
use Rattle.laws.specs.Timing.{Unaccepted}
use Rattle.laws.proofs.Timers.{timed-bit, unsent, runs_on, round-lowers, round-stands, timeout-told}
use Rattle.laws.proofs.Telling.{none_told, told-some, no-timeout}
use Rattle.laws.proofs.Events.{none-accepted}
use Rattle.reach.specs.Walk.{Any, Walk, stay}
use Rattle.reach.specs.Away.{Away}
use Rattle.reach.proofs.Distances.{any?, walk-device, nearest}
use Rattle.reach.proofs.Found.{none-away}
use Rattle.assurance.specs.Demand3.{crossing, window, SendsK}
use Rattle.assurance.specs.Return.{Gets}
use Rattle.assurance.specs.Cycle.{AtRest}
use Rattle.assurance.specs.Clock.{HearsIn}
use Rattle.assurance.specs.Event.{lasting, Event, Hears, Fades, OneEvent, Events, none, rest, event, AllFade, AnyEvents}
use Rattle.assurance.proofs.Sights.{takers_of}
use Rattle.assurance.proofs.Arrivals.{of-kind}
use Rattle.assurance.proofs.Begun.{Begun, begun}
use Rattle.assurance.proofs.Meanwhile.{Beside, course-begins}
use Rattle.assurance.proofs.Trips.{Trip}
use Rattle.assurance.proofs.Demand.{Asked, asked, there, place, requests, first, later, out}
use Rattle.assurance.proofs.Hearing.{at_first, told-out, adds-up, none-sent}
use Rattle.assurance.proofs.Quiet.{Idle, none-sends, unset-on, links-on, rests, rests-untold}
use Rattle.assurance.proofs.Cycle.{goes-longer, longer-sound, longer-idle}

module _ {plan : Plan} {k from D : ℕ} {s : State} {at : ℕ → State} (c : Event plan k from D s at) where
  abbrev last : ℕ
  last = lasting plan k from D

  abbrev held : Held plan
  held = c.request.held

  asks : Asked plan k from s
  asks = asked c.request

  small : k < 32
  small = place asks

  inside : from < devices plan
  inside = there asks

  own : Gets plan k from s from
  own = (0, stay)

  source-role : role plan from ≡ 0
  source-role = (masked plan held from k inside (omega (arith, requests asks))).0

  -- no load is longer than the source's, as it is a node
  most : (e : ℕ) → e < devices plan → load_of plan e k ≤ load_of plan from k
  most e h = load-most plan held e from k h source-role

  -- the window, and what follows it
  goes : Trip plan 0 k Any from D (window D) 0 s at
  goes = out c.request

  long : window D ≤ last
  long = omega (arith, c.request.loads from inside)

  sounds : (t : ℕ) → t ≤ last → Sound plan (at t)
  sounds = longer-sound c.request c.after

  idles : (t : ℕ) → window D ≤ t → t ≤ last → Idle k (at t)
  idles = longer-idle c.request c.after

  onward : (t : ℕ) → t < last → Beside plan k (round plan (at t)).next (at (suc t))
  onward = later asks (goes-longer c.request c.after)

  unsent-then : (t : ℕ) → window D ≤ t → t ≤ last → (q : ℕ) → SendsK plan k (at t) q → ⊥
  unsent-then t since to = none-sends plan held k small (sounds t to) (idles t since to)

  -- a device that is reached is D crossings away at most
  near : (n e : ℕ) → Walk plan s 0 k from n e → (m : ℕ) × (m ≤ n) × (m ≤ D) × Walk plan s 0 k from m e
  near n e w =
      let m = nearest plan held s 0 k from inside Any any? w in
      (m.0, m.1, c.request.farthest.most m.0 e m.2, m.2.there)

  start : Begun plan 0 k from s (at 0)
  start =
      begun plan held 0 k (omega arith) small from inside asks.at_rest.sound asks.at_rest.idle
      (course-begins plan held k small (window D) (called plan 0 from k s) at (first asks) c.request.course).like

  -- ---- the timer of one device

  module _ (e : ℕ) (h : e < devices plan) where
    room : e < 32
    room = omega (arith, h, few plan held)

    abbrev load : ℕ
    load = load_of plan e k

    abbrev left : ℕ → ℕ
    left t = timer (at t) e k

    bits : (t : ℕ) → t ≤ last → (left t ≡ 0 → bit (register (at t) e) k ≡ 0) × (1 ≤ left t → bit (register (at t) e) k ≡ 1)
    bits t to = timed-bit ((sounds t to).timers e k h room small)

    -- in a round and the calls after it: one lower, or stopped, or loaded
    stands : (t : ℕ) → t < last → (left (suc t) ≡ left t - 1) ⊎ (left (suc t) ≡ 0) ⊎ (left (suc t) ≡ load)
    stands t b = rw (← (onward t b).like.timers e room) (round-stands plan held (at t) (sounds t (omega arith)) e k h small)

    -- none stands above its load
    no_more : (t : ℕ) → t ≤ last → left t ≤ load
    no_more t =
        le_ind {n = 0} (λ t. t ≤ last → left t ≤ load) (λ b. at-start (ℕ_discrete e from))
        (λ u since before b.
        let o = before (omega arith) in
        elim (stands u b) [ inl p ↦ omega arith | inr q ↦ elim q [ inl p ↦ omega arith | inr p ↦ omega arith ] ])
        t (omega arith)
      where
        at-start : Dec (e ≡ from) → left 0 ≤ load
        at-start (yes is) = let now = start.timed in rw is (omega arith)
        at-start (no ne) =
            let was = (c.request.sound.timers e k h room small).off (c.request.unset e h) in
            omega (arith, (start.others e room ne).1)

    -- no code of k is accepted behind the window, nor before by a device that holds it
    shut : (t : ℕ) → t < last → bit (register (at t) e) k ≡ 1 → Unaccepted plan (at t) e k
    shut t b on =
        dite (dec_lt t (window D))
        (λ u. runs_on plan held (at t) (sounds t (omega arith)) e k h small (omega (arith, (goes.fits t (omega arith)).long e h on))
        (none-accepted plan held e k h small c.event (at t)))
        (λ u. quiet t (omega arith) b)
      where
        quiet : (t : ℕ) → window D ≤ t → t < last → Unaccepted plan (at t) e k
        quiet t since b = unsent plan (at t) e k (λ p kind m g is. unsent-then t since (omega arith) _ (kind, g, is))

    -- so it falls
    lowers : (t : ℕ) → t < last → 1 ≤ left t → left (suc t) ≡ left t - 1
    lowers t b runs =
        sym ((onward t b).like.timers e room) ∙ round-lowers plan held (at t) (sounds t (omega arith)) e k h small (shut t b ((bits t (omega arith)).1 runs))

    -- one that does not run behind the window does not begin to
    ended : (t : ℕ) → window D ≤ t → t < last → left t ≡ 0 → left (suc t) ≡ 0
    ended t since b z =
        let off = unset-on plan held k small (sounds t (omega arith)) (idles t since (omega arith)) (onward t b) e h ((bits t (omega arith)).0 z) in
        ((sounds (suc t) b).timers e k h room small).off off

    -- ---- a way of n crossings leads there

    module _ (n : ℕ) (w : Walk plan s 0 k from n e) where
      -- from `crossing` x n rounds on it is lower with each round
      falls : (t : ℕ) → crossing * n ≤ t → t ≤ last → left t ≤ crossing * n + load - t
      falls =
          le_ind (λ t. t ≤ last → left t ≤ crossing * n + load - t) (λ b. omega (arith, no_more (crossing * n) b))
          (λ t since before b. by-timer t since b (before (omega arith)) (ℕ_discrete (left t) 0))
        where
          by-timer : (t : ℕ) → crossing * n ≤ t → t < last → left t ≤ crossing * n + load - t → Dec (left t ≡ 0) → left (suc t) ≤ crossing * n + load - suc t
          by-timer t since b o (no runs) = omega (arith, lowers t b (omega arith))
          by-timer t since b o (yes z) =
              dite (dec_lt t (window D))
              (λ u. absurd (omega (arith, goes.gets n e t w since (omega arith), (bits t (omega arith)).0 z)))
              (λ u. omega (arith, ended t (omega arith) b z))

      clear : (t : ℕ) → crossing * n + load ≤ t → t ≤ last → bit (register (at t) e) k ≡ 0
      clear t over to = (bits t to).0 (omega (arith, falls t (omega arith) to))

    -- ---- it does not hold k after r rounds of the window

    module _ (r : ℕ) (in_window : r ≤ window D) (off : bit (register (at r) e) k ≡ 0) where
      -- once it runs, it was loaded later than that
      rises : (t : ℕ) → r ≤ t → t ≤ last → 1 ≤ left t → r + load < left t + t
      rises =
          le_ind (λ t. t ≤ last → 1 ≤ left t → r + load < left t + t)
          (λ b runs. absurd (omega (arith, (bits r b).1 runs)))
          (λ t since before b runs. elim (ℕ_discrete (left t) 0) [
            | yes z ↦ elim (stands t b) [ inl p ↦ absurd (omega arith) | inr q ↦ elim q [ inl p ↦ absurd (omega arith) | inr p ↦ omega arith ] ]
            | no ne ↦ omega (arith, before (omega arith) (omega arith), lowers t b (omega arith))
          ])

      -- and it runs on
      runs-still : (n : ℕ) → n ≤ D → Walk plan s 0 k from n e → (t : ℕ) → crossing * n ≤ t → t ≤ last → t ≤ r + load → r + load < left t + t
      runs-still n few w =
          le_ind (λ t. t ≤ last → t ≤ r + load → r + load < left t + t)
          (λ b until.
          let on : (u : ℕ) → crossing * n ≤ u → u ≤ window D → bit (register (at u) e) k ≡ 1 = λ u. goes.gets n e u w in
          let early : r < crossing * n = dite (dec_lt r (crossing * n)) (λ y. y) (λ y. absurd (omega (arith, on r (omega arith) in_window))) in
          let set = on (crossing * n) (le_refl _) (omega arith) in
          rises (crossing * n) (omega arith) b (((sounds (crossing * n) b).timers e k h room small).on set).0)
          (λ t since before b until. let o = before (omega arith) (omega arith) in omega (arith, lowers t b (omega arith)))

    still-holds : (n r t : ℕ) → Walk plan s 0 k from n e → r ≤ window D → bit (register (at r) e) k ≡ 0 → crossing * n ≤ t → t ≤ r + load → t ≤ last
        → bit (register (at t) e) k ≡ 1
    still-holds n r t w in_window off since until to =
        let m = near n e w in
        (bits t to).1 (omega (arith, runs-still r in_window off m.0 m.2 m.3 t (omega (arith, m.1)) to until))

    -- ---- what was unset at the end of the window stays so

    stays-off : bit (register (at (window D)) e) k ≡ 0 → (t : ℕ) → window D ≤ t → t ≤ last → bit (register (at t) e) k ≡ 0
    stays-off off =
        le_ind (λ t. t ≤ last → bit (register (at t) e) k ≡ 0) (λ b. off)
        (λ t since before b. unset-on plan held k small (sounds t (omega arith)) (idles t since (omega arith)) (onward t b) e h (before (omega arith)))

    reached : (t : ℕ) → t ≤ last → bit (register (at t) e) k ≡ 1 → Gets plan k from s e
    reached t to on =
        dite (dec_lt t (window D)) (λ u. in_window t (omega arith) on)
        (λ u. elim (ℕ_discrete (bit (register (at (window D)) e) k) 1) [
          | yes b ↦ in_window (window D) (le_refl _) b
          | no ne ↦ absurd (omega (arith, stays-off (omega (arith, bit-two (register (at (window D)) e) k)) t (omega arith) to))
        ])
      where
        in_window : (t : ℕ) → t ≤ window D → bit (register (at t) e) k ≡ 1 → Gets plan k from s e
        in_window t to on = let way = goes.only e t h to (c.request.unset e h) on in (way.0, way.2)

    unset-last : bit (register (at last) e) k ≡ 0
    unset-last =
        elim (ℕ_discrete (bit (register (at last) e) k) 1) [
          | yes on ↦
              let w = reached last (le_refl _) on in
              let m = near w.0 e w.1 in
              clear m.0 m.3 last (omega (arith, m.2, most e h)) (le_refl _)
          | no ne ↦ omega (arith, bit-two (register (at last) e) k)
        ]

    -- ---- what its host is told, if it is a node

    none_answers : (q t : ℕ) → t < last → SendsIt plan k (at t) 1 q → ⊥
    none_answers q t b y =
        dite (dec_lt t (window D))
        (λ u. omega (arith, of-kind plan 0 k s (takers_of 0 k s) (at t) held (omega arith) small (goes.fits t (omega arith)) 1 q (omega arith) y))
        (λ u. unsent-then t (omega arith) (omega arith) q (1, omega arith, y))

    -- interrupts in the window only
    no-later : (t : ℕ) → window D ≤ t → t ≤ last → told_by plan of_interrupt e k at t ≡ told_by plan of_interrupt e k at (window D)
    unfolding told_by
    no-later =
        le_ind (λ t. t ≤ last → told_by plan of_interrupt e k at t ≡ told_by plan of_interrupt e k at (window D)) (λ b. refl)
        (λ t since before b.
        omega (arith, before (omega arith), none_told plan held (at t) (sounds t (omega arith)) e k h small 0 (omega arith) (λ q y. unsent-then t since (omega arith) q (0, omega arith, y))))

    module _ (node : router plan e ≡ false) where
      hears : (interrupts timeouts : ℕ) → bit (register (at 0) e) k + interrupts ≡ bit (register (at (window D)) e) k
          → timeouts ≡ bit (register (at 0) e) k + interrupts → Hears plan k from D s at e interrupts timeouts
      hears interrupts timeouts so is =
          let window-told = told-out goes e h node (window D) (le_refl _) interrupts so in
          let answers = none-sent plan held k small at last sounds e h 1 (omega arith) none_answers last (le_refl _) in
          let same = no-later last long (le_refl _) in
          record {
            first = window-told;
            all = record {
              of-interrupts = same ∙ window-told.of-interrupts;
              of-acknowledges = answers;
              of-timeouts = omega (arith, adds-up plan held k small at last sounds e h onward node last (le_refl _), unset-last, window-told.of-interrupts);
            };
          }

    got : Gets plan k from s e → bit (register (at (window D)) e) k ≡ 1
    got w = let m = near w.0 e w.1 in goes.gets m.0 e (window D) m.3 (omega (arith, m.2)) (le_refl _)

    was-unset : e ≢ from → bit (register (at 0) e) k ≡ 0
    was-unset ne = at_first goes e h ne ∙ c.request.unset e h

  -- ---- the source

  source-node : router plan from ≡ false
  source-node = rw source-role

  source-on : bit (register (at 0) from) k ≡ 1
  source-on = goes.gets 0 from 0 stay (omega arith) (omega arith)

  -- its timer has lost one for each round
  source-left : (t : ℕ) → t < load_of plan from k → load_of plan from k ≤ timer (at t) from k + t
  source-left t =
      le_ind {n = 0} (λ t. t < load_of plan from k → load_of plan from k ≤ timer (at t) from k + t) (λ b. let now = start.timed in omega arith)
      (λ u since before b. let o = before (omega arith) in omega (arith, lowers from inside u (omega arith) (omega arith)))
      t (omega arith)

  source_told : HearsIn plan of_timeout from k at (load_of plan from k)
  source_told =
      let load = load_of plan from k in
      let longer = c.request.loads from inside in
      let to : load - 1 ≤ last = omega arith in (
        load - 1,
        omega arith,
        timeout-told plan held (at (load - 1)) (sounds (load - 1) to) from k inside small source-node
            (omega (arith, source-left (load - 1) (omega arith), falls from inside 0 stay (load - 1) (omega arith) to)),
      )

  -- ---- when a node is told of its timeout

  module _ (n e : ℕ) (h : e < devices plan) (away : Away plan s 0 k from n e) where
    -- it does not hold k after fewer than n rounds
    not_yet : (t : ℕ) → t < n → bit (register (at t) e) k ≡ 0
    not_yet t b =
        let few = c.request.farthest.most n e away in
        elim (ℕ_discrete (bit (register (at t) e) k) 1) [
          | yes on ↦ let way = goes.only e t h (omega arith) (c.request.unset e h) on in absurd (away.least way.0 (omega (arith, way.1)) way.2)
          | no ne ↦ omega (arith, bit-two (register (at t) e) k)
        ]

    -- so its timer ends as much later
    lasts : (t : ℕ) → t ≤ last → 1 ≤ timer (at t) e k → n + load_of plan e k ≤ timer (at t) e k + t
    lasts t b runs = by-distance (ℕ_discrete n 0)
      where
        by-distance : Dec (n ≡ 0) → n + load_of plan e k ≤ timer (at t) e k + t
        by-distance (yes z) =
            let is : e ≡ from = none-away away.there z in
            dite (dec_lt t (load_of plan from k)) (λ l. rw (z, is) (omega (arith, source-left t l))) (λ l. rw (z, is) (omega arith))
        by-distance (no ne) =
            let few = c.request.farthest.most n e away in
            let on = (bits e h t b).1 runs in
            let late : n ≤ t = dite (dec_lt t n) (λ l. absurd (omega (arith, not_yet t l))) (λ l. omega arith) in
            omega (arith, rises e h (n - 1) (omega arith) (not_yet (n - 1) (omega arith)) t (omega arith) b runs)

    told-when : router plan e ≡ false → (turn : ℕ) → turn ≤ last → HearsIn plan of_timeout e k at turn
        → (n + load_of plan e k ≤ turn) × (turn ≤ crossing * n + load_of plan e k) × (last ≤ turn + (crossing * D - n))
    told-when node turn to (t, is, m) =
        let near = c.request.farthest.most n e away in
        let runs : timer (at t) e k ≡ 1 =
        elim (ℕ_discrete (timer (at t) e k) 1) [
          | yes o ↦ o
          | no ne ↦ absurd (omega (arith, told-some plan of_timeout e k (at t) m, no-timeout plan held (at t) (sounds t (omega arith)) e k h small ne))
        ] in
        let role-is : role plan e ≡ 0 = omega (arith, (held-few plan held e (room e h)).0, eqb-false (role plan e) 1 node) in
        let low = lasts t (omega arith) (omega arith) in
        let same = load-most plan held from e k inside role-is in
        let high : turn ≤ crossing * n + load_of plan e k =
        dite (dec_lt t (crossing * n)) (λ l. omega arith) (λ l. omega (arith, falls e h n away.there t (omega arith) (omega arith))) in
        (omega arith, high, omega arith)

  -- ---- the end

  end-links : (q : ℕ) → q < 256 → running (at last) q ≡ running s q
  end-links q h =
      le_ind (λ t. t ≤ last → running (at t) q ≡ running s q) (λ b. (goes.fits (window D) (le_refl _)).runs q h)
      (λ t since before b. links-on plan held k small (sounds t (omega arith)) (idles t since (omega arith)) (onward t b) q h ∙ before (omega arith))
      last long (le_refl _)

  pub rests-then : AtRest plan k (at last)
  rests-then = record { sound = sounds last (le_refl _); unset = unset-last; idle = idles last long (le_refl _) }

  -- the conditions of a request are as they were
  ask-again : (d : ℕ) → Ordered (call_asks plan 0 d k s) 0 → Ordered (call_asks plan 0 d k (at last)) 0
  ask-again d taken = known (holds (call_asks plan 0 d k s) refl taken refl)
    where
      same : (p : ℕ) → p < 8 → d < devices plan → running (at last) (8 * d + p) ≡ running s (8 * d + p)
      same p b inside = end-links (8 * d + p) (omega (arith, few plan held))

      known : Holds (call_asks plan 0 d k s) → Ordered (call_asks plan 0 d k (at last)) 0
      known (_, (_, (inside, (_, (own, (used, ((p, low, runs), ((q, less, sends), _)))))))) =
          passed (call_asks plan 0 d k (at last)) [] 0 (
            held,
            (rests-then.sound, (inside, (small, (own, (used, ((p, low, same p low inside ∙ runs), ((q, less, ap (λ flag. eqb flag 1 && may_send 0 (permissions plan (8 * d + q))) (same q less inside) ∙ sends), (rests-then.unset d inside, tt)))))))),
          ) refl

  pub fades : Fades plan k from D s at
  fades =
      record {
        clears = λ n e t w. clear e (walk-device plan held s 0 k from inside w) n w t;
        holds = λ n e r t w. still-holds e (walk-device plan held s 0 k from inside w) n r t w;
        no_other = λ e t h. reached e h t;
        once = λ q t u lt to x y.
            dite (dec_lt u (window D)) (λ b. goes.once q t u lt b x y) (λ b. unsent-then u (omega arith) (omega arith) q y);
        source-hears = hears from inside source-node 0 1 (omega (arith, source-on, got from inside own)) (omega (arith, source-on));
        source-when = source_told;
        when = λ n e turn away node. told-when n e (walk-device plan held s 0 k from inside away.there) away node turn;
        others-hear = λ e w ne node.
            let h = walk-device plan held s 0 k from inside w.1 in
            hears e h node 1 1 (omega (arith, was-unset e h ne, got e h w)) (omega (arith, was-unset e h ne));
        none-hears = λ e h off node.
            let ne : e ≢ from = λ is. off (rw is own) in
            let never : bit (register (at (window D)) e) k ≡ 1 → ⊥ = λ b. off (reached e h (window D) long b) in
            hears e h node 0 0 (omega (arith, was-unset e h ne, bit-two (register (at (window D)) e) k)) (omega (arith, was-unset e h ne));
        at_rest = rests-then;
        links = end-links;
        again = ask-again;
      }

pub one-event : OneEvent
unfolding OneEvent
one-event plan k from D s at c = fades c

-- ---- one after the other

module _ (plan : Plan) (k : ℕ) (s : State) (held : Held plan) (l : k < 32) (begins : AtRest plan k s) where
  all-fade : {t : State} (list : Events plan k s t) → AllFade plan k s t list × AtRest plan k t
  unfolding AllFade
  all-fade none = (tt, begins)
  all-fade (rest before rounds at course) =
      let b = all-fade before in
      ((b.0, rests-untold plan held k l b.1 course), rests plan held k l b.1 course rounds (le_refl _))
  all-fade (event before from D at asked) =
      let b = all-fade before in
      let next = asked b.1 in
      ((b.0, fades next), rests-then next)

pub any-events : AnyEvents
unfolding AnyEvents
any-events plan k s t list held l first = all-fade plan k s held l first list

-- The examples meet every condition of demand 3: the demand is not empty.
use mathlib.Core.Path.{◌≡◌, refl, sym, ap, ◌∙◌}
use mathlib.Core.Bool.{Bool, true, false, not, ◌&&◌, false≢true}
use mathlib.Core.Logic.{inl, inr, ◌≢◌}
use Prim.Native.Nat.{ℕ, zero, suc, ◌+◌, ◌-◌, ◌*◌, ◌/◌, ◌≤◌, ◌<◌}
use native.Mathlib.Decide.{ℕ_discrete}
use native.Mathlib.Omega.{arith}
use lib.Dec.{eqb, ltb}
use borrow.Author.Tests.{ltb-true, lt-ltb, eqb-true, eqb-false, not-true}
use Rattle.answers.specs.Ordered.{Ordered}
use Rattle.answers.proofs.Outcomes.{outcome-done}
use Rattle.lists.specs.Table.{every}
use Rattle.lists.proofs.Tests.{both, every-at}
use Rattle.bits.specs.Set.{bit}
use Rattle.device.specs.Permissions.{may_send, may_receive}
use Rattle.device.specs.Reaction.{is_used}
use Rattle.state.specs.State.{State, register, timer, waiting, next, running, lately}
use Rattle.plan.specs.Fields.{nobody}
use Rattle.plan.specs.Reading.{Held}
use Rattle.plan.specs.declared.Plan.{Plan}
use Rattle.state.specs.Network.{devices, router, peer, permissions, source, load_for, load_of}
use Rattle.state.specs.Sound.{Sound}
use Rattle.calls.specs.Calls.{call_asks, called}
use Rattle.calls.proofs.Called.{call-sound}
use Rattle.state.proofs.Plans.{few}
use Rattle.laws.specs.Alike.{Alike}
use Rattle.laws.proofs.Apart.{call-apart}
use Rattle.reach.specs.Walk.{Leads, Walk, stay, cross}
use Rattle.reach.specs.Away.{Farthest}
use Rattle.reach.proofs.Found.{none-away}
use Rattle.reach.proofs.Alone.{walks-stay}
use Rattle.assurance.specs.Demand3.{Calls, none, then, Course, crossing, window, Given, Follows, Demand3}
use Rattle.assurance.proofs.Demand.{demand-3}
use Rattle.witness.specs.Line.{line, deaf, busy, course}
use Rattle.assurance.proofs.Begun.{call-taken, Begun, begun}
use Rattle.assurance.proofs.Taking.{called-took, took-late}
use Rattle.assurance.proofs.Choices.{runs-joined}
use Rattle.assurance.proofs.Slow.{Ready, alone-begun, slow}
use Rattle.assurance.proofs.Instances.{farthest-of, ticked}
use Rattle.witness.proofs.Accepted.{line-held, deaf-held}
use Rattle.witness.proofs.Busy.{busy-sound, busy-unset, busy-idle, busy-turn, busy-runs, busy-others}

-- ---- the requests of node 0, where its port is connected and may send

module _ (plan : Plan) (held : Held plan) (here : 0 < devices plan) where
  pub requested-sound : Sound plan (called plan 0 0 31 (busy plan))
  requested-sound = call-sound plan held (busy plan) (busy-sound plan held here) 0 0 31 (omega arith) here (omega arith)

  module _ (own : every 32 (λ j. eqb (bit (source plan 0) j) 1) ≡ true) (joined : peer plan 0 < nobody) (may : may_send 0 (permissions plan 0) ≡ true) where
    -- a request for j by its host is taken
    asked : (j : ℕ) (s : State) → Sound plan s → j < 32 → running s 0 ≡ 1 → bit (register s 0) j ≡ 0 → Ordered (call_asks plan 0 0 j s) 0
    unfolding is_used
    asked j s x l runs unset =
        call-taken plan held 0 0 j 0 s x here l (eqb-true (bit (source plan 0) j) 1 (every-at 32 (λ j. eqb (bit (source plan 0) j) 1) own j l)) refl (omega arith) runs may unset

    runs-first : running (busy plan) 0 ≡ 1
    runs-first = busy-runs plan held here 0 (omega arith) joined

    -- 31 is requested, then 30
    taken : Ordered (call_asks plan 0 0 31 (busy plan)) 0
    taken = asked 31 (busy plan) (busy-sound plan held here) (omega arith) runs-first (busy-unset plan held here 31 (omega arith) (omega arith) 0 here)

    then-30 : Calls plan 31 (called plan 0 0 31 (busy plan)) (called plan 0 0 30 (called plan 0 0 31 (busy plan)))
    then-30 =
        let like = call-apart plan held (busy plan) (busy-sound plan held here) 30 (omega arith) 0 0 31 (omega arith) here (omega arith) (λ e. omega arith) in
        let unset = busy-unset plan held here 30 (omega arith) (omega arith) 0 here in
        then {t = called plan 0 0 31 (busy plan)} 0 0 30 0 none (omega arith)
        (outcome-done (asked 30 (called plan 0 0 31 (busy plan)) requested-sound (omega arith)
        (sym (like.runs 0 (omega arith)) ∙ runs-first) (sym (like.marks 0 (omega arith)) ∙ unset)) refl refl)
        (λ e o. omega arith)

    -- ---- rounds follow, with a tick before each

    abbrev full : State
    full = called plan 0 0 30 (called plan 0 0 31 (busy plan))

    full-sound : Sound plan full
    full-sound = call-sound plan held (called plan 0 0 31 (busy plan)) requested-sound 0 0 30 (omega arith) here (omega arith)

    -- each of the two requests changes nothing that concerns another identifier
    first-apart : (j : ℕ) → j < 31 → Alike j (busy plan) (called plan 0 0 31 (busy plan))
    first-apart j b = call-apart plan held (busy plan) (busy-sound plan held here) j (omega arith) 0 0 31 (omega arith) here (omega arith) (λ e. omega arith)

    second-apart : (j : ℕ) → j < 32 → j ≢ 30 → Alike j (called plan 0 0 31 (busy plan)) full
    second-apart j b ne = call-apart plan held (called plan 0 0 31 (busy plan)) requested-sound j b 0 0 30 (omega arith) here (omega arith) (λ e. ne (sym e))

    full_runs : running full 0 ≡ 1
    full_runs = sym ((second-apart 29 (omega arith) (omega arith)).runs 0 (omega arith)) ∙ sym ((first-apart 29 (omega arith)).runs 0 (omega arith)) ∙ runs-first

    -- 31 waits at that port, and at no port of another device
    full-begun : Begun plan 0 31 0 (busy plan) full
    full-begun =
        begun plan held 0 31 (omega arith) (omega arith) 0 here (busy-sound plan held here) (busy-idle plan held here 31 (omega arith) (omega arith))
        (second-apart 31 (omega arith) (omega arith))

    full-waits : (j : ℕ) → j < 32 → bit (waiting full 0 0) j ≡ 1
    full-waits j b =
        elim (ℕ_discrete j 31) [
          | yes e ↦ rw e (full-begun.all 0 (omega arith) (record { here = omega arith; runs = runs-first; may = may }))
          | no n ↦ elim (ℕ_discrete j 30) [
            | yes e ↦
                rw e
                ((called-took plan 0 30 (omega arith) (omega arith) 0 (omega arith) (called plan 0 0 31 (busy plan)) requested-sound.size).all 0 (omega arith) (omega arith) refl
                (record { here = omega arith; runs = sym ((first-apart 29 (omega arith)).runs 0 (omega arith)) ∙ runs-first; may = may }))
            | no m ↦
                sym ((second-apart j b m).waits 0 0 (omega arith) (omega arith)) ∙ sym ((first-apart j (omega arith)).waits 0 0 (omega arith) (omega arith))
                ∙ (busy-others plan held here joined may j (omega arith)).1
          ]
        ]

    full-turn : (next full 0 ≡ 0) × (lately full 0 ≡ 0)
    full-turn =
        let one = called-took plan 0 31 (omega arith) (omega arith) 0 (omega arith) (busy plan) (busy-sound plan held here).size in
        let two = called-took plan 0 30 (omega arith) (omega arith) 0 (omega arith) (called plan 0 0 31 (busy plan)) requested-sound.size in
        let old = busy-turn plan held here in
        (two.turns 0 ∙ one.turns 0 ∙ old.0, took-late two 0 ∙ took-late one 0 ∙ old.1)

    pub ticks-on : plan.core.master ≡ 1 → (n : ℕ) → Course plan 31 n (called plan 0 0 31 (busy plan)) (course plan)
    unfolding course
    ticks-on master = ticked plan held 0 0 here master (omega arith) 31 then-30 full-sound full_runs

    -- a round before the end of a crossing 31 waits on at that port, and nobody else holds it
    pub slowly : router plan 0 ≡ false → every 7 (λ p. eqb (peer plan (suc p)) nobody) ≡ true → 65 ≤ load_of plan 0 31 → (e : ℕ) → e < devices plan → e ≢ 0
        → (bit (waiting (course plan (crossing - 1)) 0 0) 31 ≡ 1) × (bit (register (course plan (crossing - 1)) e) 31 ≡ 0)
    unfolding course
    slowly node single loads e h ne =
        let n = few plan held in
        let first : Ready plan held 0 (omega arith) 0 0 here node (omega arith) full 0 full =
        record {
          sound = full-sound;
          runs = full_runs;
          start = full-turn.0;
          late = full-turn.1;
          waits = λ j a b. full-waits j b;
          alone = alone-begun plan held 0 (omega arith) 0 0 here node (omega arith) full-begun not-other;
          marks = λ i b. refl;
          long = λ i b o. omega (arith, long i b o);
        } in
        let x = (slow plan held 0 (omega arith) 0 0 here node (omega arith) full first (crossing - 1) (omega arith)).ready in
        (x.waits 31 (omega arith) (omega arith), x.marks e h ∙ unset e h ne)
      where
        unset : (e : ℕ) → e < devices plan → e ≢ 0 → bit (register full e) 31 ≡ 0
        unset e h ne = (full-begun.others e (omega (arith, few plan held)) ne).0 ∙ busy-unset plan held here 31 (omega arith) (omega arith) e h

        long : (e : ℕ) → e < devices plan → bit (register full e) 31 ≡ 1 → 65 ≤ timer full e 31
        long e h b = elim (ℕ_discrete e 0) [ yes z ↦ rw (z, full-begun.timed) loads | no ne ↦ absurd (omega (arith, unset e h ne)) ]

        -- no other port of the node runs
        not-other : (r : ℕ) → r / 8 ≡ 0 → r ≢ 0 → running (busy plan) r ≡ 1 → ⊥
        not-other r own ne runs =
            let joined = runs-joined plan held (busy-sound plan held here) r (omega arith) runs in
            let e : suc (r - 1) ≡ r = omega arith in
            omega (arith, eqb-true (peer plan (suc (r - 1))) nobody (every-at 7 (λ p. eqb (peer plan (suc p)) nobody) single (r - 1) (omega arith)), ap (peer plan) e)

    -- all that is asked

    pub meets : plan.core.master ≡ 1 → (D : ℕ) → Farthest plan (busy plan) 0 31 0 D → ((e : ℕ) → e < devices plan → window D < load_of plan e 31) → Given plan 31 0 D (busy plan) (course plan)
    meets master D farthest loads =
        record {
          held = held;
          sound = busy-sound plan held here;
          unset = busy-unset plan held here 31 (omega arith) (omega arith);
          idle = busy-idle plan held here 31 (omega arith) (omega arith);
          taken = taken;
          farthest = farthest;
          course = ticks-on master (window D);
          loads = loads;
        }

-- ---- in the row the router is one crossing away from node 0 and node 2 is two, and no device is farther

pub first-there : 0 < devices line
unfolding line
first-there = omega arith

abbrev Far : ℕ → ℕ → Type 0
Far = Walk line (busy line) 0 31 0

first : Leads line (busy line) 0 31 0 1
unfolding line may_send may_receive bit
first = record { runs = busy-runs line line-held first-there 0 (omega arith) (omega arith); sends = refl; joined = omega arith; receives = refl; admits = refl; there = refl }

second : Leads line (busy line) 0 31 9 2
unfolding line may_send may_receive bit
second = record { runs = busy-runs line line-held first-there 9 (omega arith) (omega arith); sends = refl; joined = omega arith; receives = refl; admits = refl; there = refl }

pub to-router : Far 1 1
to-router = cross stay (inl refl) 0 (omega arith) first tt

to-handler : Far 2 2
unfolding line
to-handler = cross to-router (inr refl) 1 (omega arith) second tt

-- no port of node 0 leads to node 2
not_there : every 8 (λ p. not (eqb (peer line p / 8) 2)) ≡ true
unfolding line every
not_there = refl

not-nearer : {m e : ℕ} → Far m e → m < 2 → e ≡ 2 → ⊥
not-nearer stay l e = omega arith
not-nearer (cross {n = n} {d = d} w on p b leads any) l e =
    let here : d ≡ 0 = none-away w (omega arith) in
    let port : 8 * d + p ≡ p = omega arith in
    eqb-false (peer line p / 8) 2 (not-true (eqb (peer line p / 8) 2) (every-at 8 (λ q. not (eqb (peer line q / 8) 2)) not_there p b))
    (ap (λ q. peer line q / 8) (sym port) ∙ sym leads.there ∙ e)

-- each device is at most two away
near : (e : ℕ) → e < 3 → (m : ℕ) × (m ≤ 2) × Far m e
near zero h = (0, omega arith, stay)
near (suc zero) h = (1, omega arith, to-router)
near (suc (suc zero)) h = (2, omega arith, to-handler)
near (suc (suc (suc e))) h = absurd (omega arith)

far : Farthest line (busy line) 0 31 0 2
unfolding line
far = farthest-of line line-held (busy line) 0 31 0 2 first-there (2, record { there = to-handler; least = λ m l w. not-nearer w l refl }) near

long : (e : ℕ) → e < devices line → window 2 < load_of line e 31
unfolding line every load_for
long e h = ltb-true (window 2) (load_of line e 31) (every-at 3 (λ e. ltb (window 2) (load_of line e 31)) refl e h)

pub given : Given line 31 0 2 (busy line) (course line)
unfolding line may_send bit every
given = meets line line-held first-there refl (omega arith) refl refl 2 far long

-- so this follows
pub follows : Follows line 31 0 2 (busy line) (course line)
unfolding Demand3
follows = demand-3 line 31 0 2 (busy line) (course line) given

-- a round before the end of a crossing 31 waits still at node 0, and the router does not hold it
pub line-slow : (bit (waiting (course line (crossing - 1)) 0 0) 31 ≡ 1) × (bit (register (course line (crossing - 1)) 1) 31 ≡ 0)
unfolding line may_send bit every load_for
line-slow = slowly line line-held first-there refl (omega arith) refl refl refl (omega arith) 1 (omega arith) (omega arith)

-- ---- where the router does not hear it, no device is any crossing away from node 0

-- what its port is connected to may not receive
unheard : every 8 (λ p. not (ltb (peer deaf p) nobody && may_receive 0 (permissions deaf (peer deaf p)))) ≡ true
unfolding deaf every may_receive bit
unheard = refl

nowhere : (p e : ℕ) → p < 8 → Leads deaf (busy deaf) 0 31 (8 * 0 + p) e → ⊥
nowhere p e l leads =
    let port : 8 * 0 + p ≡ p = omega arith in
    let way : Leads deaf (busy deaf) 0 31 p e = rw port at leads in
    let test : Bool = ltb (peer deaf p) nobody && may_receive 0 (permissions deaf (peer deaf p)) in
    let no : test ≡ false = not-true test (every-at 8 (λ p. not (ltb (peer deaf p) nobody && may_receive 0 (permissions deaf (peer deaf p)))) unheard p l) in
    false≢true (sym no ∙ both _ _ (lt-ltb (peer deaf p) nobody way.joined) way.receives)

near-alone : Farthest deaf (busy deaf) 0 31 0 0
near-alone =
    record {
      some = (0, record { there = stay; least = λ m l w. omega arith });
      most = λ n e a. omega (arith, (walks-stay deaf (busy deaf) 0 31 0 nowhere a.there).0);
    }

pub given-alone : Given deaf 31 0 0 (busy deaf) (course deaf)
unfolding deaf may_send bit every load_for
given-alone =
    meets deaf deaf-held (omega arith) refl (omega arith) refl refl 0 near-alone
    (λ e h. ltb-true (window 0) (load_of deaf e 31) (every-at 2 (λ e. ltb (window 0) (load_of deaf e 31)) refl e h))

pub deaf-slow : (bit (waiting (course deaf (crossing - 1)) 0 0) 31 ≡ 1) × (bit (register (course deaf (crossing - 1)) 1) 31 ≡ 0)
unfolding deaf may_send bit every load_for
deaf-slow = slowly deaf deaf-held (omega arith) refl (omega arith) refl refl refl (omega arith) 1 (omega arith) (omega arith)

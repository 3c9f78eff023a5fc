-- Two rounds for a crossing are enough for a Time-Code, and no fewer are: where the last code that a port sent was a Time-Code, another code that waits goes
-- first. The example meets every condition of `Distributes`: the theorem is not empty.
use mathlib.Core.Path.{◌≡◌, refl, sym, ◌∙◌}
use mathlib.Core.Bool.{Bool, true, false, ◌&&◌}
use mathlib.Core.List.{[]}
use mathlib.Core.Logic.{inl, inr}
use Prim.Native.Nat.{ℕ, zero, suc, ◌-◌, ◌≤◌, ◌<◌}
use native.Mathlib.Nat.{le_refl}
use native.Mathlib.Omega.{arith}
use lib.Dec.{eqb}
use Rattle.answers.proofs.Outcomes.{passed}
use Rattle.lists.specs.Loop.{up_to}
use Rattle.lists.specs.Table.{every, table, joined}
use Rattle.lists.proofs.Facts.{facts}
use Rattle.bits.specs.Set.{bit, join, leave}
use Rattle.bits.specs.First.{searched, first_from}
use Rattle.codes.specs.Codes.{reads}
use Rattle.device.specs.Permissions.{may_send, may_receive}
use Rattle.device.specs.Reaction.{ruled, counted, reacts_to, reacts}
use Rattle.state.specs.State.{State, word, put, running, counter, time_waits, state_of}
use Rattle.state.specs.Network.{devices, exists, load_for}
use Rattle.state.specs.Queue.{queue_at, queue_all_at, queue_time, queue_time_all}
use Rattle.state.specs.Mark.{mark}
use Rattle.state.specs.Sound.{Sound}
use Rattle.state.specs.Start.{started}
use Rattle.state.proofs.Plans.{owned}
use Rattle.state.proofs.Started.{start-joined, started-sound}
use Rattle.calls.specs.Calls.{tick_asks, called, advanced}
use Rattle.calls.proofs.Called.{tick-sound, call-sound}
use Rattle.bench.specs.Round.{of_time, fall, first_waits, goes, time_goes, stamped, chosen, sent_word, sends, unqueued, timed, forwarded, acted, arrived, fallen, sent_bytes, posted, arrives, reached, round}
use Rattle.bench.specs.Settling.{rounds}
use Rattle.bench.proofs.RoundSound.{rounds-sound}
use Rattle.laws.specs.Telling.{told_by}
use Rattle.flood.specs.Flood.{here, cross, Within}
use Rattle.assurance.specs.Distribution.{none, carrying, time_crossing, time_window, Crosses, value, HearsTime, InStep, Beat, Distributes, SomeD}
use Rattle.assurance.proofs.Timely.{gets-device}
use Rattle.assurance.proofs.Nearest.{some-d}
use Rattle.assurance.proofs.Distribution.{start-in-step, distributes}
use Rattle.witness.specs.Line.{line, deaf, asked, again}
use Rattle.witness.specs.TimeRate.{Soon}
use Rattle.witness.proofs.Accepted.{line-held, deaf-held}

-- the rounds of a crossing are enough
pub soon : Soon time_crossing
unfolding Soon Distributes
soon plan held master D s rounds at x y = (distributes plan held master D s rounds at x y).comes

-- ---- the example

-- before the second tick port 0 runs, no Time-Code waits at the two devices, and both have the counter 1; a round after it the router has 1 still
record Ready : Type 0 where
  runs : running asked 0 ≡ 1
  idle : (q : ℕ) → q < 16 → time_waits asked q ≡ 0
  count : (d : ℕ) → d < 2 → counter asked d ≡ 1
  late : counter (again (time_crossing - 1)) 1 ≡ 1

-- the same as a test, of the state before the second tick
abbrev test : State → Bool
test s = eqb (running s 0) 1 && every 16 (λ q. eqb (time_waits s q) 0) && every 2 (λ d. eqb (counter s d) 1)

-- it is true, and so is what is said of the router: two rounds are computed
computed : (test asked && eqb (counter (again (time_crossing - 1)) 1) 1) ≡ true
unfolding asked again deaf counted first_waits goes time_goes stamped every up_to table joined bit join leave searched first_from reads may_send may_receive
    ruled reacts_to reacts word put state_of load_for queue_at queue_all_at queue_time queue_time_all called advanced mark fall chosen sent_word sends
    unqueued timed forwarded acted arrived fallen sent_bytes posted arrives reached round
computed = refl

-- so all that holds
ready : Ready
ready =
    let f = simp facts at computed in
    record { runs = f.0.0.0; idle = f.0.0.1; count = f.0.1; late = f.1 }

-- the plan has a node 0
there : 0 < devices deaf
unfolding deaf
there = omega arith

-- ticks, rounds and requests lead from the start to a sound state
asked-sound : Sound deaf asked
unfolding asked
asked-sound =
    let first = tick-sound deaf deaf-held (started deaf) (started-sound deaf deaf-held) 0 there in
    call-sound deaf deaf-held _ (rounds-sound deaf deaf-held (advanced 0 (started deaf)) first 1) 0 0 0 (omega arith) there (omega arith)

-- no Time-Code waits elsewhere
none-waits : (q : ℕ) → q < 256 → time_waits asked q ≡ 0
unfolding deaf
none-waits q h = by-test (exists deaf q) refl
  where
    by-test : (b : Bool) → exists deaf q ≡ b → time_waits asked q ≡ 0
    by-test true e = ready.idle q (omega (arith, owned deaf deaf-held q h e))
    by-test false e = rw (asked-sound.clock.no_word q h e)

-- the router is one crossing away from node 0
to-router : Crosses deaf 0 asked 1 1
unfolding deaf
to-router = cross 0 here (inl refl) (omega arith, ready.runs, refl)

-- a device that a Time-Code gets to is one of the two
small : {n e : ℕ} → Crosses deaf 0 asked n e → e < 2
unfolding deaf
small w = gets-device deaf deaf-held 0 there asked asked-sound 0 (omega arith) w

-- each of them is at most one crossing away
near : (e : ℕ) → e < 2 → (m : ℕ) × (m ≤ 1) × Crosses deaf 0 asked m e
near zero h = (0, omega arith, here)
near (suc zero) h = (1, omega arith, to-router)
near (suc (suc e)) h = absurd (omega arith)

-- all are in step, and the second tick is taken
pub in_step : InStep deaf 0 1 asked
in_step =
    record {
      sound = asked-sound;
      idle = none-waits;
      equal = λ n e w. ready.count e (small w) ∙ sym (ready.count 0 (omega arith));
      within = record { shorter = λ {n} {d = e} w. near e (small w) };
    }

pub ticks-again : Beat deaf 0 1 asked (time_window 1) again
unfolding deaf again up_to
ticks-again =
    record {
      taken = passed (tick_asks deaf 0 asked) [] 0 (deaf-held, (asked-sound, (there, (refl, ((0, omega arith, ready.runs), tt))))) refl;
      enough = omega arith;
      passing = record { begins = none; goes_on = λ t h. none };
    }

-- ---- no fewer rounds

-- a round before the end of its crossing the router has the old value
pub two-needed : (W : ℕ) → W < time_crossing → Soon W → ⊥
unfolding Soon
two-needed W h all =
    omega (arith, ready.late, ready.count 0 (omega arith), all deaf deaf-held 0 1 asked (time_window 1) again in_step ticks-again 1 1 (time_crossing - 1) to-router (omega arith) (omega arith))

-- ---- a host that hears of it: in the first plan node 0 ticks at the start, and node 2 is behind the router

line-there : 0 < devices line
unfolding line
line-there = omega arith

-- there is a D for it
pub far : (D : ℕ) × (D < devices line) × Within (carrying line (started line) 0) D
unfolding SomeD
far = some-d line line-held 0 line-there (started line) (started-sound line line-held)

-- rounds follow the tick, and nothing else does
abbrev pub after : ℕ → State
after t = rounds line t (advanced 0 (started line))

runs-first : running (started line) 0 ≡ 1
unfolding line
runs-first = start-joined line 0 (omega arith) (omega arith)

starts : InStep line 0 far.0 (started line)
starts = start-in-step line line-held 0 far.0 far.2

ticks-first : Beat line 0 far.0 (started line) (time_window far.0) after
unfolding line up_to
ticks-first =
    record {
      taken = passed (tick_asks line 0 (started line)) [] 0 (line-held, (started-sound line line-held, (line-there, (refl, ((0, omega arith, runs-first), tt))))) refl;
      enough = le_refl _;
      passing = record { begins = none; goes_on = λ t h. none };
    }

hears : HearsTime line 0 (started line) 2
unfolding line
hears =
    let way : Crosses line 0 (started line) 1 1 = cross 0 here (inl refl) (omega arith, runs-first, refl) in
    ((2, cross 9 way (inr refl) (omega arith, start-joined line 9 (omega arith) (omega arith), refl)), refl, λ e. omega arith)

-- it is told of the tick once
pub told-once : told_by line of_time 2 (value 0 (started line)) after (time_window far.0) ≡ 1
unfolding Distributes
told-once = (distributes line line-held 0 far.0 (started line) (time_window far.0) after starts ticks-first).told 2 hears

-- What hosts do for other identifiers, and ticks, change nothing that concerns k and no port's turn, and keep the state sound.
use mathlib.Core.Path.{refl, sym, subst, ◌∙◌}
use Prim.Native.Nat.{ℕ, zero, suc, ◌≤◌, ◌<◌}
use native.Mathlib.Decide.{ℕ_discrete}
use native.Mathlib.Omega.{arith}
use Rattle.answers.proofs.Outcomes.{holds}
use Rattle.plan.specs.Reading.{Held}
use Rattle.plan.specs.declared.Plan.{Plan}
use Rattle.state.specs.State.{State, port_at, next_at}
use Rattle.state.specs.Sound.{Sound}
use Rattle.state.proofs.Plans.{few}
use Rattle.calls.specs.Calls.{call_asks, tick_asks}
use Rattle.calls.proofs.Called.{call-sound, tick-sound, tick-left, tick-lately}
use Rattle.bench.specs.Round.{round}
use Rattle.bench.proofs.RoundSound.{round-sound}
use Rattle.laws.specs.Alike.{Alike}
use Rattle.laws.proofs.Apart.{alike_same, call-apart, tick-apart}
use Rattle.assurance.specs.Demand3.{Calls, none, then, tick, Course}
use Rattle.assurance.specs.Between.{After}
use Rattle.assurance.proofs.Taking.{called-took, took-late}
use Rattle.assurance.proofs.Fits.{alike-back}
use Rattle.assurance.proofs.Turns.{SameTurn, turn-same, turn-then}

pub alike_then : {k : ℕ} {s t u : State} → Alike k s t → Alike k t u → Alike k s u
alike_then a b =
    record {
      marks = λ d h. a.marks d h ∙ b.marks d h;
      timers = λ d h. a.timers d h ∙ b.timers d h;
      waits = λ kind q g h. a.waits kind q g h ∙ b.waits kind q g h;
      runs = λ q h. a.runs q h ∙ b.runs q h;
    }

-- what s becomes where nothing that is done concerns k
pub record Beside (plan : Plan) (k : ℕ) (s t : State) : Type 0 where
  pub sound : Sound plan t
  pub like : Alike k s t
  pub turns : (q : ℕ) → q < 256 → SameTurn s t q

module _ (plan : Plan) (held : Held plan) (k : ℕ) (l : k < 32) where
  pub calls-beside : {s t : State} → Sound plan s → Calls plan k s t → Beside plan k s t
  calls-beside {s} x none = record { sound = x; like = alike_same k s; turns = λ q h. turn-same s q }
  calls-beside {s} x (then {t = t} {u = u} kind d j number before g call other) =
      let b = calls-beside x before in
      elim (ℕ_discrete number 0) [
        | yes z ↦
            let asked = holds (call_asks plan kind d j t) refl call.answers z in
            let h = asked.1.1.0 in
            let m = asked.1.1.1.0 in
            subst (Beside plan k s) (sym (call.made z)) (record {
              sound = call-sound plan held t b.sound kind d j g h m;
              like = alike_then b.like (call-apart plan held t b.sound k l kind d j g h m (other z));
              turns = λ q small.
                  let took = called-took plan kind j g m d (omega (arith, h, few plan held)) t b.sound.size in turn-then (b.turns q small) (record { start = took.turns q; late = took-late took q });
            })
        | no n ↦ subst (Beside plan k s) (sym (call.kept n)) b
      ]
  calls-beside {s} x (tick {t = t} {u = u} d number before call) =
      let b = calls-beside x before in
      elim (ℕ_discrete number 0) [
        | yes z ↦
            let h = (holds (tick_asks plan d t) refl call.answers z).1.1.0 in
            let room : d < 32 = omega (arith, h, few plan held) in
            subst (Beside plan k s) (sym (call.made z)) (record {
              sound = tick-sound plan held t b.sound d h;
              like = alike_then b.like (tick-apart plan held t b.sound k l d h);
              turns = λ q small. turn-then (b.turns q small) (record { start = tick-left d room t (port_at q next_at) (omega arith); late = tick-lately d room t b.sound.size q small });
            })
        | no n ↦ subst (Beside plan k s) (sym (call.kept n)) b
      ]

  module _ (rounds : ℕ) (s : State) (at : ℕ → State) (x : Sound plan s) (course : Course plan k rounds s at) where
    pub course-sound : (t : ℕ) → t ≤ rounds → Sound plan (at t)
    course-sound zero h = (calls-beside x course.begins).sound
    course-sound (suc t) h = (calls-beside (round-sound plan held (at t) (course-sound t (omega arith))) (course.goes_on t h)).sound

    pub course-begins : Beside plan k s (at 0)
    course-begins = calls-beside x course.begins

    pub course-goes-on : (t : ℕ) → t < rounds → Beside plan k (round plan (at t)).next (at (suc t))
    course-goes-on t h = calls-beside (round-sound plan held (at t) (course-sound t (omega arith))) (course.goes_on t h)

    -- whatever calls follow the same rounds, k is left alike
    pub course-alike : (t : ℕ) (u : State) → t ≤ rounds → After plan k s at t u → Alike k u (at t)
    course-alike zero u h calls = alike_then (alike-back (calls-beside x calls).like) course-begins.like
    course-alike (suc t) u h calls =
        alike_then (alike-back (calls-beside (round-sound plan held (at t) (course-sound t (omega arith))) calls).like) (course-goes-on t h).like

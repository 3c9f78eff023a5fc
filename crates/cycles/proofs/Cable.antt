-- Wherever a request is taken, the source's cable can be pulled right after it and plugged in again a round later.
use mathlib.Core.Path.{◌≡◌, refl, ◌∙◌}
use mathlib.Core.Bool.{Bool, true, false}
use mathlib.Core.Logic.{inr, ◌≢◌}
use Prim.Native.Nat.{ℕ, zero, suc, ◌+◌, ◌*◌, ◌/◌, ◌%◌, ◌<◌}
use native.Mathlib.Omega.{arith}
use borrow.Author.Tests.{ltb-true}
use Rattle.answers.proofs.Outcomes.{Holds, holds, outcome-done}
use Rattle.lists.specs.Loop.{up_to}
use Rattle.plan.specs.Fields.{nobody}
use Rattle.plan.specs.Reading.{Held}
use Rattle.plan.specs.declared.Plan.{Plan}
use Rattle.state.specs.State.{State, running}
use Rattle.state.specs.Network.{devices, ports_of, peer}
use Rattle.state.specs.Sound.{Sound}
use Rattle.state.proofs.Plans.{few}
use Rattle.calls.specs.Calls.{flag_of, call_asks, called, switched, Links}
use Rattle.calls.specs.Stopping.{LinkStops}
use Rattle.calls.proofs.Called.{call-sound, link-sound}
use Rattle.calls.proofs.Stopping.{link-stops}
use Rattle.bench.specs.Round.{round}
use Rattle.bench.specs.Settling.{rounds}
use Rattle.bench.proofs.RoundSound.{round-sound}
use Rattle.laws.specs.Requested.{AnyCalls, none, link}
use Rattle.assurance.proofs.Taking.{called-took}
use Rattle.assurance.proofs.Choices.{runs-there, runs-joined}
use Rattle.cycles.specs.Cable.{Pulled, OutAndIn}
use Rattle.assurance.proofs.Flags.{round-runs}

module _ (plan : Plan) (held : Held plan) (d p : ℕ) (h : d < devices plan) (l : p < ports_of plan d) (joined : peer plan (8 * d + p) < nobody) where
  -- a link that is not yet what it is to be becomes that
  switches : (runs : Bool) (s : State) → Sound plan s → running s (8 * d + p) ≢ flag_of runs → Links plan d p runs s 0 (switched plan runs (8 * d + p) s)
  switches runs s x other = outcome-done (inr (held, inr (x, inr (h, inr (l, inr (joined, inr (other, refl))))))) refl refl

-- first a, a round later b, and then nothing but rounds
goes : Plan → State → State → ℕ → State
goes plan a b zero = a
goes plan a b (suc t) = rounds plan t b

pub out-and-in : OutAndIn
unfolding OutAndIn flag_of goes up_to LinkStops
out-and-in plan d k total s held x taken = known (holds (call_asks plan 0 d k s) refl taken refl)
  where
    known : Holds (call_asks plan 0 d k s) → Pulled plan d k total s
    known (_, (_, (there, (place, (_, (_, ((p, low, on), _))))))) =
        let small : d < 32 = omega (arith, few plan held) in
        let q = 8 * d + p in
        let device : q / 8 ≡ d = omega arith in
        let number : q % 8 ≡ p = omega arith in
        let has : p < ports_of plan d = rw (device, number) at (ltb-true (q % 8) (ports_of plan (q / 8)) (runs-there plan held x q (omega arith) on)) in
        let joined = runs-joined plan held x q (omega arith) on in
        let t = called plan 0 d k s in
        let y = call-sound plan held s x 0 d k (omega arith) there place in
        let a = switched plan false q t in
        let runs = (called-took plan 0 k (omega arith) place d small s x.size).runs q in
        let out = switches plan held d p there has joined false t y (omega arith) in
        let z = link-sound plan held t y d p there has joined false in
        let stands = round-runs plan held q (omega arith) a z ∙ (link-stops plan d p t a out).flags.0 in
        let b = switched plan true q (round plan a).next in
        let back = switches plan held d p there has joined true (round plan a).next (round-sound plan held a z) (omega arith) in
        record {
          port = p;
          at = goes plan a b;
          out = out;
          back = back;
          course = record {
            held = held;
            sound = x;
            taken = taken;
            begins = link d p false 0 none out;
            goes_on = λ t c. elim t as (λ i. AnyCalls plan d (round plan (goes plan a b i)).next (goes plan a b (suc i))) [ zero ↦ link d p true 0 none back | suc i ↦ none ];
          };
        }

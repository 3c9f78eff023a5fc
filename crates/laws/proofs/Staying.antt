-- What a device holds stays, whatever is called, where its own host's acknowledge is not taken and it is not reset: its bit and its timer.
use mathlib.Core.Path.{◌≡◌, refl, sym, ap, ◌∙◌}
use mathlib.Core.Bool.{Bool, true}
use mathlib.Core.List.{List}
use mathlib.Core.Logic.{◌≢◌}
use Prim.Native.Nat.{ℕ, ◌+◌, ◌*◌, ◌<◌}
use native.Mathlib.Decide.{ℕ_discrete}
use native.Mathlib.Omega.{arith}
use borrow.Author.Tests.{ne_eqb}
use Rattle.answers.specs.Ordered.{Condition, Outcome}
use Rattle.answers.proofs.Outcomes.{Holds, numbered, holds}
use Rattle.bits.specs.Set.{bit}
use Rattle.plan.specs.Fields.{nobody}
use Rattle.plan.specs.Reading.{Held}
use Rattle.plan.specs.declared.Plan.{Plan}
use Rattle.state.specs.State.{State, word, ports_end, register_at, timer_at, register, timer}
use Rattle.state.specs.Network.{devices}
use Rattle.state.specs.Sound.{Sound}
use Rattle.state.specs.Mark.{mark}
use Rattle.state.proofs.Parts.{register_of, timer-of}
use Rattle.state.proofs.Plans.{few, port-there}
use Rattle.state.proofs.Marks.{mark-other}
use Rattle.state.proofs.Waits.{queue-all-left}
use Rattle.calls.specs.Calls.{call_asks, called, advanced, link_asks, switched, reset as calls_reset}
use Rattle.calls.specs.Stopping.{Keeps}
use Rattle.calls.proofs.Called.{call-sound, tick-sound, tick-left, link-sound, reset-sound}
use Rattle.calls.proofs.Stopping.{switched-keeps}
use Rattle.laws.specs.Requested.{AnyCalls, none, host, tick, link, reset}
use Rattle.laws.proofs.Telling.{taking-turned}

module _ (plan : Plan) (held : Held plan) (d k : ℕ) (h : d < devices plan) (l : k < 32) (no_answer : (s : State) → Holds (call_asks plan 1 d k s) → ⊥) where
  small : d < 32
  small = omega (arith, few plan held)

  pub record Stays (s t : State) : Type 0 where
    pub sound : Sound plan t
    pub holds : bit (register t d) k ≡ 1
    pub timed : timer t d k ≡ timer s d k

  onward : {s t u : State} → Stays s t → Stays t u → Stays s u
  onward a b = record { sound = b.sound; holds = b.holds; timed = b.timed ∙ a.timed }

  module _ (s : State) (x : Sound plan s) (on : bit (register s d) k ≡ 1) where
    -- a host's call that is taken is another than d's for k: d holds k already, and its own host acknowledges no k
    another : (kind e j : ℕ) → Holds (call_asks plan kind e j s) → e ≡ d → j ≡ k → ⊥
    another kind e j asked device place =
        let stood = asked.1.1.1.1.1.1.1.1.0 in
        let is : kind ≡ 1 = sym stood ∙ rw (device, place) on in
        no_answer s (rw (is, device, place) at asked)

    pub host-stays : (kind e j : ℕ) → kind < 2 → Holds (call_asks plan kind e j s) → Stays s (called plan kind e j s)
    unfolding called
    host-stays kind e j g asked =
        let there = asked.1.1.0 in
        let place = asked.1.1.1.0 in
        let stood = asked.1.1.1.1.1.1.1.1.0 in
        let e-small : e < 32 = omega (arith, few plan held) in
        record {
          sound = call-sound plan held s x kind e j g there place;
          holds = (taking-turned e j e-small place s x.size plan kind g stood nobody true).others d k small l (another kind e j asked) ∙ on;
          timed =
              queue-all-left kind j (timer_at d k) g (omega (arith, small)) plan.core.permissions e nobody e-small (mark plan kind e j s)
              ∙ mark-other plan kind e j (timer_at d k) s (omega arith) (λ is. another kind e j asked (omega arith) (omega arith));
        }

    pub tick-stays : (e : ℕ) → e < devices plan → Stays s (advanced e s)
    tick-stays e there =
        let left : (i : ℕ) → i < ports_end → word (advanced e s) i ≡ word s i = tick-left e (omega (arith, few plan held)) s in
        record {
          sound = tick-sound plan held s x e there;
          holds = ap (λ r. bit r k) (left (register_at d) (omega (arith, small))) ∙ on;
          timed = left (timer_at d k) (omega (arith, small));
        }

    pub link_stays : (e p : ℕ) (runs : Bool) → Holds (link_asks plan runs e p s) → Stays s (switched plan runs (8 * e + p) s)
    link_stays e p runs asked =
        let port = port-there plan held e p asked.1.1.0 asked.1.1.1.0 in
        let keeps : Keeps plan (8 * e + p) s (switched plan runs (8 * e + p) s) = switched-keeps plan (8 * e + p) s port.0 asked.1.1.1.1.0 runs in
        record {
          sound = link-sound plan held s x e p asked.1.1.0 asked.1.1.1.0 asked.1.1.1.1.0 runs;
          holds = ap (λ r. bit r k) (keeps.registers d small) ∙ on;
          timed = keeps.timers d k small l;
        }

    pub reset-stays : (e : ℕ) → e < devices plan → e ≢ d → Stays s (calls_reset e s)
    reset-stays e there ne =
        record {
          sound = reset-sound plan held s x e there;
          holds = ap (λ r. bit r k) (register_of _ d small ∙ rw (ne_eqb d e (λ o. ne (sym o)))) ∙ on;
          timed = timer-of _ d k small l ∙ rw (ne_eqb d e (λ o. ne (sym o)));
        }

    -- done, it stays by what the call makes; refused, as it is
    pub by_number : {cs : List Condition} {done t : State} {number : ℕ} → numbered cs ≡ true → Outcome cs s done number t → (Holds cs → Stays s done) → Stays s t
    by_number {cs} {number = number} ok call stays =
        elim (ℕ_discrete number 0) [
          | yes z ↦ rw (call.made z) (stays (holds cs ok call.answers z))
          | no n ↦ rw (call.kept n) (record { sound = x; holds = on; timed = refl })
        ]

  pub calls-stay : {s t : State} → Sound plan s → bit (register s d) k ≡ 1 → AnyCalls plan d s t → Stays s t
  calls-stay x on none = record { sound = x; holds = on; timed = refl }
  calls-stay x on (host {t = t} kind e j number before g call) =
      let y = calls-stay x on before in onward y (by_number t y.sound y.holds refl call (host-stays t y.sound y.holds kind e j g))
  calls-stay x on (tick {t = t} e number before call) =
      let y = calls-stay x on before in onward y (by_number t y.sound y.holds refl call (λ asked. tick-stays t y.sound y.holds e asked.1.1.0))
  calls-stay x on (link {t = t} e p runs number before call) =
      let y = calls-stay x on before in onward y (by_number t y.sound y.holds refl call (link_stays t y.sound y.holds e p runs))
  calls-stay x on (reset {t = t} e number before ne call) =
      let y = calls-stay x on before in onward y (by_number t y.sound y.holds refl call (λ asked. reset-stays t y.sound y.holds e asked.1.1.0 ne))

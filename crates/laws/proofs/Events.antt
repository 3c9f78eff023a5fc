-- Only a timer or a reset clears the bit of an event: no acknowledge of one is taken, by a call or where it arrives.
use mathlib.Core.Path.{◌≡◌, refl}
use Prim.Native.Nat.{ℕ, ◌+◌, ◌-◌, ◌*◌, ◌<◌}
use native.Mathlib.Decide.{ℕ_discrete}
use native.Mathlib.Omega.{arith}
use Rattle.answers.proofs.Outcomes.{Holds}
use Rattle.bits.specs.Set.{bit}
use Rattle.device.proofs.Rule.{event-unused}
use Rattle.plan.specs.Reading.{Held}
use Rattle.plan.specs.declared.Plan.{Plan}
use Rattle.state.specs.State.{State, register, timer}
use Rattle.state.specs.Network.{devices, events}
use Rattle.state.specs.Sound.{Sound}
use Rattle.state.proofs.Plans.{few}
use Rattle.calls.specs.Calls.{call_asks}
use Rattle.bench.specs.Round.{round as round_round, sent_bytes}
use Rattle.laws.specs.Timing.{before, NoneAccepted}
use Rattle.laws.specs.Events.{Step, host, tick, link, reset, round, Clears, OnlyTimers}
use Rattle.laws.proofs.Accepting.{arrives-opens}
use Rattle.laws.proofs.Timers.{runs_on, round-falls}
use Rattle.laws.proofs.Staying.{host-stays, tick-stays, link_stays, reset-stays, by_number}

module _ (plan : Plan) (held : Held plan) (d k : ℕ) (h : d < devices plan) (l : k < 32) (event : bit (events plan) k ≡ 1) where
  -- no host's is taken
  pub no_answer : (s : State) → Holds (call_asks plan 1 d k s) → ⊥
  no_answer s (_, (_, (_, (_, (_, (used, _)))))) = event-unused (events plan) k event used

  -- and none that arrives is
  pub none-accepted : (s : State) → NoneAccepted plan s d 1 k
  none-accepted s p b a =
      let n = few plan held in
      event-unused (events plan) k event (arrives-opens plan (sent_bytes plan s) (8 * d + p) (before plan s (8 * d + p)) 1 k (omega arith) l a.0 a.1).used

  module _ (s : State) (x : Sound plan s) (on : bit (register s d) k ≡ 1) where
    -- a timer that does not end keeps the bit
    pub round_keeps : (timer s d k ≡ 1 → ⊥) → bit (register (round_round plan s).next d) k ≡ 1
    unfolding round_round
    round_keeps runs =
        let t = (x.timers d k h (omega (arith, few plan held)) l).on on in
        (round-falls plan held s x d k h l (timer s d k - 1) (omega arith) (runs_on plan held s x d k h l (omega arith) (none-accepted s))).runs (omega arith)

    only : (t : State) (step : Step plan s t) → bit (register t d) k ≡ 0 → Clears plan d k s t step
    unfolding Clears
    only t (host kind e j number g call) off =
        absurd (omega (arith, (by_number plan held d k h l no_answer s x on refl call (host-stays plan held d k h l no_answer s x on kind e j g)).holds))
    only t (tick e number call) off =
        absurd (omega (arith, (by_number plan held d k h l no_answer s x on refl call (λ asked. tick-stays plan held d k h l no_answer s x on e asked.1.1.0)).holds))
    only t (link e p runs number call) off =
        absurd (omega (arith, (by_number plan held d k h l no_answer s x on refl call (link_stays plan held d k h l no_answer s x on e p runs)).holds))
    only t (reset e number call) off =
        elim (ℕ_discrete e d) [
          | yes is ↦ elim (ℕ_discrete number 0) [
            | yes z ↦ (is, z)
            | no ne ↦ absurd (omega (arith, (rw (call.kept ne) at off)))
          ]
          | no ne ↦ absurd (omega (arith, (by_number plan held d k h l no_answer s x on refl call (λ asked. reset-stays plan held d k h l no_answer s x on e asked.1.1.0 ne)).holds))
        ]
    only t round off =
        elim (ℕ_discrete (timer s d k) 1) [
          | yes is ↦ is
          | no ne ↦ absurd (omega (arith, round_keeps ne))
        ]

pub only-timers : OnlyTimers
unfolding OnlyTimers
only-timers plan d k s t step held x h l event on off = only plan held d k h l event s x on t step off

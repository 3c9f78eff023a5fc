-- RULES, "Events": only a timer or a reset clears the bit of an event.
use Rattle.std.specs.Prelude.{◌≡◌, Bool, ℕ, ◌<◌}
use Rattle.bits.specs.Set.{bit}
use Rattle.plan.specs.Reading.{Held}
use Rattle.plan.specs.declared.Plan.{Plan}
use Rattle.state.specs.State.{State, register, timer}
use Rattle.state.specs.Network.{devices, events}
use Rattle.state.specs.Sound.{Sound}
use Rattle.calls.specs.Calls.{Takes, Ticks, Links, Resets}
use Rattle.bench.specs.Round.{round as round_round}

-- what can happen to a state: a call, taken or refused (a request or an acknowledge of any identifier, a tick, a link, a reset), or a round
pub data Step (plan : Plan) (s : State) : State → Type 0 where
  host : {t : State} (kind e j number : ℕ) → kind < 2 → Takes plan kind e j s number t → Step plan s t
  tick : {t : State} (e number : ℕ) → Ticks plan e s number t → Step plan s t
  link : {t : State} (e p : ℕ) (runs : Bool) (number : ℕ) → Links plan e p runs s number t → Step plan s t
  reset : {t : State} (e number : ℕ) → Resets plan e s number t → Step plan s t
  round : Step plan s (round_round plan s).next

-- it is a reset of device d that is taken, or a round in which the timer of k ends there
unfoldable pub Clears : (plan : Plan) (d k : ℕ) (s t : State) → Step plan s t → Type 0
Clears plan d k s t (reset e number call) = (e ≡ d) × (number ≡ 0)
Clears plan d k s t round = timer s d k ≡ 1
Clears plan d k s t (host kind e j number g call) = ⊥
Clears plan d k s t (tick e number call) = ⊥
Clears plan d k s t (link e p runs number call) = ⊥

-- where the bit of an event was 1 and is 0 afterwards, it was so cleared
unfoldable pub OnlyTimers : Type 0
OnlyTimers =
    (plan : Plan) (d k : ℕ) (s t : State) (step : Step plan s t) → Held plan → Sound plan s → d < devices plan → k < 32 → bit (events plan) k ≡ 1
    → bit (register s d) k ≡ 1 → bit (register t d) k ≡ 0 → Clears plan d k s t step

-- RULES, "When a link stops": in any network the cable of a source can be pulled after its request and plugged in again, so that there is something of
-- which `HoldsOn` and `IsHeard` speak (`laws`, `Requested`).
use Rattle.std.specs.Prelude.{true, false, ℕ}
use Rattle.answers.specs.Ordered.{Ordered}
use Rattle.plan.specs.Reading.{Held}
use Rattle.plan.specs.declared.Plan.{Plan}
use Rattle.state.specs.State.{State}
use Rattle.state.specs.Sound.{Sound}
use Rattle.calls.specs.Calls.{call_asks, called, Links}
use Rattle.bench.specs.Round.{round}
use Rattle.laws.specs.Requested.{Requested}

-- by one of its ports: out right after the request, and in again after a round; both calls answer 0
pub record Pulled (plan : Plan) (d k rounds : ℕ) (s : State) : Type 0 where
  pub port : ℕ
  pub at : ℕ → State
  pub out : Links plan d port false (called plan 0 d k s) 0 (at 0)
  pub back : Links plan d port true (round plan (at 0)).next 0 (at 1)
  pub course : Requested plan d k rounds s at

-- wherever a request is taken, and for any number of rounds
unfoldable pub OutAndIn : Type 0
OutAndIn = (plan : Plan) (d k rounds : ℕ) (s : State) → Held plan → Sound plan s → Ordered (call_asks plan 0 d k s) 0 → Pulled plan d k rounds s

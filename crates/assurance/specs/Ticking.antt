-- No rules: rounds before each of which the host of device d ticks, for examples in which Time-Codes are about.
use Rattle.std.specs.Prelude.{ℕ}
use Rattle.lists.specs.Loop.{up_to}
use Rattle.plan.specs.declared.Plan.{Plan}
use Rattle.state.specs.State.{State}
use Rattle.calls.specs.Calls.{advanced}
use Rattle.bench.specs.Round.{round}

-- t of them, from state u on; a tick more stands before the next one
unfoldable pub ticking : Plan → ℕ → State → ℕ → State
ticking plan d u t = up_to (λ i s. advanced d (round plan s).next) t (advanced d u)

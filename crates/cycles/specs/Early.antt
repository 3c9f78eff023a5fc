-- RULES, "The whole cycle": what is so of an acknowledge before demand 3's window ends.
use Rattle.std.specs.Prelude.{◌≡◌, ℕ, ◌<◌}
use Rattle.answers.specs.Ordered.{Ordered}
use Rattle.bits.specs.Set.{bit}
use Rattle.plan.specs.declared.Plan.{Plan}
use Rattle.state.specs.State.{State}
use Rattle.state.specs.Network.{handler}
use Rattle.calls.specs.Calls.{call_asks, called}
use Rattle.bench.specs.Round.{of_interrupt}
use Rattle.laws.specs.Telling.{told_by}
use Rattle.assurance.specs.Demand3.{Course, window, Given}

-- under demand 3's conditions node `to`, a handler of k that has been told of it once, acknowledges it after t rounds, before the window ends; and
-- in so many rounds after that its host is told of the same interrupt again. `at` is how it goes on if nobody acknowledges, and `back` leaves it
-- after t rounds
pub record Early (plan : Plan) (k from to D t rounds : ℕ) (s : State) (at back : ℕ → State) : Type 0 where
  pub request : Given plan k from D s at
  pub early : t < window D
  pub handles : bit (handler plan to) k ≡ 1
  pub told : told_by plan of_interrupt to k at t ≡ 1
  -- the acknowledge is taken, and nobody requests or acknowledges k from then on
  pub taken : Ordered (call_asks plan 1 to k (at t)) 0
  pub course : Course plan k rounds (called plan 1 to k (at t)) back
  pub again : told_by plan of_interrupt to k back rounds ≡ 1

-- No rules: the cause at a port as one computed number, by how many crossings away each device is. Nothing here has to be believed.
use Rattle.std.specs.Prelude.{Bool, cond, not, ◌&&◌, List, ℕ, ◌*◌, ◌/◌, eqb, ltb, get_or, Option, Some, None}
use Rattle.bits.specs.Set.{bit}
use Rattle.device.specs.Permissions.{may_send, may_receive}
use Rattle.plan.specs.Fields.{nobody}
use Rattle.plan.specs.declared.Plan.{Plan}
use Rattle.state.specs.State.{State, running}
use Rattle.state.specs.Network.{peer_in}
use Rattle.ways.specs.Cut.{number_of}
use Rattle.ways.specs.Inner.Layers.{at}
use Rattle.ways.specs.declared.Cause.{Cause}

-- the number at a port, which is 0 where there is no cause
abbrev pub cause_in : Option Cause → ℕ
cause_in (Some c) = number_of c
cause_in None = 0

-- the causes in their order: stopped, may not send, may not receive, barred, does not forward
unfoldable pub first_failing : Bool → Bool → Bool → Bool → ℕ
first_failing runs sends takes admits = cond runs (cond sends (cond takes (cond admits 4 5) 3) 2) 1

module _ (permissions : List ℕ) (peers : List (List ℕ)) (barred : List ℕ) (s : State) (far : List ℕ) (k : ℕ) where
  unfoldable pub cause_at : ℕ → ℕ
  cause_at q =
      cond (ltb (peer_in peers q) nobody && ltb (at far (q / 8)) 32 && not (ltb (at far (peer_in peers q / 8)) 32))
      (first_failing (eqb (running s q) 1) (may_send 0 (get_or permissions q 0)) (may_receive 0 (get_or permissions (peer_in peers q) 0))
      (eqb (bit (get_or barred (2 * peer_in peers q) 0) k) 0))
      0

-- by a plan
abbrev pub caused : Plan → State → List ℕ → ℕ → ℕ → ℕ
caused plan = cause_at plan.core.permissions plan.peers plan.barred

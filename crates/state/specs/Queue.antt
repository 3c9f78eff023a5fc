-- RULES, "State": a code is queued at a port that runs and may send its kind: k joins the waiting set of the kind, and leaves that of the other.
-- A Time-Code is queued at a port that runs.
use Rattle.std.specs.Prelude.{Bool, cond, ◌&&◌, List, ℕ, ◌+◌, ◌-◌, ◌*◌, eqb, ltb, length, get_or}
use Rattle.lists.specs.Loop.{up_to}
use Rattle.bits.specs.Set.{join, leave}
use Rattle.device.specs.Permissions.{may_send}
use Rattle.plan.specs.declared.Plan.{Plan}
use Rattle.state.specs.State.{State, words, put, port_at, waiting, running, time_at, lately}

-- in the state, port q with its permissions: it runs and may send that kind
abbrev pub sends_at : ℕ → ℕ → ℕ → State → Bool
sends_at permissions kind q s = eqb (running s q) 1 && may_send kind permissions

-- k is queued there as a code of the kind; 1 - kind is the other kind
unfoldable pub queue_at : ℕ → ℕ → ℕ → ℕ → State → State
queue_at permissions kind k q s =
    cond (sends_at permissions kind q s)
    (put (put s (port_at q kind) (join (waiting s kind q) k)) (port_at q (1 - kind)) (leave (waiting s (1 - kind) q) k))
    s

-- at port p of device d, by the permissions of all ports; the port `but` is left out, and none is where `but` is nobody
abbrev pub queue_but : List ℕ → ℕ → ℕ → ℕ → ℕ → ℕ → State → State
queue_but permissions kind k d but p s =
    cond (eqb (8 * d + p) but) s (queue_at (get_or permissions (8 * d + p) 0) kind k (8 * d + p) s)

-- at every port of device d but that one
unfoldable pub queue_all_at : List ℕ → ℕ → ℕ → ℕ → ℕ → State → State
queue_all_at permissions kind k d but s = up_to (queue_but permissions kind k d but) 8 s

-- in any area: where it is no state, or there is no such device or kind, nothing changes
unfoldable pub queue_in : List ℕ → ℕ → ℕ → ℕ → ℕ → State → State
queue_in permissions kind k d but s =
    cond (eqb (length s) words && ltb d 32 && ltb kind 2) (queue_all_at permissions kind k d but s) s

-- by a plan
abbrev pub queue_all : Plan → ℕ → ℕ → ℕ → ℕ → State → State
queue_all plan kind k = queue_all_at plan.core.permissions kind k

-- ---- Time-Codes: the one with value v waits at port q if it runs, as its value plus 1, in place of the one that waited there

unfoldable pub queue_time : ℕ → ℕ → State → State
queue_time v q s = cond (eqb (running s q) 1) (put s (time_at q) (128 * lately s q + (v + 1))) s

-- at port p of device d; the port `but` is left out
abbrev pub queue_time_but : ℕ → ℕ → ℕ → ℕ → State → State
queue_time_but v d but p s = cond (eqb (8 * d + p) but) s (queue_time v (8 * d + p) s)

-- at every port of device d but that one
unfoldable pub queue_time_all : ℕ → ℕ → ℕ → State → State
queue_time_all v d but s = up_to (queue_time_but v d but) 8 s

-- in any area: where it is no state, or there is no such device, nothing changes
unfoldable pub queue_time_in : ℕ → ℕ → ℕ → State → State
queue_time_in v d but s = cond (eqb (length s) words && ltb d 32) (queue_time_all v d but s) s

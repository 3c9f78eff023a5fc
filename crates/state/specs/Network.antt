-- RULES, "Plan file" and "Loads": what a plan says of its devices and ports, and of the loads of their timers. Port p of device d is q = 8 x d + p.
use Rattle.std.specs.Prelude.{Bool, cond, ◌&&◌, List, [], ℕ, ◌+◌, ◌*◌, ◌/◌, ◌%◌, eqb, ltb, get_or}
use Rattle.plan.specs.Header.{pair_at}
use Rattle.plan.specs.declared.Plan.{Plan}

-- the port at the other end of port q, or nobody
abbrev pub peer_in : List (List ℕ) → ℕ → ℕ
peer_in peers q = get_or (get_or peers (q / 8) []) (q % 8) 0

-- what the timer of identifier k is loaded with at a device of a role: the load that k has of its own, or, where that is 0, the common one
unfoldable pub load_for : List ℕ → ℕ → ℕ → ℕ
load_for loads role k = let own = get_or loads (pair_at k role) 0 in cond (eqb own 0) (get_or loads role 0) own

module _ (plan : Plan) where
  abbrev pub devices : ℕ
  devices = plan.core.devices

  abbrev pub role : ℕ → ℕ
  role d = get_or plan.core.role d 0

  abbrev pub router : ℕ → Bool
  router d = eqb (role d) 1

  -- how many ports device d has; an absent device has none
  abbrev pub ports_of : ℕ → ℕ
  ports_of d = get_or plan.core.ports d 0

  -- a port that its device has
  abbrev pub exists : ℕ → Bool
  exists q = ltb (q % 8) (ports_of (q / 8))

  abbrev pub peer : ℕ → ℕ
  peer q = peer_in plan.peers q

  abbrev pub permissions : ℕ → ℕ
  permissions q = get_or plan.core.permissions q 0

  -- what port q bars of codes of a kind, as a set
  abbrev pub bars : ℕ → ℕ → ℕ
  bars kind q = get_or plan.barred (2 * q + kind) 0

  -- a port that a router of the plan has: only such a port bars anything, and counts what it drops
  abbrev pub guards : ℕ → Bool
  guards q = ltb (q / 8) devices && router (q / 8) && exists q

  abbrev pub source : ℕ → ℕ
  source d = get_or plan.core.source d 0

  abbrev pub handler : ℕ → ℕ
  handler d = get_or plan.core.handler d 0

  -- the identifiers that nobody acknowledges
  abbrev pub events : ℕ
  events = plan.core.events

  abbrev pub load_of : ℕ → ℕ → ℕ
  load_of d k = load_for plan.core.loads (role d) k

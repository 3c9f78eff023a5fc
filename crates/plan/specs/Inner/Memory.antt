-- No rule: what a right plan looks like in memory, as one computed test. Nothing here has to be believed; `BothWays` proves that it is true
-- exactly of the plans that some accepted file holds.
use Rattle.std.specs.Prelude.{Bool, cond, ◌&&◌, List, [], ℕ, ◌+◌, ◌*◌, min, eqb, ltb, leb, get_or}
use Rattle.lists.specs.Table.{every}
use Rattle.plan.specs.Fields.{ports_fit, masks_fit, master_is_node, bar_fits, nobody, joins, sources_fit}
use Rattle.plan.specs.Header.{header_of, header_fits}
use Rattle.plan.specs.declared.Core.{Core}
use Rattle.plan.specs.declared.Plan.{Plan}

-- what stands in the peers at a device and a port
abbrev pub peer_at : List (List ℕ) → ℕ → ℕ → ℕ
peer_at peers d p = get_or (get_or peers d []) p 0

abbrev pub at : List ℕ → ℕ → ℕ
at l d = get_or l d 0

-- an existing port has a peer among n devices and permissions up to 15, or neither; an absent one neither
unfoldable pub port_right : ℕ → ℕ → ℕ → ℕ → ℕ → Bool
port_right n ports p peer permissions =
    cond (ltb p ports && ltb peer (8 * n)) (leb permissions 15) (eqb peer nobody && eqb permissions 0)

-- a device's numbers fit its role, and its role the master; the numbers of an absent device are 0
unfoldable pub device_right : ℕ → ℕ → ℕ → ℕ → ℕ → ℕ → ℕ → Bool
device_right n master d role ports source handler =
    cond (ltb d n)
    (ports_fit role ports && masks_fit role source handler && master_is_node master d role)
    (eqb role 0 && eqb ports 0 && eqb source 0 && eqb handler 0)

-- how many of the 16 masks of a device, those in front, may be any
unfoldable pub free_masks : ℕ → ℕ → ℕ
free_masks role ports = cond (eqb role 1) (min (2 * ports) 16) 0

-- device d, with its ports and what they bar
unfoldable pub row_right : Core → List (List ℕ) → List ℕ → ℕ → Bool
row_right core peers barred d =
    device_right core.devices core.master d (at core.role d) (at core.ports d) (at core.source d) (at core.handler d)
    && every 8 (λ p. port_right core.devices (at core.ports d) p (peer_at peers d p) (at core.permissions (8 * d + p)))
    && every 16 (λ j. bar_fits (at core.role d) (at core.ports d) j (at barred (16 * d + j)))

-- the whole plan
unfoldable pub right : Plan → Bool
right plan =
    header_fits (header_of plan.core)
    && every 32 (row_right plan.core plan.peers plan.barred)
    && every plan.core.devices (λ d. every 8 (joins (at plan.core.ports) (peer_at plan.peers) d))
    && sources_fit plan.core.events (at plan.core.source) plan.core.devices

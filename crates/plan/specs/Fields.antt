-- RULES, "Plan file": the fields of a device's block, and what the numbers of a plan may be.
use Rattle.std.specs.Prelude.{Bool, cond, not, ◌&&◌, ◌||◌, List, [], ◌∷◌, ◌++◌, ℕ, ◌+◌, ◌*◌, ◌/◌, ◌%◌, eqb, ltb, leb}
use Rattle.std.specs.Int.Bits.{bit_and}
use Rattle.lists.specs.Table.{every, joined}
use Rattle.plan.specs.Block.{Field, field, number_in, kind_field}

-- ---- block 0

-- 1 to 32 devices; loads of at least 1, the routers' not above the nodes'
unfoldable pub devices_fit : ℕ → Bool
devices_fit n = leb 1 n && leb n 32

unfoldable pub loads_fit : ℕ → ℕ → Bool
loads_fit router node = leb 1 router && leb 1 node && leb router node

-- the loads of an identifier: two zeros, where it takes the common ones, or loads as those have to be
unfoldable pub pair_fits : ℕ → ℕ → Bool
pair_fits router node = (eqb router 0 && eqb node 0) || loads_fit router node

-- the master is one of n devices, as its number plus 1, or there is none, 0
unfoldable pub master_fits : ℕ → ℕ → Bool
master_fits n master = leb master n

-- ---- the block of a device

abbrev pub number_field : Field
number_field = field 1 1

abbrev pub role_field : Field
role_field = field 2 1

abbrev pub ports_field : Field
ports_field = field 3 1

abbrev pub source_field : Field
source_field = field 4 4

abbrev pub handler_field : Field
handler_field = field 8 4

-- those of the entry of port p: the peer's device, the peer's port, the permissions, and one that has to be zero
abbrev pub entry_field : ℕ → ℕ → Field
entry_field p j = field (12 + 4 * p + j) 1

abbrev pub entry_fields : ℕ → List Field
entry_fields p = entry_field p 0 ∷ entry_field p 1 ∷ entry_field p 2 ∷ entry_field p 3 ∷ []

-- what port p bars of codes of a kind, interrupts (0) or acknowledges (1), is mask j = 2 x p + kind
abbrev pub bar_field : ℕ → Field
bar_field j = field (44 + 4 * j) 4

-- all of them, by place
abbrev pub own_fields : List Field
own_fields = kind_field ∷ number_field ∷ role_field ∷ ports_field ∷ source_field ∷ handler_field ∷ []

unfoldable pub device_fields : List Field
device_fields = own_fields ++ joined 8 entry_fields ++ joined 16 (λ j. bar_field j ∷ [])

-- what they hold
abbrev pub role_in : List ℕ → ℕ
role_in s = number_in s role_field

abbrev pub ports_in : List ℕ → ℕ
ports_in s = number_in s ports_field

abbrev pub source_in : List ℕ → ℕ
source_in s = number_in s source_field

abbrev pub handler_in : List ℕ → ℕ
handler_in s = number_in s handler_field

abbrev pub entry : List ℕ → ℕ → ℕ → ℕ
entry s p j = number_in s (entry_field p j)

abbrev pub bar_in : List ℕ → ℕ → ℕ
bar_in s j = number_in s (bar_field j)

-- a node (0) has one or two ports, a router (1) one to eight; there is no other role
unfoldable pub ports_fit : ℕ → ℕ → Bool
ports_fit role ports = leb role 1 && leb 1 ports && leb ports (cond (eqb role 0) 2 8)

-- a node's masks have no common bit, a router's are both 0
unfoldable pub masks_fit : ℕ → ℕ → ℕ → Bool
masks_fit role source handler = cond (eqb role 0) (eqb (bit_and source handler) 0) (eqb source 0 && eqb handler 0)

-- a master is a node: device d has that role, or is not the master
unfoldable pub master_is_node : ℕ → ℕ → ℕ → Bool
master_is_node master d role = eqb role 0 || not (eqb master (d + 1))

-- 255, 255, 0, 0
unfoldable pub unconnected : List ℕ → ℕ → Bool
unconnected s p = eqb (entry s p 0) 255 && eqb (entry s p 1) 255 && eqb (entry s p 2) 0 && eqb (entry s p 3) 0

-- a device below n, a port below 8, permissions 0 to 15, zero
unfoldable pub connected : ℕ → List ℕ → ℕ → Bool
connected n s p = ltb (entry s p 0) n && ltb (entry s p 1) 8 && leb (entry s p 2) 15 && eqb (entry s p 3) 0

-- an existing port is connected or not, an absent one is not
unfoldable pub entry_fits : ℕ → List ℕ → ℕ → Bool
entry_fits n s p = cond (ltb p (ports_in s)) (connected n s p || unconnected s p) (unconnected s p)

-- a router's port may bar anything; a node's port, and one that is absent, bars nothing
unfoldable pub bar_fits : ℕ → ℕ → ℕ → ℕ → Bool
bar_fits role ports j mask = (eqb role 1 && ltb (j / 2) ports) || eqb mask 0

-- those of device d, one of n
unfoldable pub device_fits : ℕ → ℕ → ℕ → List ℕ → Bool
device_fits n master d s =
    ports_fit (role_in s) (ports_in s)
    && masks_fit (role_in s) (source_in s) (handler_in s)
    && master_is_node master d (role_in s)
    && every 8 (entry_fits n s)
    && every 16 (λ j. bar_fits (role_in s) (ports_in s) j (bar_in s j))

-- ---- sources

-- of two devices with these masks: each identifier that both have is an event
unfoldable pub share_events : ℕ → ℕ → ℕ → Bool
share_events events a b = eqb (bit_and (bit_and a b) events) (bit_and a b)

-- so it is of any two of n devices: no identifier but an event has two sources
unfoldable pub sources_fit : ℕ → (ℕ → ℕ) → ℕ → Bool
sources_fit events source n = every n (λ e. every e (λ d. share_events events (source d) (source e)))

-- ---- connections

-- the number for no peer
abbrev pub nobody : ℕ
nobody = 256

-- the peer of port p: 8 x its device + its port, or nobody
unfoldable pub peer_number : List ℕ → ℕ → ℕ
peer_number s p = cond (eqb (entry s p 0) 255) nobody (8 * entry s p 0 + entry s p 1)

-- of what each device's number of ports and each port's peer are: the connection of port p of device d, if it has one, leads to a
-- port that exists, that points back, and that is not the port itself
unfoldable pub joins : (ℕ → ℕ) → (ℕ → ℕ → ℕ) → ℕ → ℕ → Bool
joins ports peer d p =
    let q = peer d p in
    eqb q nobody || (ltb (q % 8) (ports (q / 8)) && eqb (peer (q / 8) (q % 8)) (8 * d + p) && not (eqb q (8 * d + p)))

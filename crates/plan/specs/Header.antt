-- RULES, "Plan file": block 0, its fields and what they may hold; and the part of a plan in memory that it says.
use Rattle.std.specs.Prelude.{◌≡◌, Bool, ◌&&◌, List, [], ◌∷◌, ◌++◌, ℕ, ◌+◌, ◌*◌, get_or, replicate}
use Rattle.lists.specs.Table.{every, joined}
use Rattle.plan.specs.Block.{Field, field, number_in, kind_field}
use Rattle.plan.specs.Fields.{devices_fit, loads_fit, pair_fits, master_fits}
use Rattle.plan.specs.declared.Core.{Core}
use Rattle.plan.specs.declared.Header.{Header}

-- ---- the fields

abbrev pub devices_field : Field
devices_field = field 1 1

abbrev pub router_load_field : Field
router_load_field = field 2 2

abbrev pub node_load_field : Field
node_load_field = field 4 2

abbrev pub events_field : Field
events_field = field 6 4

abbrev pub master_field : Field
master_field = field 10 1

-- the pair of identifier k: the loads that it has of its own
abbrev pub router_pair_field : ℕ → Field
router_pair_field k = field (16 + 4 * k) 2

abbrev pub node_pair_field : ℕ → Field
node_pair_field k = field (18 + 4 * k) 2

-- those in front of the pairs, those of a pair, and all of them, by place
abbrev pub common_fields : List Field
common_fields = kind_field ∷ devices_field ∷ router_load_field ∷ node_load_field ∷ events_field ∷ master_field ∷ []

abbrev pub pair_fields : ℕ → List Field
pair_fields k = router_pair_field k ∷ node_pair_field k ∷ []

unfoldable pub header_fields : List Field
header_fields = common_fields ++ joined 32 pair_fields

-- ---- what they hold: in block 0, and in a plan; the node's load stands first, the common loads before the pairs

abbrev pub pair_in : List ℕ → ℕ → List ℕ
pair_in s k = number_in s (node_pair_field k) ∷ number_in s (router_pair_field k) ∷ []

-- the place of a role's load in the pair of identifier k: 0 is a node, 1 a router
abbrev pub pair_at : ℕ → ℕ → ℕ
pair_at k role = 2 + (2 * k + role)

abbrev pub header_in : List ℕ → Header
header_in s =
    record {
      devices = number_in s devices_field;
      master = number_in s master_field;
      events = number_in s events_field;
      loads = number_in s node_load_field ∷ number_in s router_load_field ∷ joined 32 (pair_in s);
    }

abbrev pub header_of : Core → Header
header_of core = record { devices = core.devices; master = core.master; events = core.events; loads = core.loads }

abbrev pub no_header : Header
no_header = record { devices = 0; master = 0; events = 0; loads = replicate 66 0 }

-- two that say the same in each field
abbrev pub SameHeader : Header → Header → Type 0
SameHeader a b = (a.devices ≡ b.devices) × (a.master ≡ b.master) × (a.events ≡ b.events) × (a.loads ≡ b.loads)

pub same-header : {a b : Header} → SameHeader a b → a ≡ b
same-header e = λ i. record { devices = e.0 i; master = e.1 i; events = e.2 i; loads = e.3 i }

-- the number of each field, by place; a header is of kind 1
abbrev pub common_numbers : Header → List ℕ
common_numbers h = 1 ∷ h.devices ∷ get_or h.loads 1 0 ∷ get_or h.loads 0 0 ∷ h.events ∷ h.master ∷ []

abbrev pub pair_numbers : List ℕ → ℕ → List ℕ
pair_numbers loads k = get_or loads (pair_at k 1) 0 ∷ get_or loads (pair_at k 0) 0 ∷ []

-- ---- what they may hold

abbrev pub header_fits : Header → Bool
header_fits h =
    devices_fit h.devices
    && loads_fit (get_or h.loads 1 0) (get_or h.loads 0 0)
    && master_fits h.devices h.master
    && every 32 (λ k. pair_fits (get_or h.loads (pair_at k 1) 0) (get_or h.loads (pair_at k 0) 0))

-- ---- the numbers of a plan: those of block 0, and lists over devices and ports

abbrev pub core_with : Header → (role ports source handler permissions : List ℕ) → Core
core_with h role ports source handler permissions =
    record {
      devices = h.devices;
      master = h.master;
      events = h.events;
      loads = h.loads;
      role = role;
      ports = ports;
      source = source;
      handler = handler;
      permissions = permissions;
    }

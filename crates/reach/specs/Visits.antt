-- RULES, "Reach": the walk by visits. It goes from a device to its ports, and from a port to the device that it leads to, and never
-- enters a device again; and it counts the ports that it examines.
use Rattle.std.specs.Prelude.{Bool, cond, ◌&&◌, List, ℕ, zero, suc, ◌+◌, ◌*◌, ◌/◌, eqb, ltb, length, get_or}
use Rattle.lists.specs.Table.{table}
use Rattle.bits.specs.Set.{bit, join}
use Rattle.device.specs.Permissions.{may_send, may_receive}
use Rattle.plan.specs.Fields.{nobody}
use Rattle.plan.specs.declared.Plan.{Plan}
use Rattle.state.specs.State.{State, words, running}
use Rattle.state.specs.Network.{peer_in}
use Rattle.reach.specs.declared.visits.Seen.{Seen}

-- ---- by what stands in the arrays of a plan

-- for interrupts of identifier k, as in `Walk`; what port q bars of interrupts stands at 2 x q
module _ (permissions : List ℕ) (peers : List (List ℕ)) (barred : List ℕ) (s : State) (k : ℕ) where
  -- port q leads somewhere
  abbrev pub leads : ℕ → Bool
  leads q =
      eqb (running s q) 1 && may_send 0 (get_or permissions q 0) && ltb (peer_in peers q) nobody && may_receive 0 (get_or permissions (peer_in peers q) 0)
      && eqb (bit (get_or barred (2 * peer_in peers q) 0) k) 0

  -- the device that port q leads to, or 32
  unfoldable pub ahead : ℕ → ℕ
  ahead q = cond (leads q) (peer_in peers q / 8) 32

  -- of all ports; in an area that is no state nothing leads anywhere
  unfoldable pub ahead_all : List ℕ
  ahead_all = table 256 (λ q. cond (eqb (length s) words) (ahead q) 32)

-- ---- by what is ahead of each port

-- device d exists and is not in the set
abbrev pub is_new : ℕ → ℕ → Bool
is_new set d = ltb d 32 && eqb (bit set d) 0

-- what was seen: devices, as a set, and how many ports were examined
abbrev pub seen : ℕ → ℕ → Seen
seen set examined = record { set = set; examined = examined }

-- one port more was examined, and those that the visit behind it did
abbrev pub onward : Seen → Seen → Seen
onward before behind = seen behind.set (before.examined + 1 + behind.examined)

-- The visit of a device takes the set of the devices met so far; it gives the set with those that it finds, and the ports that it examined.
-- That of a port goes on from what was seen by the ports before it. The first number is how deep visits may go.
module _ (role ports : List ℕ) (to : ℕ → ℕ) where
  unfoldable mutual
    -- device d joins, if it is new, and a router passes on
    pub device_visit : ℕ → ℕ → ℕ → Seen
    device_visit zero d set = seen set 0
    device_visit (suc depth) d set =
        cond (is_new set d) (cond (eqb (get_or role d 0) 1) (port_visit depth d 0 (seen (join set d) 0)) (seen (join set d) 0)) (seen set 0)

    -- the ports of device d from port p on: each is examined, and what it leads to is visited
    pub port_visit : ℕ → ℕ → ℕ → Seen → Seen
    port_visit zero d p before = before
    port_visit (suc depth) d p before =
        cond (ltb p (get_or ports d 0)) (port_visit depth d (p + 1) (onward before (device_visit depth (to (8 * d + p)) before.set))) before

-- ---- by a plan: from the source alone, which passes on whatever it is; no walk is as deep as 330, ten for each device and for the source

abbrev pub ahead_in : Plan → State → ℕ → ℕ → ℕ
ahead_in plan s k = ahead plan.core.permissions plan.peers plan.barred s k

unfoldable pub visited : Plan → State → ℕ → ℕ → Seen
visited plan s d k = port_visit plan.core.role plan.core.ports (ahead_in plan s k) 330 d 0 (seen (join 0 d) 0)

-- RULES, "Reach": over which links a code goes, and how many crossings away a device is.
use Rattle.std.specs.Prelude.{◌≡◌, true, ◌⊎◌, ℕ, suc, ◌+◌, ◌*◌, ◌/◌, ◌<◌}
use Rattle.bits.specs.Set.{bit}
use Rattle.device.specs.Permissions.{may_send, may_receive}
use Rattle.plan.specs.Fields.{nobody}
use Rattle.plan.specs.declared.Plan.{Plan}
use Rattle.state.specs.State.{State, running}
use Rattle.state.specs.Network.{router, peer, permissions, bars}

-- all devices
abbrev pub Any : ℕ → Type 0
Any e = Unit

-- for codes of a kind and of identifier k: permissions tell the kinds apart, and what a port bars the identifiers too
module _ (plan : Plan) (s : State) (kind k : ℕ) where
  -- port q leads to device e: it runs, it may send codes of the kind, and the port at its other end, a port of e, may receive them and does
  -- not bar this one
  pub record Leads (q e : ℕ) : Type 0 where
    pub runs : running s q ≡ 1
    pub sends : may_send kind (permissions plan q) ≡ true
    pub joined : peer plan q < nobody
    pub receives : may_receive kind (permissions plan (peer plan q)) ≡ true
    pub admits : bit (bars plan kind (peer plan q)) k ≡ 0
    pub there : e ≡ peer plan q / 8

  -- device e is n crossings away from a device, on a way that passes only through routers, and only over some devices: each that it comes to is
  -- one of them
  pub data WalkOver (Over : ℕ → Type 0) (from : ℕ) : ℕ → ℕ → Type 0 where
    stay : WalkOver Over from 0 from
    cross : {n d e : ℕ} → WalkOver Over from n d → (n ≡ 0) ⊎ (router plan d ≡ true) → (p : ℕ) → p < 8 → Leads (8 * d + p) e → Over e
        → WalkOver Over from (suc n) e

  -- the same over all devices
  abbrev pub Walk : ℕ → ℕ → ℕ → Type 0
  Walk = WalkOver Any

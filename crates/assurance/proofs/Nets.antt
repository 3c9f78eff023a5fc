-- The network of a plan as one over which a code spreads: ports and devices by their numbers, links as they run and permit.
use mathlib.Core.Path.{◌≡◌}
use mathlib.Core.Bool.{true}
use Prim.Native.Nat.{ℕ, ◌/◌, ◌<◌}
use Rattle.plan.specs.declared.Plan.{Plan}
use Rattle.state.specs.State.{State}
use Rattle.state.specs.Network.{router}
use Rattle.reach.specs.Walk.{Leads}
use Rattle.flood.specs.Flood.{Net}

-- takers: the devices that take the code in where it gets to them
abbrev pub net : Plan → ℕ → ℕ → State → (ℕ → Type 0) → ℕ → Net
net plan kind k s takers source =
    record {
      Device = ℕ;
      Port = ℕ;
      owner = λ q. q / 8;
      leads = λ q e. (q < 256) × Leads plan s kind k q e × takers e;
      passes = λ d. router plan d ≡ true;
      source = source;
    }

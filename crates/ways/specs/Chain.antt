-- RULES, "Why": a chain of ports from a device to a device, and which of several is shown.
use Rattle.std.specs.Prelude.{◌≡◌, true, List, [], ◌∷◌, ◌++◌, ◌⊎◌, ℕ, ◌-◌, ◌/◌, ◌≤◌, ◌<◌, length}
use Rattle.answers.specs.Ordered.{Tells}
use Rattle.lists.specs.Table.{table}
use Rattle.plan.specs.Fields.{nobody}
use Rattle.plan.specs.declared.Plan.{Plan}
use Rattle.state.specs.State.{State}
use Rattle.state.specs.Network.{router}
use Rattle.reach.specs.Walk.{Leads}
use Rattle.ways.specs.Calls.{way_asks}
use Rattle.ways.specs.Crossings.{none}

-- at the first difference the first of two lists has the lower number; port 8 x d + p of the same device d has the lower p then
abbrev pub Before : List ℕ → List ℕ → Type 0
Before [] ys = ⊥
Before (p ∷ xs) [] = ⊥
Before (p ∷ xs) (q ∷ ys) = (p < q) ⊎ ((p ≡ q) × Before xs ys)

-- the ports of a chain in front of an area, and nobody behind them
abbrev pub padded : List ℕ → List ℕ
padded ports = ports ++ table (32 - length ports) (λ _. nobody)

-- interrupts of identifier k
module _ (plan : Plan) (s : State) (k : ℕ) where
  -- port q, one of device d, leads to device m, and the rest goes on from there: through a router, or there is no rest
  pub record Goes (d q m : ℕ) (rest : List ℕ) : Type 0 where
    pub own : q / 8 ≡ d
    pub leads : Leads plan s 0 k q m
    pub on : (rest ≡ []) ⊎ (router plan m ≡ true)

  -- the ports lead from device d to device e, one after the other
  abbrev pub Chain : ℕ → List ℕ → ℕ → Type 0
  Chain d [] e = e ≡ d
  Chain d (q ∷ rest) e = (m : ℕ) × Goes d q m rest × Chain m rest e

  -- none is shorter, and none of that length comes before it
  pub record Shown (d e : ℕ) (ports : List ℕ) : Type 0 where
    pub real : Chain d ports e
    pub shortest : (other : List ℕ) → Chain d other e → length ports ≤ length other
    pub first : (other : List ℕ) → Chain d other e → length other ≡ length ports → Before other ports → ⊥

  -- how many ports, and the ports
  pub data ChainTo (d e : ℕ) : ℕ → List ℕ → Type 0 where
    reached : {ports : List ℕ} → Shown d e ports → ChainTo d e (length ports) (padded ports)
    not-reached : ((ports : List ℕ) → Chain d ports e → ⊥) → ChainTo d e none (padded [])

  -- the call
  abbrev pub TellsChain : ℕ → ℕ → List ℕ → ℕ → ℕ → List ℕ → Type 0
  TellsChain d e before = Tells (way_asks plan s (length before ≡ 32) d k e) (ChainTo d e) before

-- The shape that the types of a plan in memory give it: lengths, and bounds of numbers.
use mathlib.Core.Path.{◌≡◌}
use mathlib.Core.List.{List, []}
use Prim.Native.Nat.{ℕ, ◌<◌}
use lib.ListN.{length, get_or}
use Rattle.plan.specs.declared.Plan.{Plan}
use Rattle.plan.specs.Inner.Memory.{at}

-- so many numbers, each below a bound
pub record Numbers (l : List ℕ) (size bound : ℕ) : Type 0 where
  pub long : length l ≡ size
  pub small : (i : ℕ) → at l i < bound

pub record Shaped (plan : Plan) : Type 0 where
  pub events : plan.core.events < 4294967296
  pub loads : Numbers plan.core.loads 66 65536
  pub role : Numbers plan.core.role 32 256
  pub ports : Numbers plan.core.ports 32 256
  pub source : Numbers plan.core.source 32 4294967296
  pub handler : Numbers plan.core.handler 32 4294967296
  pub permissions : Numbers plan.core.permissions 256 256
  pub rows : length plan.peers ≡ 32
  pub row : (d : ℕ) → d < 32 → Numbers (get_or plan.peers d []) 8 65536
  pub barred : Numbers plan.barred 512 4294967296

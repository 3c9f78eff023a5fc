-- RULES, "Rescue": the block that is rebuilt of the claims on a device, and the mended file.
use Rattle.std.specs.Prelude.{cond, not, List, ◌++◌, ℕ, ◌+◌, ◌*◌, eqb}
use Rattle.lists.specs.Table.{joined}
use Rattle.plan.specs.Block.{block}
use Rattle.plan.specs.Fields.{nobody}
use Rattle.plan.specs.Inner.File.{Holding, block_of, own_holdings, entry_holdings, bar_holdings}
use Rattle.plan.specs.Refusals.{device_block, count_in}
use Rattle.mend.specs.Claims.{last, damaged, claimant}

-- device d as a router (1) with no masks, whose ports lead where they are said to, without permissions, and bar nothing
abbrev pub router_holdings : ℕ → ℕ → (ℕ → ℕ) → List Holding
router_holdings d ports peer = own_holdings d 1 ports 0 0 ++ joined 8 (λ p. entry_holdings p (peer p) 0) ++ joined 16 (λ j. bar_holdings j 0)

module _ (file : List ℕ) where
  -- ports up to the highest that is claimed, and at least one
  unfoldable pub ports_for : ℕ → ℕ
  ports_for d = 1 + last 8 (λ p. not (eqb (claimant file (8 * d + p)) nobody)) 0

  -- so it is rebuilt: each port leads back to the one that claims it
  unfoldable pub rebuilt : ℕ → List ℕ
  rebuilt d = block_of (router_holdings d (ports_for d) (λ p. claimant file (8 * d + p)))

  -- each damaged block is rebuilt, and all others are as they were
  unfoldable pub mended : List ℕ
  mended = block file 0 ++ joined (count_in file) (λ d. cond (damaged file d) (rebuilt d) (device_block file d))

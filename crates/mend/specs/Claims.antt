-- RULES, "Rescue": which blocks are damaged, and which ports the good ones claim.
use Rattle.std.specs.Prelude.{Bool, cond, not, ◌&&◌, ◌||◌, List, ℕ, zero, suc, ◌+◌, ◌*◌, ◌/◌, ◌%◌, eqb, ltb}
use Rattle.lists.specs.Table.{every}
use Rattle.plan.specs.Block.{checked}
use Rattle.plan.specs.Fields.{nobody}
use Rattle.plan.specs.Refusals.{device_block, count_in, peer_of}

-- the last of n places at which a test is true; where it is true at none, what is given for that
unfoldable pub last : ℕ → (ℕ → Bool) → ℕ → ℕ
last zero f none = none
last (suc n) f none = cond (f n) n (last n f none)

module _ (file : List ℕ) where
  -- the block of device d is damaged: its check fails
  unfoldable pub damaged : ℕ → Bool
  damaged d = not (checked (device_block file d))

  -- where a good block says that port q = 8 x device + port leads; of a damaged block, and of no device, nothing is said
  unfoldable pub pointed : ℕ → ℕ
  pointed q = cond (ltb (q / 8) (count_in file) && not (damaged (q / 8))) (peer_of file (q / 8) (q % 8)) nobody

  -- port q claims port t
  unfoldable pub claims : ℕ → ℕ → Bool
  claims t q = eqb (pointed q) t

  -- the port that claims port t, of several the last, or nobody
  unfoldable pub claimant : ℕ → ℕ
  claimant t = last 256 (claims t) nobody

  -- no two ports claim port t
  unfoldable pub once : ℕ → Bool
  once t = every 256 (λ a. every a (λ b. not (claims t a && claims t b)))

  -- the block of device d is good, or none of its ports is claimed twice
  unfoldable pub uncontested : ℕ → Bool
  uncontested d = not (damaged d) || every 8 (λ p. once (8 * d + p))

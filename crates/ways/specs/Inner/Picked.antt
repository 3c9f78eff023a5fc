-- No rules: how a chain is picked, by how many crossings away from its end each device is. Nothing here has to be believed.
use Rattle.std.specs.Prelude.{◌≡◌, Bool, true, cond, ◌&&◌, ◌||◌, List, [], ◌∷◌, ℕ, zero, suc, ◌+◌, ◌*◌, ◌<◌, eqb, ltb, get_or}
use Rattle.ways.specs.Inner.Layers.{at}

-- to: the device that each port leads to, or 32; far: how far from the end each device is
module _ (role to far : List ℕ) where
  -- port q leads to a device that is n crossings away from the end, and may be passed
  unfoldable pub nearer : ℕ → ℕ → Bool
  nearer n q = ltb (get_or to q 0) 32 && eqb (at far (get_or to q 0)) n && (eqb n 0 || eqb (get_or role (get_or to q 0) 0) 1)

  -- the first such of n ports of device d from port p on; behind all of them the port behind the last
  unfoldable pub pick : ℕ → ℕ → ℕ → ℕ
  pick n zero q = q
  pick n (suc m) q = cond (nearer n q) q (pick n m (q + 1))

  -- n ports, one after the other, from device d on
  unfoldable pub picked : ℕ → ℕ → List ℕ
  picked zero d = []
  picked (suc n) d = let q = pick n 7 (8 * d) in q ∷ picked n (get_or to q 0)

-- from each device that is some crossings away a port leads nearer
pub record Downhill (role to far : List ℕ) : Type 0 where
  pub goes : (d n : ℕ) → d < 32 → n < 31 → at far d ≡ suc n → nearer role to far n (pick role to far n 7 (8 * d)) ≡ true

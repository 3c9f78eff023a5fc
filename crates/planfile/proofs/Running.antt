-- Running sums are the weighted sum: no product is needed for the check. Assumes nothing.
use mathlib.Core.Path.{◌≡◌, ◌∙◌}
use mathlib.Core.List.{List}
use Prim.Native.Nat.{ℕ, zero, suc, ◌+◌, ◌*◌}
use native.Mathlib.Omega.{arith}
use native.Mathlib.Nat.{zero-mul, suc-mul, mul-add}
use Rattle.plan.specs.Block.{byte, weighted}

-- from byte n - 1 down, each byte is added to a sum, and each sum that comes of it to a second one
unfoldable pub running : List ℕ → ℕ → ℕ → ℕ → ℕ
running s zero sum sums = sums
running s (suc n) sum sums = running s n (sum + byte s n) (sums + (sum + byte s n))

-- a sum that stood before is added with every byte
with-sums : (s : List ℕ) (n sum sums : ℕ) → running s n sum sums ≡ weighted s n + n * sum + sums
unfolding running weighted
with-sums s zero sum sums = omega (arith, zero-mul sum)
with-sums s (suc n) sum sums =
    with-sums s n (sum + byte s n) (sums + (sum + byte s n)) ∙
    omega (arith, mul-add n sum (byte s n), suc-mul n sum, suc-mul n (byte s n))

pub running-weighted : (s : List ℕ) (n : ℕ) → running s n 0 0 ≡ weighted s n
running-weighted s n = with-sums s n 0 0 ∙ omega arith

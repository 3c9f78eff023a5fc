-- Sums over places: equal where all parts are, changed by one part alone, of equal parts, and no greater where no part is.
use mathlib.Core.Path.{◌≡◌, refl, ap}
use mathlib.Core.Logic.{◌≢◌}
use Prim.Native.Nat.{ℕ, zero, suc, ◌+◌, ◌*◌, ◌≤◌, ◌<◌}
use native.Mathlib.Decide.{ℕ_discrete}
use native.Mathlib.Omega.{arith}
use Rattle.lists.specs.Table.{sum}

pub same_sum : (n : ℕ) (f g : ℕ → ℕ) → ((i : ℕ) → i < n → f i ≡ g i) → sum n f ≡ sum n g
unfolding sum
same_sum zero f g h = refl
same_sum (suc n) f g h = omega (arith, same_sum n f g (λ i l. h i (omega arith)), h n (omega arith))

-- two sums that differ in part i alone differ as this part does
pub sum-changed : (n i : ℕ) (f g : ℕ → ℕ) → i < n → ((k : ℕ) → k < n → k ≢ i → f k ≡ g k) → sum n f + g i ≡ sum n g + f i
unfolding sum
sum-changed zero i f g l h = absurd (omega arith)
sum-changed (suc n) i f g l h =
    elim (ℕ_discrete n i) [
      | yes e ↦ omega (arith, same_sum n f g (λ k j. h k (omega arith) (λ q. omega (arith, q, e))), ap f e, ap g e)
      | no e ↦ omega (arith, sum-changed n i f g (omega (arith, e)) (λ k j. h k (omega arith)), h n (omega arith) e)
    ]

pub sum-const : (n v : ℕ) → sum n (λ _. v) ≡ v * n
unfolding sum
sum-const zero v = omega arith
sum-const (suc n) v = omega (arith, sum-const n v)

pub sum-le : (n : ℕ) (f g : ℕ → ℕ) → ((i : ℕ) → i < n → f i ≤ g i) → sum n f ≤ sum n g
unfolding sum
sum-le zero f g h = omega arith
sum-le (suc n) f g h = omega (arith, sum-le n f g (λ i l. h i (omega arith)), h n (omega arith))

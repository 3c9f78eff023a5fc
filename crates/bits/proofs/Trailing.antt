-- The machine's count of trailing zeros: no place below it is in the set, and where the set has a member, that place is.
use mathlib.Core.Path.{◌≡◌, refl}
use Prim.Native.Nat.{ℕ, zero, suc, ◌/◌, ◌%◌, ◌^◌, ◌<◌}
use native.Mathlib.Omega.{arith}
use lib.Count.{count_trailing_zeros, under}
use Rattle.bits.specs.Set.{bit}

pub trailing_below : (n x i : ℕ) → i < count_trailing_zeros n x → bit x i ≡ 0
unfolding count_trailing_zeros bit
trailing_below zero x i h = absurd (omega arith)
trailing_below (suc n) x zero h = go (x % 2) refl h
  where
    go : (b : ℕ) → x % 2 ≡ b → 0 < under b (count_trailing_zeros n (x / 2)) → x % 2 ≡ 0
    go zero e k = e
    go (suc b) e k = absurd (omega arith)
trailing_below (suc n) x (suc i) h = go (trailing_below n (x / 2) i) (x % 2) h
  where
    go : (i < count_trailing_zeros n (x / 2) → bit (x / 2) i ≡ 0) → (b : ℕ) → suc i < under b (count_trailing_zeros n (x / 2)) → bit (x / 2) i ≡ 0
    go ih zero k = ih (omega arith)
    go ih (suc b) k = absurd (omega arith)

pub trailing_at : (n x : ℕ) → count_trailing_zeros n x < n → bit x (count_trailing_zeros n x) ≡ 1
unfolding count_trailing_zeros bit
trailing_at zero x h = absurd (omega arith)
trailing_at (suc n) x h = go (trailing_at n (x / 2)) (x % 2) refl h
  where
    go : (count_trailing_zeros n (x / 2) < n → bit (x / 2) (count_trailing_zeros n (x / 2)) ≡ 1) → (b : ℕ) → x % 2 ≡ b → under b (count_trailing_zeros n (x / 2)) < suc n
        → bit x (under b (count_trailing_zeros n (x / 2))) ≡ 1
    go ih zero e k = ih (omega arith)
    go ih (suc b) e k = omega arith

pub trailing_lt : (n x : ℕ) → 0 < x → x < 2 ^ n → count_trailing_zeros n x < n
unfolding count_trailing_zeros
trailing_lt zero x h g = absurd (omega arith)
trailing_lt (suc n) x h g = go (trailing_lt n (x / 2)) (x % 2) refl
  where
    go : (0 < x / 2 → x / 2 < 2 ^ n → count_trailing_zeros n (x / 2) < n) → (b : ℕ) → x % 2 ≡ b → under b (count_trailing_zeros n (x / 2)) < suc n
    go ih zero e = let l : count_trailing_zeros n (x / 2) < n = ih (omega arith) (omega arith) in omega arith
    go ih (suc b) e = omega arith

-- The laws of a set: what is in it after a place joined or left, its bound, that equal members make equal sets, and its size.
use mathlib.Core.Path.{◌≡◌, refl, sym, ap, ◌∙◌}
use mathlib.Core.Logic.{◌≢◌, dite}
use Prim.Native.Nat.{ℕ, zero, suc, ◌+◌, ◌-◌, ◌*◌, ◌/◌, ◌%◌, ◌^◌, ◌≤◌, ◌<◌, min, max}
use native.Mathlib.Nat.{div-one, div-div-eq-div-mul, pow-suc, mul_comm, one-mul}
use native.Mathlib.Decide.{dec_lt, ℕ_discrete}
use native.Mathlib.Omega.{arith}
use lib.Bits.{bit_or, bit_and, or_step, and_step, or_lt, and_le_l}
use lib.Count.{ones, ones_step, ones-le}
use lib.Pow.{pow-lt, shl_exact}
use borrow.Author.Tests.{lt-ltb, le-ltb}
use Rattle.bits.specs.Set.{bit, join, leave, size_below}

-- ---- one bit

-- as the code reads it
pub bit_is : (x k : ℕ) → bit x k ≡ x / 2 ^ k % 2
unfolding bit
bit_is x zero = rw div-one
bit_is x (suc k) = bit_is (x / 2) k ∙ rw (div-div-eq-div-mul x 2 (2 ^ k), pow-suc 2 k, mul_comm (2 ^ k) 2)

pub bit-two : (x k : ℕ) → bit x k < 2
unfolding bit
bit-two x zero = omega arith
bit-two x (suc k) = bit-two (x / 2) k

pub bit-or : (k a b : ℕ) → bit (bit_or a b) k ≡ max (bit a k) (bit b k)
unfolding bit
bit-or zero a b = omega (arith, or_step a b)
bit-or (suc k) a b = ap (λ (x : ℕ). bit x k) (omega (arith, or_step a b)) ∙ bit-or k (a / 2) (b / 2)

pub bit-and : (k a b : ℕ) → bit (bit_and a b) k ≡ min (bit a k) (bit b k)
unfolding bit
bit-and zero a b = omega (arith, and_step a b)
bit-and (suc k) a b = ap (λ (x : ℕ). bit x k) (omega (arith, and_step a b)) ∙ bit-and k (a / 2) (b / 2)

-- nothing is in the empty set
pub bit-zero : (k : ℕ) → bit 0 k ≡ 0
unfolding bit
bit-zero zero = refl
bit-zero (suc k) = bit-zero k

-- no place at or above n is in a set below 2^n
pub bit-above : (n x k : ℕ) → x < 2 ^ n → n ≤ k → bit x k ≡ 0
unfolding bit
bit-above zero x k h l = ap (λ (y : ℕ). bit y k) (omega arith) ∙ bit-zero k
bit-above (suc n) x zero h l = omega arith
bit-above (suc n) x (suc k) h l = bit-above n (x / 2) k (omega arith) (omega arith)

bit-pow-same : (k : ℕ) → bit (2 ^ k) k ≡ 1
unfolding bit
bit-pow-same zero = refl
bit-pow-same (suc k) = ap (λ (x : ℕ). bit x k) (omega arith) ∙ bit-pow-same k

bit-pow-other : (j k : ℕ) → j ≢ k → bit (2 ^ k) j ≡ 0
unfolding bit
bit-pow-other zero zero h = absurd (h refl)
bit-pow-other zero (suc k) h = omega arith
bit-pow-other (suc j) zero h = bit-zero j
bit-pow-other (suc j) (suc k) h = ap (λ (x : ℕ). bit x j) (omega arith) ∙ bit-pow-other j k (omega arith)

-- the complement among n places
bit_not : (n k x : ℕ) → x < 2 ^ n → k < n → bit (2 ^ n - 1 - x) k ≡ 1 - bit x k
unfolding bit
bit_not zero k x h lt = absurd (omega arith)
bit_not (suc n) zero x h lt = omega arith
bit_not (suc n) (suc k) x h lt = ap (λ (y : ℕ). bit y k) (omega arith) ∙ bit_not n k (x / 2) (omega arith) (omega arith)

-- two sets with the same members are equal
pub same-members : (n x y : ℕ) → x < 2 ^ n → y < 2 ^ n → ((k : ℕ) → k < n → bit x k ≡ bit y k) → x ≡ y
unfolding bit
same-members zero x y hx hy e = omega arith
same-members (suc n) x y hx hy e =
    let low = e 0 (omega arith) in
    let high = same-members n (x / 2) (y / 2) (omega arith) (omega arith) (λ k h. e (suc k) (omega arith)) in
    omega arith

-- 1 << k, at 32 bits
pub one_shl : (k : ℕ) → k < 32 → (1 * 2 ^ k) % 4294967296 ≡ 2 ^ k
one_shl k h = shl_exact 1 k 32 (omega arith) (omega arith) ∙ one-mul (2 ^ k)

-- ---- a place joins

pub join_is : (x k : ℕ) → k < 32 → join x k ≡ bit_or x (2 ^ k)
unfolding join
join_is x k h = simp (lt-ltb k 32 h)

pub join-none : (x k : ℕ) → 32 ≤ k → join x k ≡ x
unfolding join
join-none x k h = simp (le-ltb k 32 h)

pub join-same : (x k : ℕ) → k < 32 → bit (join x k) k ≡ 1
join-same x k h = rw (join_is x k h) (omega (arith, bit-or k x (2 ^ k), bit-pow-same k, bit-two x k))

pub join-other : (x k j : ℕ) → j ≢ k → bit (join x k) j ≡ bit x j
join-other x k j ne =
    dite (dec_lt k 32) (λ h. rw (join_is x k h) (omega (arith, bit-or j x (2 ^ k), bit-pow-other j k ne))) (λ n. rw (join-none x k (omega arith)))

pub join-lt : (x k : ℕ) → x < 2 ^ 32 → join x k < 2 ^ 32
join-lt x k h =
    dite (dec_lt k 32) (λ g. rw (join_is x k g) (or_lt 32 x (2 ^ k) h (pow-lt g))) (λ n. rw (join-none x k (omega arith)) h)

-- ---- a place leaves

pub leave-is : (x k : ℕ) → k < 32 → leave x k ≡ bit_and x (2 ^ 32 - 1 - 2 ^ k)
unfolding leave
leave-is x k h = simp (lt-ltb k 32 h)

pub leave_none : (x k : ℕ) → 32 ≤ k → leave x k ≡ x
unfolding leave
leave_none x k h = simp (le-ltb k 32 h)

pub leave_same : (x k : ℕ) → k < 32 → bit (leave x k) k ≡ 0
leave_same x k h =
    rw (leave-is x k h)
    (omega (arith, bit-and k x (2 ^ 32 - 1 - 2 ^ k), bit_not 32 k (2 ^ k) (pow-lt h) h, bit-pow-same k))

pub leave-other : (x k j : ℕ) → j < 32 → j ≢ k → bit (leave x k) j ≡ bit x j
leave-other x k j g ne =
    dite (dec_lt k 32)
    (λ h. rw (leave-is x k h)
    (omega (arith, bit-and j x (2 ^ 32 - 1 - 2 ^ k), bit_not 32 j (2 ^ k) (pow-lt h) g, bit-pow-other j k ne, bit-two x j)))
    (λ n. rw (leave_none x k (omega arith)))

pub leave-lt : (x k : ℕ) → x < 2 ^ 32 → leave x k < 2 ^ 32
leave-lt x k h =
    dite (dec_lt k 32) (λ g. rw (leave-is x k g) (omega (arith, and_le_l x (2 ^ 32 - 1 - 2 ^ k)))) (λ n. rw (leave_none x k (omega arith)) h)

-- a member that leaves makes the number less
pub leave-less : (x k : ℕ) → k < 32 → bit x k ≡ 1 → leave x k < x
leave-less x k h m =
    let most : leave x k ≤ x = rw (leave-is x k h) (and_le_l x (2 ^ 32 - 1 - 2 ^ k)) in
    elim (ℕ_discrete (leave x k) x) [
      | yes e ↦ absurd (omega (arith, leave_same x k h, ap (λ (y : ℕ). bit y k) e))
      | no ne ↦ omega arith
    ]

-- ---- the size

-- from the lowest place up
size_step : (n x : ℕ) → size_below (suc n) x ≡ x % 2 + size_below n (x / 2)
unfolding size_below bit
size_step zero x = omega arith
size_step (suc n) x = omega (arith, size_step n x)

-- as the machine counts
pub size-ones : (n x : ℕ) → x < 2 ^ n → size_below n x ≡ ones x
unfolding size_below
size-ones zero x h = omega (arith, ones-le 0 x h)
size-ones (suc n) x h = size_step n x ∙ omega (arith, size-ones n (x / 2) (omega arith), ones_step x)

pub size-le : (n x : ℕ) → size_below n x ≤ n
unfolding size_below
size-le zero x = omega arith
size-le (suc n) x = omega (arith, size-le n x, bit-two x n)

-- a place above all that are counted makes no difference
size-apart : (n x k : ℕ) → n ≤ k → size_below n (join x k) ≡ size_below n x
unfolding size_below
size-apart zero x k l = refl
size-apart (suc n) x k l = omega (arith, size-apart n x k (omega arith), join-other x k n (omega arith))

-- a place that joins is one more
pub size-join : (n x k : ℕ) → bit x k ≡ 0 → k < 32 → k < n → size_below n (join x k) ≡ size_below n x + 1
unfolding size_below
size-join zero x k z h l = absurd (omega arith)
size-join (suc n) x k z h l =
    elim (ℕ_discrete k n) [
      | yes e ↦ rw (← e) (omega (arith, size-apart k x k (omega arith), join-same x k h))
      | no ne ↦ omega (arith, size-join n x k z h (omega arith), join-other x k n (λ e. ne (sym e)))
    ]

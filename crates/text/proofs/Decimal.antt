-- The laws of decimal digits: one digit or a last one more, how many there are, and that they read back as the number.
use mathlib.Core.Path.{◌≡◌, refl, ap, ◌∙◌}
use mathlib.Core.Logic.{dite}
use mathlib.Core.List.{List, [], ◌∷◌, ◌++◌}
use Prim.Native.Nat.{ℕ, zero, suc, ◌+◌, ◌-◌, ◌*◌, ◌/◌, ◌%◌, ◌^◌, ◌≤◌, ◌<◌}
use native.Mathlib.Decide.{dec_lt}
use native.Mathlib.Nat.{not-suc-le-zero, pow-suc}
use native.Mathlib.Omega.{arith}
use lib.ListN.{length, length-append}
use borrow.Author.Tests.{lt-ltb, le-ltb}
use Rattle.text.specs.Text.{digit, decimal_in, decimal, value_from, value}

-- more steps than n give the same digits
same-steps : (f g n : ℕ) → n < f → n < g → decimal_in f n ≡ decimal_in g n
unfolding decimal_in
same-steps zero g n h k = absurd (not-suc-le-zero h)
same-steps (suc f) zero n h k = absurd (not-suc-le-zero k)
same-steps (suc f) (suc g) n h k =
    dite (dec_lt n 10) (λ l. rw (lt-ltb n 10 l))
    (λ l. rw (le-ltb n 10 (omega arith)) (ap (λ w. w ++ (digit (n % 10) ∷ [])) (same-steps f g (n / 10) (omega arith) (omega arith))))

pub decimal_digit : (n : ℕ) → n < 10 → decimal n ≡ digit n ∷ []
unfolding decimal decimal_in
decimal_digit n h = rw (lt-ltb n 10 h)

pub decimal_step : (n : ℕ) → 10 ≤ n → decimal n ≡ decimal (n / 10) ++ (digit (n % 10) ∷ [])
unfolding decimal decimal_in
decimal_step n h =
    rw (le-ltb n 10 h) (ap (λ w. w ++ (digit (n % 10) ∷ [])) (same-steps n (suc (n / 10)) (n / 10) (omega arith) (omega arith)))

pub length-digit : (n : ℕ) → n < 10 → length (decimal n) ≡ 1
length-digit n h = ap length (decimal_digit n h)

pub length-step : (n : ℕ) → 10 ≤ n → length (decimal n) ≡ length (decimal (n / 10)) + 1
length-step n h = ap length (decimal_step n h) ∙ length-append (decimal (n / 10)) _

-- there is a digit
pub decimal-some : (n : ℕ) → 0 < length (decimal n)
decimal-some n =
    dite (dec_lt n 10) (λ l. omega (arith, length-digit n l)) (λ l. omega (arith, length-step n (omega arith)))

-- a number below 10, 100, 1000, .. has at most 1, 2, 3, .. digits
pub decimal-short : (k n : ℕ) → n < 10 ^ suc k → length (decimal n) ≤ suc k
decimal-short zero n h = omega (arith, length-digit n (omega arith))
decimal-short (suc k) n h =
    dite (dec_lt n 10) (λ l. omega (arith, length-digit n l))
    (λ l. omega (arith, length-step n (omega arith), decimal-short k (n / 10) (omega (arith, pow-suc 10 (suc k)))))

from_last : (v : ℕ) (w : List ℕ) (d : ℕ) → value_from v (w ++ (d ∷ [])) ≡ 10 * value_from v w + (d - 48)
unfolding value_from
from_last v [] d = refl
from_last v (e ∷ w) d = from_last (10 * v + (e - 48)) w d

-- one digit more
pub value-last : (w : List ℕ) (d : ℕ) → value (w ++ (d ∷ [])) ≡ 10 * value w + (d - 48)
unfolding value
value-last w d = from_last 0 w d

value_in : (f n : ℕ) → n < f → value (decimal_in f n) ≡ n
unfolding decimal_in value value_from
value_in zero n h = absurd (not-suc-le-zero h)
value_in (suc f) n h =
    dite (dec_lt n 10) (λ l. rw (lt-ltb n 10 l) (omega arith))
    (λ l. rw (le-ltb n 10 (omega arith))
    (let e : value (decimal_in f (n / 10)) ≡ n / 10 = value_in f (n / 10) (omega arith) in
    value-last (decimal_in f (n / 10)) (digit (n % 10)) ∙ omega arith))

-- the digits of n say n
pub decimal-value : (n : ℕ) → value (decimal n) ≡ n
unfolding decimal
decimal-value n = value_in (suc n) n (omega arith)

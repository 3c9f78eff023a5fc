-- RULES, "Sets": 32 places, place k is in the set x where bit k of the number x is 1.
use Rattle.std.specs.Prelude.{cond, ℕ, zero, suc, ◌+◌, ◌-◌, ◌/◌, ◌%◌, ◌^◌, ltb}
use Rattle.std.specs.Int.Bits.{bit_or, bit_and}

-- bit k of x: 0 or 1
unfoldable pub bit : ℕ → ℕ → ℕ
bit x zero = x % 2
bit x (suc k) = bit (x / 2) k

-- k joins the set x; a place above 31 is none, and changes nothing
unfoldable pub join : ℕ → ℕ → ℕ
join x k = cond (ltb k 32) (bit_or x (2 ^ k)) x

-- k leaves the set x
unfoldable pub leave : ℕ → ℕ → ℕ
leave x k = cond (ltb k 32) (bit_and x (2 ^ 32 - 1 - 2 ^ k)) x

-- how many of the places below n are in the set x
unfoldable pub size_below : ℕ → ℕ → ℕ
size_below zero x = 0
size_below (suc n) x = size_below n x + bit x n

-- how many places are in the set x
unfoldable pub size : ℕ → ℕ
size x = size_below 32 x

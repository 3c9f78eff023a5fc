-- RULES, "Plan file": blocks of 512 bytes, fields in them, numbers little-endian, bytes in no field, and the check.
use Rattle.std.specs.Prelude.{Bool, false, ◌&&◌, ◌||◌, List, [], ◌∷◌, ℕ, zero, suc, ◌+◌, ◌*◌, ◌%◌, eqb, ltb, leb, get_or, take, drop}
use Rattle.lists.specs.Table.{every}

-- block b of a file
unfoldable pub block : List ℕ → ℕ → List ℕ
block file b = take 512 (drop (512 * b) file)

-- byte i of a block
abbrev pub byte : List ℕ → ℕ → ℕ
byte s i = get_or s i 0

-- ---- fields

-- its first byte, and how many bytes it has
pub record Field : Type 0 where
  pub place : ℕ
  pub width : ℕ

abbrev pub field : ℕ → ℕ → Field
field place width = record { place = place; width = width }

-- the number of so many bytes from byte i on, the low one first
abbrev pub number_at : List ℕ → ℕ → ℕ → ℕ
number_at s i zero = 0
number_at s i (suc zero) = byte s i
number_at s i (suc (suc w)) = byte s i + 256 * number_at s (i + 1) (suc w)

-- the number that a field holds
abbrev pub number_in : List ℕ → Field → ℕ
number_in s f = number_at s f.place f.width

-- byte i lies in the field; in one of some fields
unfoldable pub lies : ℕ → Field → Bool
lies i f = leb f.place i && ltb i (f.place + f.width)

unfoldable pub lies_in : ℕ → List Field → Bool
lies_in i [] = false
lies_in i (f ∷ fields) = lies i f || lies_in i fields

-- every byte below 510 that lies in no field is zero
unfoldable pub rest_zero : List Field → List ℕ → Bool
rest_zero fields s = every 510 (λ i. lies_in i fields || eqb (byte s i) 0)

-- ---- the check: the sum over i below n of (i + 1) x byte i, and what bytes 510 and 511 have to hold

unfoldable pub weighted : List ℕ → ℕ → ℕ
weighted s zero = 0
weighted s (suc n) = weighted s n + suc n * byte s n

unfoldable pub check : List ℕ → ℕ
check s = weighted s 510 % 65521

abbrev pub check_field : Field
check_field = field 510 2

unfoldable pub checked : List ℕ → Bool
checked s = eqb (number_in s check_field) (check s)

-- what kind of block it is stands first in each
abbrev pub kind_field : Field
kind_field = field 0 1

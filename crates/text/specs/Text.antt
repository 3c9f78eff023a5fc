-- RULES, "Text": words in ASCII and numbers in decimal, written and read.
use Rattle.std.specs.Prelude.{cond, Option, Some, None, List, [], ◌∷◌, ◌++◌, ℕ, zero, suc, ◌+◌, ◌-◌, ◌*◌, ◌/◌, ◌%◌, ◌≤◌, ◌<◌, min, ltb, length, get_or}
use Prim.Native.Char.{code}
use Prim.Native.String.{String, [] as []ˢ, ◌∷◌ as ◌∷ˢ◌}

-- the bytes of a word in ASCII
unfoldable pub ascii : String → List ℕ
ascii []ˢ = []
ascii (c ∷ˢ s) = code c ∷ ascii s

-- the byte of a digit
abbrev pub digit : ℕ → ℕ
digit d = 48 + d

-- the digits of n in at most f steps
unfoldable pub decimal_in : ℕ → ℕ → List ℕ
decimal_in zero n = []
decimal_in (suc f) n = cond (ltb n 10) (digit n ∷ []) (decimal_in f (n / 10) ++ (digit (n % 10) ∷ []))

-- the decimal digits of n, the most significant first, with no zero in front; n + 1 steps are enough for every n
unfoldable pub decimal : ℕ → List ℕ
decimal n = decimal_in (suc n) n

-- ---- lines that more than one text has

-- a word, a number, and the line's end
unfoldable pub headed : List ℕ → ℕ → List ℕ
headed word n = word ++ decimal n ++ ascii "\n"

-- what is said of a plan file that is refused
unfoldable pub bad : ℕ → ℕ → List ℕ
bad number block = ascii "bad " ++ decimal number ++ ascii " " ++ decimal block ++ ascii "\n"

-- port q = 8 x device + port, as its device and its number there
unfoldable pub port : ℕ → List ℕ
port q = decimal (q / 8) ++ ascii " " ++ decimal (q % 8)

-- two ports that are joined
unfoldable pub joint : ℕ → ℕ → List ℕ
joint q p = port q ++ ascii " " ++ port p ++ ascii "\n"

-- ---- numbers read

-- what digits say, after those that say v
unfoldable pub value_from : ℕ → List ℕ → ℕ
value_from v [] = v
value_from v (d ∷ w) = value_from (10 * v + (d - 48)) w

unfoldable pub value : List ℕ → ℕ
value w = value_from 0 w

abbrev pub IsDigit : ℕ → Type 0
IsDigit b = (48 ≤ b) × (b < 58)

-- there is a byte, and every byte is a decimal digit
pub record Digits (w : List ℕ) : Type 0 where
  pub some : 0 < length w
  pub each : (i : ℕ) → i < length w → IsDigit (get_or w i 0)

-- the greatest number that a word holds; it stands for every greater one
abbrev pub greatest : ℕ
greatest = 4294967295

-- what bytes are read as
pub data Says (w : List ℕ) : Option ℕ → Type 0 where
  number : Digits w → Says w (Some (min (value w) greatest))
  no_number : (Digits w → ⊥) → Says w None

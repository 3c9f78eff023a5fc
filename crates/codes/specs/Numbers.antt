-- RULES, "Code bytes": the three numbers of a code, its kind, its top bits and its value.
use Rattle.std.specs.Prelude.{◌≡◌, cond, ℕ, eqb}
use Rattle.codes.specs.declared.Code.{Code}
use Rattle.codes.specs.declared.Code.TheVariants.{Time, Interrupt, Acknowledge, Reserved}

-- the kind
abbrev pub kind_of : Code → ℕ
kind_of (Time v) = 0
kind_of (Interrupt k) = 1
kind_of (Acknowledge k) = 2
kind_of (Reserved top low) = 3

-- the two top bits of its byte
abbrev pub top_of : Code → ℕ
top_of (Time v) = 0
top_of (Interrupt k) = 2
top_of (Acknowledge k) = 2
top_of (Reserved top low) = top

-- the value: that of a Time-Code, the identifier, or the low six bits of a reserved byte
abbrev pub value_of : Code → ℕ
value_of (Time v) = v
value_of (Interrupt k) = k
value_of (Acknowledge k) = k
value_of (Reserved top low) = low

-- three numbers are those of a code
abbrev pub Says : Code → ℕ → ℕ → ℕ → Type 0
Says code kind top value = (kind ≡ kind_of code) × (top ≡ top_of code) × (value ≡ value_of code)

-- the code of three numbers; the top bits count for reserved only, which is kind 3 and any number that is no kind
unfoldable pub code_of : ℕ → ℕ → ℕ → Code
code_of kind top v = cond (eqb kind 0) (Time v) (cond (eqb kind 1) (Interrupt v) (cond (eqb kind 2) (Acknowledge v) (Reserved top v)))

-- RULES, "Code bytes" (000, clause 1).
use Rattle.std.specs.Prelude.{◌≡◌, cond, ◌⊎◌, ℕ, ◌+◌, ◌-◌, ◌*◌, ◌/◌, ◌%◌, ◌<◌, ltb, leb}
use Rattle.answers.specs.Answer.{Answer, done, refused}
use Rattle.codes.specs.declared.Code.{Code}
use Rattle.codes.specs.declared.Code.TheVariants.{Time, Interrupt, Acknowledge, Reserved}

-- a code of a kind with its identifier, 0 to 31: kind 0 is the interrupt, kind 1 the acknowledge
abbrev pub byte_of : ℕ → ℕ → ℕ
byte_of kind k = 128 + 32 * kind + k

-- a byte's two top bits, and its low six
abbrev pub top_bits : ℕ → ℕ
top_bits b = b / 64

abbrev pub low_six : ℕ → ℕ
low_six b = b % 64

-- 0..63 a Time-Code, 128..159 an Interrupt-Code, 160..191 an acknowledge, all else reserved: its top bits and its low six
unfoldable pub reads : ℕ → Code
reads b =
    cond (ltb b 64) (Time b)
    (cond (ltb b 128) (Reserved (top_bits b) (low_six b))
    (cond (ltb b 160) (Interrupt (b - 128))
    (cond (ltb b 192) (Acknowledge (b - 160)) (Reserved (top_bits b) (low_six b)))))

-- what a byte can be read as
unfoldable pub Readable : Code → Type 0
Readable (Time v) = v < 64
Readable (Interrupt k) = k < 32
Readable (Acknowledge k) = k < 32
Readable (Reserved top low) = ((top ≡ 1) ⊎ (top ≡ 3)) × (low < 64)

-- the byte, from what it was read as: a reserved one from its two parts
unfoldable pub came_as : Code → ℕ
came_as (Time v) = v
came_as (Interrupt k) = byte_of 0 k
came_as (Acknowledge k) = byte_of 1 k
came_as (Reserved top low) = 64 * top + low

-- a value has its byte if it is at most `most`; above that, 5
unfoldable pub at_most : ℕ → ℕ → ℕ → Answer
at_most most v byte = cond (leb v most) (done byte) (refused 5)

-- writing is the reverse; reserved has no writer
unfoldable pub writes : Code → Answer
writes (Time v) = at_most 63 v v
writes (Interrupt k) = at_most 31 k (byte_of 0 k)
writes (Acknowledge k) = at_most 31 k (byte_of 1 k)
writes (Reserved top low) = refused 5

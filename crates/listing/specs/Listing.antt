-- RULES, "The listing of bytes": a line for each byte, with its number and what it says.
use Rattle.std.specs.Prelude.{◌≡◌, List, [], ◌∷◌, ◌++◌, ℕ, ◌+◌, ◌≤◌, ◌<◌, length, take}
use Rattle.codes.specs.Codes.{reads}
use Rattle.codes.specs.declared.Code.{Code}
use Rattle.codes.specs.declared.Code.TheVariants.{Time, Interrupt, Acknowledge, Reserved}
use Rattle.areas.specs.Put.{over}
use Rattle.text.specs.Text.{ascii, decimal}

-- what a code is called, with its value, or with the top bits and the low six of a reserved byte
unfoldable pub name : Code → List ℕ
name (Time v) = ascii "time " ++ decimal v
name (Interrupt k) = ascii "interrupt " ++ decimal k
name (Acknowledge k) = ascii "acknowledge " ++ decimal k
name (Reserved top low) = ascii "reserved " ++ decimal top ++ (ascii " " ++ decimal low)

-- the byte, a space, what it says, and the line's end
unfoldable pub line : ℕ → List ℕ
line b = decimal b ++ ascii " " ++ name (reads b) ++ ascii "\n"

unfoldable pub lines : List ℕ → List ℕ
lines [] = []
lines (b ∷ bytes) = line b ++ lines bytes

-- the length of the longest line, that of 191: `191 acknowledge 31` and its end
abbrev pub longest : ℕ
longest = 19

-- the lines of the first bytes stand in front of the area; it goes on as long as a longest line has room, and ends only then or with the bytes
pub record Lists (bytes before : List ℕ) (taken used : ℕ) (after : List ℕ) : Type 0 where
  pub within : taken ≤ length bytes
  pub size : used ≡ length (lines (take taken bytes))
  pub room : used ≤ length before
  pub text : after ≡ over (lines (take taken bytes)) before
  pub went_on : (i : ℕ) → i < taken → length (lines (take i bytes)) + longest ≤ length before
  pub stopped : taken < length bytes → length before < used + longest

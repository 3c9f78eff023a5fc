-- How long lines are, and the lines of one byte more.
use mathlib.Core.Path.{◌≡◌, refl, sym, ap, ◌∙◌}
use mathlib.Core.List.{List, [], ◌∷◌, ◌++◌, append_assoc, append-nil}
use Prim.Native.Nat.{ℕ, ◌+◌, ◌≤◌, ◌<◌}
use native.Mathlib.Numerals.{add-one}
use native.Mathlib.Omega.{arith}
use lib.ListN.{length, take, get_or, length-append}
use lib.Seq.{take-suc}
use Rattle.codes.specs.Codes.{reads}
use Rattle.codes.specs.declared.Code.{Code}
use Rattle.codes.proofs.BothWays.{Stands, stands, time, interrupt, acknowledge, reserved}
use Rattle.text.specs.Text.{ascii}
use Rattle.text.proofs.Decimal.{decimal-short}
use Rattle.listing.specs.Listing.{name, line, lines, longest}

name-short : (b : ℕ) (c : Code) → b < 256 → Stands b c → length (name c) ≤ 14
unfolding name ascii
name-short b _ h (time l) = omega (arith, decimal-short 1 b (omega arith))
name-short b _ h (interrupt {k} l e) = omega (arith, decimal-short 1 k (omega arith))
name-short b _ h (acknowledge {k} l e) = omega (arith, decimal-short 1 k (omega arith))
name-short b _ h (reserved {top} {low} u l e) =
    simp length-append (omega (arith, decimal-short 0 top (omega arith), decimal-short 1 low (omega arith)))

-- no line of a byte is longer than the longest
pub line-short : (b : ℕ) → b < 256 → length (line b) ≤ longest
unfolding line ascii
line-short b h =
    simp length-append (omega (arith, decimal-short 2 b (omega arith), name-short b (reads b) h (stands b)))

lines-append : (a b : List ℕ) → lines (a ++ b) ≡ lines a ++ lines b
unfolding lines
lines-append [] b = refl
lines-append (x ∷ a) b = ap (λ l. line x ++ l) (lines-append a b) ∙ sym (append_assoc (line x) (lines a) (lines b))

-- one byte more is one line more
pub lines_more : (bytes : List ℕ) (i : ℕ) → i < length bytes → lines (take (i + 1) bytes) ≡ lines (take i bytes) ++ line (get_or bytes i 0)
unfolding lines
lines_more bytes i h =
    rw (add-one, take-suc bytes i 0 h, lines-append (take i bytes)) (ap (λ l. lines (take i bytes) ++ l) (append-nil (line (get_or bytes i 0))))

-- The parts of a line, each put where the one before it ends.
use mathlib.Core.Path.{◌≡◌}
use mathlib.Core.List.{◌++◌, append_assoc}
use Prim.Native.Nat.{ℕ}
use native.Mathlib.Omega.{arith}
use borrow.Author.Tests.{eq-eqb, ne_eqb}
use Rattle.text.specs.Text.{ascii, decimal}
use Rattle.text.proofs.Parts.{Three, part}
use Rattle.report.specs.Report.{field, line}
use Rattle.report.specs.Inner.Pieces.{front}

-- ---- what stands for the rounds

module _ (number n : ℕ) where
  pub field-settled : number ≡ 0 → field number n ≡ decimal n
  unfolding field
  field-settled e = rw (eq-eqb number 0 e)

  pub field-waiting : number ≡ 12 → field number n ≡ ascii "-"
  unfolding field
  field-waiting e = rw (ne_eqb number 0 (omega arith), eq-eqb number 12 e)

  pub field-refused : (number ≡ 0 → ⊥) → (number ≡ 12 → ⊥) → field number n ≡ ascii "r" ++ decimal number
  unfolding field
  field-refused z w = rw (ne_eqb number 0 z, ne_eqb number 12 w)

-- ---- the texts, in their parts

pub front-parts : (d k number n : ℕ) → Three (front d k number n) (part d (ascii " ")) (part k (ascii " ")) (field number n)
unfolding front
front-parts d k number n = record { is = simp append_assoc }

pub line-parts : (d k number n held : ℕ) → Three (line d k number n held) (front d k number n) (ascii " ") (part held (ascii "\n"))
unfolding line front
line-parts d k number n held = record { is = append_assoc (front d k number n ++ ascii " ") (decimal held) (ascii "\n") }

-- Codes by their numbers: the three numbers of a code say which it is, its top bits are those of its byte, and a value above 63 has
-- no byte, whatever the kind.
use mathlib.Core.Path.{◌≡◌, refl, ap, ◌∙◌}
use mathlib.Core.Bool.{Bool, true, false, cond}
use Prim.Native.Nat.{ℕ, ◌<◌}
use native.Mathlib.Omega.{arith}
use lib.Dec.{eqb}
use borrow.Author.Tests.{lt-leb}
use Rattle.answers.specs.Answer.{refused}
use Rattle.codes.specs.Codes.{top_bits, reads, came_as, writes, at_most}
use Rattle.codes.specs.declared.Code.{Code}
use Rattle.codes.specs.declared.Code.TheVariants.{Time, Interrupt, Acknowledge, Reserved}
use Rattle.codes.specs.Numbers.{kind_of, top_of, value_of, Says, code_of}
use Rattle.codes.proofs.BothWays.{Stands, stands, time, interrupt, acknowledge, reserved, byte-comes-back}

pub code-of-numbers : (code : Code) → code_of (kind_of code) (top_of code) (value_of code) ≡ code
unfolding code_of
code-of-numbers (Time v) = refl
code-of-numbers (Interrupt k) = refl
code-of-numbers (Acknowledge k) = refl
code-of-numbers (Reserved top low) = refl

-- so they say which byte it came as
pub byte-of-numbers : (b kind top v : ℕ) → Says (reads b) kind top v → came_as (code_of kind top v) ≡ b
byte-of-numbers b kind top v (k, t, w) = rw (k, t, w) (ap came_as (code-of-numbers (reads b)) ∙ byte-comes-back b)

pub top-of-byte : (b : ℕ) → top_of (reads b) ≡ top_bits b
top-of-byte b = of (reads b) (stands b)
  where
    of : (c : Code) → Stands b c → top_of c ≡ top_bits b
    of _ (time l) = omega arith
    of _ (interrupt l e) = omega arith
    of _ (acknowledge l e) = omega arith
    of _ (reserved u l e) = omega arith

-- writing asks for no top bits
pub any-top : (kind a b v : ℕ) → writes (code_of kind a v) ≡ writes (code_of kind b v)
unfolding writes code_of
any-top kind a b v = by_kind (eqb kind 0) (eqb kind 1) (eqb kind 2)
  where
    by_kind : (t i k : Bool)
        → writes (cond t (Time v) (cond i (Interrupt v) (cond k (Acknowledge v) (Reserved a v))))
        ≡ writes (cond t (Time v) (cond i (Interrupt v) (cond k (Acknowledge v) (Reserved b v))))
    by_kind true i k = refl
    by_kind false true k = refl
    by_kind false false true = refl
    by_kind false false false = refl

pub no_byte : (kind top v : ℕ) → 63 < v → writes (code_of kind top v) ≡ refused 5
unfolding writes at_most code_of
no_byte kind top v h = by_kind (eqb kind 0) (eqb kind 1) (eqb kind 2)
  where
    by_kind : (t i a : Bool) → writes (cond t (Time v) (cond i (Interrupt v) (cond a (Acknowledge v) (Reserved top v)))) ≡ refused 5
    by_kind true i a = simp (lt-leb v 63 h)
    by_kind false true a = simp (lt-leb v 31 (omega arith))
    by_kind false false true = simp (lt-leb v 31 (omega arith))
    by_kind false false false = refl

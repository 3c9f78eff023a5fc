-- A loop that leaves at the first test that is not passed: what is known at its head, and one turn more.
use mathlib.Core.Path.{◌≡◌, refl, sym, ◌∙◌}
use mathlib.Core.Bool.{Bool, true, false, not, ◌&&◌}
use Prim.Native.Nat.{ℕ, ◌+◌, ◌≤◌}
use native.Mathlib.Numerals.{add-one}
use native.Mathlib.Omega.{arith}
use borrow.Author.Tests.{not-true, not-false}
use Rattle.lists.specs.Table.{every}
use Rattle.lists.proofs.Tests.{both}

-- the first i of n tests are passed
pub record Passed (n : ℕ) (f : ℕ → Bool) (i : ℕ) : Type 0 where
  pub within : i ≤ n
  pub all : every i f ≡ true

pub passed_none : (n : ℕ) (f : ℕ → Bool) → Passed n f 0
unfolding every
passed_none n f = record { within = omega arith; all = refl }

pub passed-more : {n : ℕ} {f : ℕ → Bool} {i : ℕ} → Passed n f i → i + 1 ≤ n → f i ≡ true → Passed n f (i + 1)
unfolding every
passed-more {n} {f} {i} p h e = record { within = h; all = rw add-one (both (every i f) (f i) p.all e) }

pub passed-all : {n : ℕ} {f : ℕ → Bool} {i : ℕ} → Passed n f i → n ≤ i → every n f ≡ true
passed-all {n} {f} {i} p h = let e : i ≡ n = omega arith in rw e at p.all

-- ---- what a call answered, and a test of the answer

pub failed : {a b : Bool} → a ≡ b → not a ≡ true → b ≡ false
failed {a} e h = sym e ∙ not-true a h

pub passed : {a b : Bool} → a ≡ b → not a ≡ false → b ≡ true
passed {a} e h = sym e ∙ not-false a h

-- three tests are passed: the fourth decides
pub fourth : {a b c : Bool} (d : Bool) → a ≡ true → b ≡ true → c ≡ true → d ≡ (a && b && c && d)
fourth d p q r = rw (p, q, r)

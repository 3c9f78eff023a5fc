-- What it says that a test is true: `simp facts` turns tests into what they test, in a goal or in what is given.
use mathlib.Core.Path.{◌≡◌}
use mathlib.Core.Bool.{Bool, true, ◌&&◌}
use mathlib.Core.Logic.{◌↔◌}
use Prim.Native.Nat.{ℕ, ◌≤◌, ◌<◌}
use lib.Dec.{eqb, leb, ltb}
use borrow.Author.Tests.{ltb-true, leb-true, eqb-true, lt-ltb, le-leb, eq-eqb}
use Rattle.lists.specs.Table.{every}
use Rattle.lists.proofs.Tests.{and_left, and_right, both, every-at, every-all}

pub and-iff : (a b : Bool) → ((a && b) ≡ true) ↔ ((a ≡ true) × (b ≡ true))
and-iff a b = (λ e. (and_left a b e, and_right a b e), λ p. both a b p.0 p.1)

pub eqb-iff : (a b : ℕ) → (eqb a b ≡ true) ↔ (a ≡ b)
eqb-iff a b = (eqb-true a b, eq-eqb a b)

pub leb-iff : (a b : ℕ) → (leb a b ≡ true) ↔ (a ≤ b)
leb-iff a b = (leb-true a b, le-leb a b)

pub ltb_iff : (a b : ℕ) → (ltb a b ≡ true) ↔ (a < b)
ltb_iff a b = (ltb-true a b, lt-ltb a b)

pub every-iff : (n : ℕ) (f : ℕ → Bool) → (every n f ≡ true) ↔ ((i : ℕ) → i < n → f i ≡ true)
every-iff n f = (every-at n f, every-all n f)

pub ruleset facts = (and-iff, eqb-iff, leb-iff, ltb_iff, every-iff)

-- What the tests of a list are refused with, and so what the first that is not passed is refused with.
use mathlib.Core.Path.{◌≡◌, refl}
use mathlib.Core.List.{List, [], ◌∷◌, ◌++◌}
use Prim.Native.Nat.{ℕ, zero, suc}
use Rattle.lists.specs.Table.{table, joined}
use Rattle.plan.specs.Refusals.{Test, first}
use Rattle.plan.specs.Refusals.{Verdict}
use Rattle.plan.proofs.Firsts.{AllPass, Stops, here, later}

-- each test's number and block are so
abbrev pub Each : (ℕ → ℕ → Type 0) → List Test → Type 0
Each P [] = Unit {0}
Each P (t ∷ ts) = P t.number t.at × Each P ts

pub stops-each : (P : ℕ → ℕ → Type 0) {ts : List Test} {v : Verdict} → Each P ts → Stops ts v → P v.number v.at
stops-each P p (here e) = p.0
stops-each P p (later e s) = stops-each P p.1 s

pub each_append : (P : ℕ → ℕ → Type 0) (xs ys : List Test) → Each P xs → Each P ys → Each P (xs ++ ys)
each_append P [] ys p q = q
each_append P (t ∷ xs) ys p q = (p.0, each_append P xs ys p.1 q)

pub each-joined : (P : ℕ → ℕ → Type 0) (f : ℕ → List Test) → ((d : ℕ) → Each P (f d)) → (n : ℕ) → Each P (joined n f)
unfolding joined
each-joined P f h zero = tt
each-joined P f h (suc n) = each_append P (joined n f) (f n) (each-joined P f h n) (h n)

pub each-table : (P : ℕ → ℕ → Type 0) (n : ℕ) (f : ℕ → Test) → ((i : ℕ) → P (f i).number (f i).at) → Each P (table n f)
unfolding table
each-table P zero f h = tt
each-table P (suc n) f h = (h 0, each-table P n (λ k. f (suc k)) (λ i. h (suc i)))

-- behind tests that are passed the others decide
pub first-behind : (xs ys : List Test) → AllPass xs → first (xs ++ ys) ≡ first ys
unfolding first
first-behind [] ys p = refl
first-behind (t ∷ xs) ys p = simp p.0 (first-behind xs ys p.1)

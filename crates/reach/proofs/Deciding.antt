-- Numbers of which something can be decided: whether there is one below a bound, which is the first, and how many there are.
use mathlib.Core.Path.{◌≡◌, subst}
use mathlib.Core.Logic.{◌⊎◌, inl, inr}
use Prim.Native.Nat.{ℕ, zero, suc, ◌+◌, ◌≤◌, ◌<◌}
use native.Mathlib.Decide.{ℕ_discrete}
use native.Mathlib.Omega.{arith}
use Rattle.bits.specs.Set.{bit, size_below}

pub either? : {A B : Type 0} → Dec A → Dec B → Dec (A ⊎ B)
either? (yes a) b = yes (inl a)
either? (no n) (yes b) = yes (inr b)
either? (no n) (no m) = no (λ w. elim w [ inl a ↦ n a | inr b ↦ m b ])

-- ---- the first below n, if there is one

module _ (P : ℕ → Type 0) where
  pub record First (m : ℕ) : Type 0 where
    pub is : P m
    pub none_before : (i : ℕ) → i < m → P i → ⊥

  module _ (dec : (i : ℕ) → Dec (P i)) where
    first : (n : ℕ) → ((i : ℕ) → i < n → P i → ⊥) ⊎ ((m : ℕ) × (m < n) × First m)
    first zero = inl (λ i l p. omega arith)
    first (suc n) =
        elim (first n) [
          | inr w ↦ inr (w.0, omega (arith, w.1), w.2)
          | inl none ↦
              elim (dec n) [
                | yes p ↦ inr (n, omega arith, record { is = p; none_before = none })
                | no np ↦ inl (λ i l p. elim (ℕ_discrete i n) [ yes e ↦ np (subst P e p) | no ne ↦ none i (omega arith) p ])
              ]
        ]

    pub some_below : (n : ℕ) → Dec ((i : ℕ) × (i < n) × P i)
    some_below n = elim (first n) [ inl none ↦ no (λ w. none w.0 w.1 w.2) | inr w ↦ yes (w.0, w.1, w.2.is) ]

    pub first-up-to : (n : ℕ) → P n → (m : ℕ) × (m ≤ n) × First m
    first-up-to n p = elim (first (suc n)) [ inl none ↦ absurd (none n (omega arith) p) | inr w ↦ (w.0, omega (arith, w.1), w.2) ]

-- ---- how many there are below n

tally : {A : Type 0} → Dec A → ℕ
tally (yes _) = 1
tally (no _) = 0

tally-le : {A : Type 0} (a : Dec A) → tally a ≤ 1
unfolding tally
tally-le (yes _) = omega arith
tally-le (no _) = omega arith

-- what is so makes a bit 1
tally-bit : {A : Type 0} (b : ℕ) → (A → b ≡ 1) → (a : Dec A) → tally a ≤ b
unfolding tally
tally-bit b is (yes a) = let e = is a in omega arith
tally-bit b is (no _) = omega arith

module _ {A B : Type 0} where
  tally-more : (A → B) → (a : Dec A) (b : Dec B) → tally a ≤ tally b
  unfolding tally
  tally-more f (no _) b = omega arith
  tally-more f (yes _) (yes _) = omega arith
  tally-more f (yes a) (no n) = absurd (n (f a))

  tally-gains : B → (A → ⊥) → (a : Dec A) (b : Dec B) → tally a < tally b
  unfolding tally
  tally-gains x n (yes a) b = absurd (n a)
  tally-gains x n (no _) (yes _) = omega arith
  tally-gains x n (no _) (no m) = absurd (m x)

module _ (P : ℕ → Type 0) (dec : (i : ℕ) → Dec (P i)) where
  pub count : ℕ → ℕ
  count zero = 0
  count (suc n) = count n + tally (dec n)

  pub count-le : (n : ℕ) → count n ≤ n
  unfolding count
  count-le zero = omega arith
  count-le (suc n) = omega (arith, count-le n, tally-le (dec n))

  -- a set that has them all has no fewer members
  pub count-size : (set n : ℕ) → ((i : ℕ) → i < n → P i → bit set i ≡ 1) → count n ≤ size_below n set
  unfolding count size_below
  count-size set zero all = omega arith
  count-size set (suc n) all =
      omega (arith, count-size set n (λ i l. all i (omega arith)), tally-bit (bit set n) (all n (omega arith)) (dec n))

-- where each of one kind is of another too, there are no fewer of the other
module _ (P Q : ℕ → Type 0) (p? : (i : ℕ) → Dec (P i)) (q? : (i : ℕ) → Dec (Q i)) (more : (i : ℕ) → P i → Q i) where
  count-more : (n : ℕ) → count P p? n ≤ count Q q? n
  unfolding count
  count-more zero = omega arith
  count-more (suc n) = omega (arith, count-more n, tally-more (more n) (p? n) (q? n))

  -- and more, where there is one of the other only
  pub count-gains : (n e : ℕ) → e < n → Q e → (P e → ⊥) → count P p? n < count Q q? n
  unfolding count
  count-gains zero e l x y = absurd (omega arith)
  count-gains (suc n) e l x y =
      elim (ℕ_discrete e n) [
        | yes w ↦ omega (arith, count-more n, tally-gains (subst Q w x) (subst (λ i. P i → ⊥) w y) (p? n) (q? n))
        | no w ↦ omega (arith, count-gains n e (omega arith) x y, tally-more (more n) (p? n) (q? n))
      ]

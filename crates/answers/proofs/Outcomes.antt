-- How a call shows its promise: what checks say, and what the conditions come to at each return.
use mathlib.Core.Path.{◌≡◌, refl, sym, subst, ◌∙◌}
use mathlib.Core.Bool.{Bool, true, false, not, ◌&&◌, false≢true}
use mathlib.Core.List.{List, [], ◌∷◌, ◌++◌}
use mathlib.Core.Logic.{inl, inr}
use Prim.Native.Nat.{ℕ, ◌<◌}
use borrow.Author.Tests.{not-true, not-false}
use lib.Dec.{ltb}
use lib.ListN.{drop}
use Rattle.answers.specs.Decides.{Decides}
use Rattle.answers.specs.Ordered.{Condition, Ordered, Outcome}

-- ---- a check that was made

module _ {A : Type 0} {r : Bool} (d : Decides A r) where
  pub granted : not r ≡ false → A
  granted e = d.only (not-false r e)

  pub denied : not r ≡ true → A → ⊥
  denied e h = false≢true (sym (not-true r e) ∙ d.all h)

-- what does not hold is answered with false
pub fails : {A : Type 0} → (A → ⊥) → Decides A false
fails n = record { only = λ e. absurd (false≢true e); all = λ h. absurd (n h) }

-- some place below n is such
module _ (P : ℕ → Type 0) (n : ℕ) where
  pub found : (i : ℕ) → i < n → P i → Decides ((i : ℕ) × (i < n) × P i) true
  found i l p = record { only = λ _. (i, l, p); all = λ _. refl }

  pub nowhere : ((i : ℕ) → i < n → P i → ⊥) → Decides ((i : ℕ) × (i < n) × P i) false
  nowhere h = fails (λ w. h w.0 w.1 w.2)

-- ---- conditions in order

-- all of them hold
abbrev pub Holds : List Condition → Type 0
Holds [] = Unit {0}
Holds (c ∷ cs) = c.holds × Holds cs

-- none has the number 0, which says that all hold
abbrev pub numbered : List Condition → Bool
numbered [] = true
numbered (c ∷ cs) = ltb 0 c.number && numbered cs

pub holds : (cs : List Condition) → numbered cs ≡ true → {n : ℕ} → Ordered cs n → n ≡ 0 → Holds cs
holds [] e o z = tt
holds (c ∷ cs) e (inl p) z = absurd (false≢true (rw (sym p.1 ∙ z) at e))
holds (c ∷ cs) e (inr p) z = (p.0, holds cs (rest (ltb 0 c.number) e) p.1 z)
  where
    rest : (b : Bool) → (b && numbered cs) ≡ true → numbered cs ≡ true
    rest true e = e
    rest false e = absurd (false≢true e)

-- the first i conditions hold: the answer to the others is the answer to all
abbrev pub Past : List Condition → ℕ → Type 0
Past cs i = (n : ℕ) → Ordered (drop i cs) n → Ordered cs n

-- the first conditions hold, and the others are answered
pub passed : (xs ys : List Condition) (n : ℕ) → Holds xs → Ordered ys n → Ordered (xs ++ ys) n
passed [] ys n h o = o
passed (x ∷ xs) ys n h o = inr (h.0, passed xs ys n h.1 o)

-- one of the first conditions does not hold
pub stopped : (xs ys : List Condition) {n : ℕ} → Ordered xs n → (n ≡ 0 → ⊥) → Ordered (xs ++ ys) n
stopped [] ys o z = absurd (z o)
stopped (x ∷ xs) ys (inl p) z = inl p
stopped (x ∷ xs) ys (inr p) z = inr (p.0, stopped xs ys p.1 z)

-- ---- a call on one area

module _ {S : Type 0} {cs : List Condition} {before done : S} where
  pub outcome-refused : {n : ℕ} → Ordered cs n → (n ≡ 0 → ⊥) → Outcome cs before done n before
  outcome-refused o z = record { answers = o; made = λ e. absurd (z e); kept = λ _. refl }

  pub outcome-done : {n : ℕ} {after : S} → Ordered cs n → n ≡ 0 → after ≡ done → Outcome cs before done 0 after
  outcome-done o z e = record { answers = subst (Ordered cs) z o; made = λ _. e; kept = λ n. absurd (n refl) }

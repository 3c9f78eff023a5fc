-- The last place at which a test is true.
use mathlib.Core.Path.{◌≡◌, refl, sym, ap, ap₂, ◌∙◌}
use mathlib.Core.Bool.{Bool, true, false, cond, false≢true}
use Prim.Native.Nat.{ℕ, zero, suc, ◌+◌, ◌≤◌, ◌<◌}
use native.Mathlib.Decide.{ℕ_discrete}
use native.Mathlib.Omega.{arith}
use Rattle.mend.specs.Claims.{last}

-- it is the last, or there is none
pub data Lasts (n : ℕ) (f : ℕ → Bool) (none : ℕ) : ℕ → Type 0 where
  nowhere : ((i : ℕ) → i < n → f i ≡ false) → Lasts n f none none
  there : {i : ℕ} → i < n → f i ≡ true → ((j : ℕ) → i < j → j < n → f j ≡ false) → Lasts n f none i

pub last-is : (n : ℕ) (f : ℕ → Bool) (none : ℕ) → Lasts n f none (last n f none)
unfolding last
last-is zero f none = nowhere (λ i h. absurd (omega arith))
last-is (suc n) f none = by-test (f n) refl (last-is n f none)
  where
    more : {P : ℕ → Type 0} → ((i : ℕ) → i < n → P i) → P n → (i : ℕ) → i < suc n → P i
    more {P} h e i l = elim (ℕ_discrete i n) [ yes q ↦ rw q e | no q ↦ h i (omega arith) ]

    by-test : (b : Bool) → f n ≡ b → {m : ℕ} → Lasts n f none m → Lasts (suc n) f none (cond b n m)
    by-test true e r = there {i = n} (omega arith) e (λ j l k. absurd (omega arith))
    by-test false e (nowhere h) = nowhere (more h e)
    by-test false e (there {i = i} l t h) = there {i = i} (omega arith) t (λ j a b. elim (ℕ_discrete j n) [ yes q ↦ ap f q ∙ e | no q ↦ h j a (omega arith) ])

-- where it is true anywhere it is true there, and not before
pub last_found : (n : ℕ) (f : ℕ → Bool) (none i : ℕ) → i < n → f i ≡ true → (last n f none < n) × (f (last n f none) ≡ true) × (i ≤ last n f none)
last_found n f none i l e = by-case (last-is n f none)
  where
    by-case : {m : ℕ} → Lasts n f none m → (m < n) × (f m ≡ true) × (i ≤ m)
    by-case (nowhere h) = absurd (false≢true (sym (h i l) ∙ e))
    by-case (there {i = m} k t h) = (k, t, bound m (λ g. false≢true (sym (h i g l) ∙ e)))
      where
        bound : (m : ℕ) → (m < i → ⊥) → i ≤ m
        bound m g = omega arith

-- only the places below n count
pub last-same : (n : ℕ) (f g : ℕ → Bool) (none : ℕ) → ((i : ℕ) → i < n → f i ≡ g i) → last n f none ≡ last n g none
unfolding last
last-same zero f g none h = refl
last-same (suc n) f g none h = ap₂ (λ (b : Bool) (k : ℕ). cond b n k) (h n (omega arith)) (last-same n f g none (λ i l. h i (omega arith)))

-- it is no more than k, if neither a place below n nor what is given is
pub last-most : (n : ℕ) (f : ℕ → Bool) (none k : ℕ) → n ≤ k + 1 → none ≤ k → last n f none ≤ k
unfolding last
last-most zero f none k h l = l
last-most (suc n) f none k h l = by-test (f n) (last-most n f none k (omega arith) l)
  where
    by-test : (b : Bool) → last n f none ≤ k → cond b n (last n f none) ≤ k
    by-test true r = omega arith
    by-test false r = r

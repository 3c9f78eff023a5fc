-- Tests joined by "and" and "or", and the test of every place.
use mathlib.Core.Path.{◌≡◌, refl, sym, ap, ap₂, ◌∙◌}
use mathlib.Core.Bool.{Bool, true, false, ◌&&◌, ◌||◌, false≢true, and-true, and_assoc}
use mathlib.Core.Logic.{◌⊎◌, inl, inr, dite}
use Prim.Native.Nat.{ℕ, zero, suc, ◌+◌, ◌-◌, ◌*◌, ◌≤◌, ◌<◌}
use native.Mathlib.Decide.{dec_lt, ℕ_discrete}
use native.Mathlib.Nat.{add-zero, add-suc, mul-zero, mul-suc}
use native.Mathlib.Omega.{arith}
use Rattle.lists.specs.Table.{every}

pub and_left : (a b : Bool) → (a && b) ≡ true → a ≡ true
and_left true b e = refl
and_left false b e = e

pub and_right : (a b : Bool) → (a && b) ≡ true → b ≡ true
and_right true b e = e
and_right false b e = absurd (false≢true e)

pub both : (a b : Bool) → a ≡ true → b ≡ true → (a && b) ≡ true
both true b p q = q
both false b p q = p

pub or_cases : (a b : Bool) → (a || b) ≡ true → (a ≡ true) ⊎ (b ≡ true)
or_cases true b e = inl refl
or_cases false b e = inr e

pub or_left : (a b : Bool) → a ≡ true → (a || b) ≡ true
or_left true b e = refl
or_left false b e = absurd (false≢true e)

pub or_right : (a b : Bool) → b ≡ true → (a || b) ≡ true
or_right true b e = refl
or_right false b e = e

-- what is not so adds nothing
pub or_nothing : (a : Bool) → a ≡ (a || false)
or_nothing true = refl
or_nothing false = refl

-- two tests of which each is passed where the other is
pub same_truth : (a b : Bool) → (a ≡ true → b ≡ true) → (b ≡ true → a ≡ true) → a ≡ b
same_truth true b p q = sym (p refl)
same_truth false true p q = q refl
same_truth false false p q = refl

pub every-at : (n : ℕ) (f : ℕ → Bool) → every n f ≡ true → (i : ℕ) → i < n → f i ≡ true
unfolding every
every-at zero f e i h = absurd (omega arith)
every-at (suc n) f e i h =
    elim (ℕ_discrete i n) [ yes q ↦ ap f q ∙ and_right (every n f) (f n) e | no q ↦ every-at n f (and_left (every n f) (f n) e) i (omega arith) ]

pub every-all : (n : ℕ) (f : ℕ → Bool) → ((i : ℕ) → i < n → f i ≡ true) → every n f ≡ true
unfolding every
every-all zero f h = refl
every-all (suc n) f h = both (every n f) (f n) (every-all n f (λ i l. h i (omega arith))) (h n (omega arith))

pub every-not : (n : ℕ) (f : ℕ → Bool) (i : ℕ) → i < n → f i ≡ false → every n f ≡ false
every-not n f i h e = by-test (every n f) refl
  where
    by-test : (t : Bool) → every n f ≡ t → every n f ≡ false
    by-test false p = p
    by-test true p = absurd (false≢true (sym e ∙ every-at n f p i h))

pub every-same : (n : ℕ) (f g : ℕ → Bool) → ((i : ℕ) → i < n → f i ≡ g i) → every n f ≡ every n g
unfolding every
every-same zero f g h = refl
every-same (suc n) f g h = ap₂ (λ (a b : Bool). a && b) (every-same n f g (λ i l. h i (omega arith))) (h n (omega arith))

-- where those in front pass, it is for those behind them to say
pub every-behind : (n k : ℕ) (f : ℕ → Bool) → k ≤ n → ((i : ℕ) → i < k → f i ≡ true) → every (n - k) (λ i. f (k + i)) ≡ every n f
every-behind n k f h front =
    same_truth (every (n - k) (λ i. f (k + i))) (every n f)
    (λ z. every-all n f (λ i l. dite (dec_lt i k) (front i)
    (λ g. let e : k + (i - k) ≡ i = omega arith in rw e at (every-at (n - k) (λ i. f (k + i)) z (i - k) (omega arith)))))
    (λ z. every-all (n - k) _ (λ i l. every-at n f z (k + i) (omega arith)))

-- those in front, and those behind them
pub every-add : (k n : ℕ) (f : ℕ → Bool) → every (k + n) f ≡ (every k f && every n (λ i. f (k + i)))
unfolding every
every-add k zero f = rw add-zero (sym (and-true (every k f)))
every-add k (suc n) f = rw (add-suc, every-add k n f) (and_assoc (every k f) (every n (λ i. f (k + i))) (f (k + n)))

-- row after row, m of them with n places each
pub every-rows : (n m : ℕ) (f : ℕ → Bool) → every m (λ a. every n (λ b. f (n * a + b))) ≡ every (n * m) f
unfolding every
every-rows n zero f = rw mul-zero
every-rows n (suc m) f = rw (mul-suc, every-add (n * m) n f, every-rows n m f)

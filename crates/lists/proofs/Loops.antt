-- Counted loops: the invariant of the code's loop, and what holds after all the turns.
use mathlib.Core.Path.{◌≡◌, refl, sym, ap, subst, ◌∙◌}
use mathlib.Core.Logic.{◌⊎◌, inl, inr, ◌≢◌}
use Prim.Native.Nat.{ℕ, zero, suc, ◌+◌, ◌≤◌, ◌<◌}
use native.Mathlib.Nat.{add-zero, add-suc}
use native.Mathlib.Decide.{ℕ_discrete}
use native.Mathlib.Numerals.{add-one}
use native.Mathlib.Omega.{arith}
use Rattle.lists.specs.Loop.{up_to}

pub up_to-step : {S : Type 0} (f : ℕ → S → S) (n : ℕ) (s : S) → up_to f (n + 1) s ≡ f n (up_to f n s)
unfolding up_to
up_to-step f n s = rw add-one

-- ---- the invariant: n turns, of at most m, have led from s₀ to s

pub record After {S : Type 0} (f : ℕ → S → S) (m n : ℕ) (s₀ s : S) : Type 0 where
  pub within : n ≤ m
  pub is : s ≡ up_to f n s₀

module _ {S : Type 0} {f : ℕ → S → S} {m : ℕ} where
  -- no turn yet
  pub none : {s : S} → After f m 0 s s
  unfolding up_to
  none = record { within = omega arith; is = refl }

  -- one turn more, by what the loop's body ensures
  pub turn : {n : ℕ} {s₀ s t : S} → After f m n s₀ s → n < m → t ≡ f n s → After f m (n + 1) s₀ t
  turn {n} {s₀} v h e = record { within = omega arith; is = rw up_to-step (e ∙ ap (f n) v.is) }

  -- the loop is left
  pub done : {n : ℕ} {s₀ s : S} → After f m n s₀ s → m ≤ n → s ≡ up_to f m s₀
  done {n} {s₀} v h =
      let e : n ≡ m = omega arith in
      v.is ∙ ap (λ k. up_to f k s₀) e

-- ---- what holds after the turns

-- what each turn of two loops keeps between them, all keep
pub keeps-both : {S : Type 0} (f g : ℕ → S → S) (R : S → S → Type 0) (m : ℕ) → ((j : ℕ) (s t : S) → j < m → R s t → R (f j s) (g j t))
    → (s t : S) → R s t → R (up_to f m s) (up_to g m t)
unfolding up_to
keeps-both f g R zero h s t r = r
keeps-both f g R (suc m) h s t r = h m (up_to f m s) (up_to g m t) (omega arith) (keeps-both f g R m (λ j u v l. h j u v (omega arith)) s t r)

-- the same turns
pub up_to-same : {S : Type 0} (f g : ℕ → S → S) (m : ℕ) → ((j : ℕ) (s : S) → j < m → f j s ≡ g j s) → (s : S) → up_to f m s ≡ up_to g m s
up_to-same f g m h s = keeps-both f g (λ t u. t ≡ u) m (λ j t u l e. h j t l ∙ ap (g j) e) s s refl

module _ {S : Type 0} (f : ℕ → S → S) where
  -- b turns after a turns
  pub up_to-add : (a b : ℕ) (s : S) → up_to f (a + b) s ≡ up_to (λ j. f (a + j)) b (up_to f a s)
  unfolding up_to
  up_to-add a zero s = rw add-zero
  up_to-add a (suc b) s = rw add-suc (ap (f (a + b)) (up_to-add a b s))

  -- what held after k turns, and every turn from there on keeps
  pub keeps-from : (P : S → Type 0) (k m : ℕ) → k ≤ m → ((j : ℕ) (s : S) → k ≤ j → j < m → P s → P (f j s)) → (s : S) → P (up_to f k s) → P (up_to f m s)
  unfolding up_to
  keeps-from P k zero l h s p =
      let e : k ≡ 0 = omega arith in
      subst (λ n. P (up_to f n s)) e p
  keeps-from P k (suc m) l h s p =
      elim (ℕ_discrete k (suc m)) [
        | yes e ↦ subst (λ n. P (up_to f n s)) e p
        | no ne ↦ h m (up_to f m s) (omega arith) (omega arith) (keeps-from P k m (omega arith) (λ j t a b. h j t a (omega arith)) s p)
      ]

  -- what every turn keeps, all keep
  pub keeps : (P : S → Type 0) (m : ℕ) → ((j : ℕ) (s : S) → j < m → P s → P (f j s)) → (s : S) → P s → P (up_to f m s)
  unfolding up_to
  keeps P m h s p = keeps-from P 0 m (omega arith) (λ j t a b. h j t b) s p

  -- turns after the first k that change nothing
  pub up_to-still : (k m : ℕ) → k ≤ m → (s : S) → ((j : ℕ) → k ≤ j → j < m → f j (up_to f k s) ≡ up_to f k s) → up_to f m s ≡ up_to f k s
  up_to-still k m l s h = keeps-from (λ t. t ≡ up_to f k s) k m l (λ j t a b e. ap (f j) e ∙ h j a b) s refl

  pub still : {m k n : ℕ} {s₀ s : S} → After f m k s₀ s → k ≤ n → n ≤ m → ((j : ℕ) → k ≤ j → j < n → f j s ≡ s) → After f m n s₀ s
  still {k = k} {n = n} {s₀ = s₀} v l h q =
      record {
        within = h;
        is = v.is ∙ sym (up_to-still k n l s₀ (λ j a b. subst (λ t. f j t ≡ t) v.is (q j a b)));
      }

  -- a look that no turn changes
  pub untouched : {X : Type 0} (look : S → X) (m : ℕ) → ((j : ℕ) (s : S) → j < m → look (f j s) ≡ look s) → (s : S) → look (up_to f m s) ≡ look s
  untouched look m h s = keeps (λ t. look t ≡ look s) m (λ j t l e. h j t l ∙ e) s refl

  -- beside what holds all the time, Q
  module _ (Q : S → Type 0) (m : ℕ) (q : (j : ℕ) (s : S) → j < m → Q s → Q (f j s)) where
    -- a look that only turn k changes, by c
    pub own : {X : Type 0} (look : S → X) (c : X → X) (k : ℕ) → k < m
        → ((j : ℕ) (s : S) → j < m → j ≢ k → Q s → look (f j s) ≡ look s) → ((s : S) → Q s → look (f k s) ≡ c (look s))
        → (s : S) → Q s → look (up_to f m s) ≡ c (look s)
    unfolding up_to
    own look c k l other mine s x =
        let before : Q (up_to f k s) × (look (up_to f k s) ≡ look s) =
        keeps (λ t. Q t × (look t ≡ look s)) k (λ j t b p. (q j t (omega arith) p.0, other j t (omega arith) (omega arith) p.0 ∙ p.1)) s (x, refl) in
        (keeps-from (λ t. Q t × (look t ≡ c (look s))) (suc k) m (omega arith) (λ j t a b p. (q j t b p.0, other j t b (omega arith) p.0 ∙ p.1)) s
        (q k (up_to f k s) l before.0, mine (up_to f k s) before.0 ∙ ap c before.1)).1

    -- what turn k brings about and later ones keep
    pub hit : (P : S → Type 0) (k : ℕ) → k < m → ((s : S) → Q s → P (f k s)) → ((j : ℕ) (s : S) → k < j → j < m → Q s → P s → P (f j s))
        → (s : S) → Q s → P (up_to f m s)
    unfolding up_to
    hit P k l mine later s x =
        let before : Q (up_to f k s) = keeps Q k (λ j t b. q j t (omega arith)) s x in
        (keeps-from (λ t. Q t × P t) (suc k) m (omega arith) (λ j t a b p. (q j t b p.0, later j t a b p.0 p.1)) s
        (q k (up_to f k s) l before, mine (up_to f k s) before)).1

    -- what holds after all held before, or came about in a turn j, and C says how
    pub came : (P : S → Type 0) (C : ℕ → S → Type 0) → ((j : ℕ) (s : S) → j < m → Q s → P (f j s) → P s ⊎ C j s)
        → (s : S) → Q s → P (up_to f m s) → P s ⊎ ((j : ℕ) × (j < m) × C j (up_to f j s))
    unfolding up_to
    came P C c s x p = below m (omega arith) p
      where
        below : (n : ℕ) → n ≤ m → P (up_to f n s) → P s ⊎ ((j : ℕ) × (j < m) × C j (up_to f j s))
        below zero l p = inl p
        below (suc n) l p =
            elim (c n (up_to f n s) l (keeps Q n (λ j t b. q j t (omega arith)) s x) p) [
              | inr y ↦ inr (n, l, y)
              | inl y ↦ below n (omega arith) y
            ]

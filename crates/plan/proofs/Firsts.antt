-- Tests in order: what it is that all pass, or that one is the first to fail, over lists joined in order.
use mathlib.Core.Path.{◌≡◌, refl}
use mathlib.Core.Bool.{Bool, true, false, cond}
use mathlib.Core.List.{List, [], ◌∷◌, ◌++◌}
use mathlib.Core.Logic.{◌⊎◌, inl, inr}
use Prim.Native.Nat.{ℕ, zero, suc, ◌≤◌, ◌<◌}
use native.Mathlib.Decide.{ℕ_discrete}
use native.Mathlib.Omega.{arith}
use Rattle.lists.specs.Table.{table, joined}
use Rattle.plan.specs.Refusals.{Test, accepts, first}
use Rattle.plan.specs.Refusals.{Verdict}

-- every test is passed
abbrev pub AllPass : List Test → Type 0
AllPass [] = Unit {0}
AllPass (t ∷ ts) = (t.passes ≡ true) × AllPass ts

-- what is refused with
abbrev pub fails : Test → Verdict
fails t = record { number = t.number; at = t.at }

-- v is what the first test that is not passed is refused with
pub data Stops : List Test → Verdict → Type 0 where
  here : {t : Test} {ts : List Test} → t.passes ≡ false → Stops (t ∷ ts) (fails t)
  later : {t : Test} {ts : List Test} {v : Verdict} → t.passes ≡ true → Stops ts v → Stops (t ∷ ts) v

pub first-accepts : (ts : List Test) → AllPass ts → first ts ≡ accepts
unfolding first
first-accepts [] p = refl
first-accepts (t ∷ ts) p = simp p.0 (first-accepts ts p.1)

pub first_stops : {ts : List Test} {v : Verdict} → Stops ts v → first ts ≡ v
unfolding first
first_stops (here e) = simp e
first_stops (later e s) = simp e (first_stops s)

-- one or the other
pub passes-or-stops : (ts : List Test) → AllPass ts ⊎ Stops ts (first ts)
unfolding first
passes-or-stops [] = inl tt
passes-or-stops (t ∷ ts) = by-test t.passes refl (passes-or-stops ts)
  where
    by-test : (b : Bool) → t.passes ≡ b → AllPass ts ⊎ Stops ts (first ts) → AllPass (t ∷ ts) ⊎ Stops (t ∷ ts) (cond b (first ts) (fails t))
    by-test false e r = inr (here e)
    by-test true e (inl p) = inl (e, p)
    by-test true e (inr s) = inr (later e s)

-- the numbers of the reader's refusals
abbrev pub Refusal : ℕ → Type 0
Refusal n = (20 ≤ n) × (n ≤ 27)

-- every test is refused with one of them
abbrev pub Numbered : List Test → Type 0
Numbered [] = Unit {0}
Numbered (t ∷ ts) = Refusal t.number × Numbered ts

pub stops-numbered : {ts : List Test} {v : Verdict} → Numbered ts → Stops ts v → Refusal v.number
stops-numbered n (here e) = n.0
stops-numbered n (later e s) = stops-numbered n.1 s

pub accepts-all : (ts : List Test) → Numbered ts → (first ts).number ≡ 0 → AllPass ts
accepts-all ts n e = elim (passes-or-stops ts) [ inl p ↦ p | inr s ↦ absurd (omega (arith, stops-numbered n s)) ]

-- ---- lists one behind the other

pub all_append : (xs ys : List Test) → AllPass xs → AllPass ys → AllPass (xs ++ ys)
all_append [] ys p q = q
all_append (t ∷ xs) ys p q = (p.0, all_append xs ys p.1 q)

pub all-front : (xs ys : List Test) → AllPass (xs ++ ys) → AllPass xs
all-front [] ys p = tt
all-front (t ∷ xs) ys p = (p.0, all-front xs ys p.1)

pub all_back : (xs ys : List Test) → AllPass (xs ++ ys) → AllPass ys
all_back [] ys p = p
all_back (t ∷ xs) ys p = all_back xs ys p.1

pub stops-front : {xs : List Test} {v : Verdict} (ys : List Test) → Stops xs v → Stops (xs ++ ys) v
stops-front ys (here e) = here e
stops-front ys (later e s) = later e (stops-front ys s)

pub stops-back : (xs : List Test) {ys : List Test} {v : Verdict} → AllPass xs → Stops ys v → Stops (xs ++ ys) v
stops-back [] p s = s
stops-back (t ∷ xs) p s = later p.0 (stops-back xs p.1 s)

pub numbered-append : (xs ys : List Test) → Numbered xs → Numbered ys → Numbered (xs ++ ys)
numbered-append [] ys p q = q
numbered-append (t ∷ xs) ys p q = (p.0, numbered-append xs ys p.1 q)

-- ---- a list for each of n

module _ (f : ℕ → List Test) where
  pub all-joined : (n : ℕ) → ((d : ℕ) → d < n → AllPass (f d)) → AllPass (joined n f)
  unfolding joined
  all-joined zero h = tt
  all-joined (suc n) h = all_append (joined n f) (f n) (all-joined n (λ d l. h d (omega arith))) (h n (omega arith))

  pub all-at : (n : ℕ) → AllPass (joined n f) → (d : ℕ) → d < n → AllPass (f d)
  unfolding joined
  all-at zero p d h = absurd (omega arith)
  all-at (suc n) p d h =
      elim (ℕ_discrete d n) [ yes q ↦ rw q (all_back (joined n f) (f n) p) | no q ↦ all-at n (all-front (joined n f) (f n) p) d (omega arith) ]

  -- the first d pass, and the next one stops
  pub stops-joined : (n d : ℕ) {v : Verdict} → ((e : ℕ) → e < d → AllPass (f e)) → Stops (f d) v → d < n → Stops (joined n f) v
  unfolding joined
  stops-joined zero d h s l = absurd (omega arith)
  stops-joined (suc n) d h s l =
      elim (ℕ_discrete d n) [
        | yes q ↦ stops-back (joined n f) (all-joined n (λ e k. h e (omega arith))) (rw q at s)
        | no q ↦ stops-front (f n) (stops-joined n d h s (omega arith))
      ]

  pub numbered-joined : (n : ℕ) → ((d : ℕ) → Numbered (f d)) → Numbered (joined n f)
  unfolding joined
  numbered-joined zero h = tt
  numbered-joined (suc n) h = numbered-append (joined n f) (f n) (numbered-joined n h) (h n)

-- ---- a test for each of n

pub all-table : (n : ℕ) (f : ℕ → Test) → ((i : ℕ) → i < n → (f i).passes ≡ true) → AllPass (table n f)
unfolding table
all-table zero f h = tt
all-table (suc n) f h = (h 0 (omega arith), all-table n (λ k. f (suc k)) (λ i l. h (suc i) (omega arith)))

pub all-table-at : (n : ℕ) (f : ℕ → Test) → AllPass (table n f) → (i : ℕ) → i < n → (f i).passes ≡ true
unfolding table
all-table-at zero f p i h = absurd (omega arith)
all-table-at (suc n) f p zero h = p.0
all-table-at (suc n) f p (suc i) h = all-table-at n (λ k. f (suc k)) p.1 i (omega arith)

pub stops-table : (n : ℕ) (f : ℕ → Test) (i : ℕ) → ((j : ℕ) → j < i → (f j).passes ≡ true) → (f i).passes ≡ false → i < n → Stops (table n f) (fails (f i))
unfolding table
stops-table zero f i h e l = absurd (omega arith)
stops-table (suc n) f zero h e l = here e
stops-table (suc n) f (suc i) h e l = later (h 0 (omega arith)) (stops-table n (λ k. f (suc k)) i (λ j k. h (suc j) (omega arith)) e (omega arith))

pub numbered-table : (n : ℕ) (f : ℕ → Test) → ((i : ℕ) → Refusal (f i).number) → Numbered (table n f)
unfolding table
numbered-table zero f h = tt
numbered-table (suc n) f h = (h 0, numbered-table n (λ k. f (suc k)) (λ i. h (suc i)))

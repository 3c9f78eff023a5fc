-- The connections in order, by device and then port: all point back, or one is the first that does not.
use mathlib.Core.Path.{◌≡◌, refl, sym, ap, ◌∙◌}
use mathlib.Core.Bool.{Bool, true, false, ◌&&◌, false≢true}
use Prim.Native.Nat.{ℕ, zero, suc, ◌+◌, ◌<◌, ◌≤◌}
use native.Mathlib.Omega.{arith}
use lib.Dec.{eqb}
use borrow.Author.Count.{below_more}
use borrow.Author.Tests.{eq-eqb, ne_eqb}
use Rattle.lists.specs.Table.{joined, every}
use Rattle.lists.proofs.Tests.{every-at}
use Rattle.plan.specs.Fields.{joins}
use Rattle.plan.specs.Refusals.{first, join_tests}
use Rattle.plan.proofs.Firsts.{AllPass, all-joined, all-table, stops-joined, stops-table, first-accepts, first_stops}

-- the first place at which a test fails
pub record Fails (n : ℕ) (f : ℕ → Bool) : Type 0 where
  pub place : ℕ
  pub below : place < n
  pub fails : f place ≡ false
  pub before : (j : ℕ) → j < place → f j ≡ true

pub not-every : (n : ℕ) (f : ℕ → Bool) → every n f ≡ false → Fails n f
unfolding every
not-every zero f e = absurd (false≢true (sym e))
not-every (suc n) f e = by-test (every n f) refl (not-every n f)
  where
    by-test : (t : Bool) → every n f ≡ t → (every n f ≡ false → Fails n f) → Fails (suc n) f
    by-test false q r = record { place = (r q).place; below = omega (arith, (r q).below); fails = (r q).fails; before = (r q).before }
    by-test true q r = record { place = n; below = omega arith; fails = sym (ap (λ (t : Bool). t && f n) q) ∙ e; before = every-at n f q }

module _ (ports : ℕ → ℕ) (peer : ℕ → ℕ → ℕ) where
  -- every connection of the devices before d points back
  abbrev pub Passed : ℕ → Type 0
  Passed d = (e : ℕ) → e < d → AllPass (join_tests ports peer e)

  abbrev pub block : ℕ → ℕ
  block n = (first (joined n (join_tests ports peer))).at

  passes : (d : ℕ) → ((p : ℕ) → p < 8 → joins ports peer d p ≡ true) → AllPass (join_tests ports peer d)
  unfolding join_tests
  passes d h = all-table 8 _ h

  pub passed-next : (d : ℕ) → Passed d → ((p : ℕ) → p < 8 → joins ports peer d p ≡ true) → Passed (d + 1)
  passed-next d h g = below_more _ d h (passes d g)

  pub block_none : (n d : ℕ) → Passed d → n ≤ d → 0 ≡ block n
  block_none n d h l = sym (ap (λ v. v.at) (first-accepts _ (all-joined _ n (λ e k. h e (omega arith)))))

  pub block-bad : (n d p : ℕ) → Passed d → d < n → ((j : ℕ) → j < p → joins ports peer d j ≡ true) → p < 8 → joins ports peer d p ≡ false
      → d + 1 ≡ block n
  unfolding join_tests
  block-bad n d p h l g m e =
      let one : 1 + d ≡ block n = sym (ap (λ v. v.at) (first_stops (stops-joined _ n d h (stops-table 8 _ p g e m) l))) in omega arith

  -- no block is bad exactly if every connection points back
  pub block-every : (n : ℕ) → eqb (block n) 0 ≡ every n (λ d. every 8 (joins ports peer d))
  block-every n = by-test (every n (λ d. every 8 (joins ports peer d))) refl
    where
      by-test : (t : Bool) → every n (λ d. every 8 (joins ports peer d)) ≡ t → eqb (block n) 0 ≡ t
      by-test true e = eq-eqb _ _ (sym (block_none n n (λ d l. passes d (every-at 8 _ (every-at n _ e d l))) (omega arith)))
      by-test false e =
          let dev = not-every n _ e in
          let port = not-every 8 _ dev.fails in
          let passed : Passed dev.place = λ d l. passes d (every-at 8 _ (dev.before d l)) in
          let bad : dev.place + 1 ≡ block n = block-bad n dev.place port.place passed dev.below port.before port.below port.fails in
          ne_eqb (block n) 0 (λ z. omega arith)

-- The loads of a plan, the common ones and then pair by pair: what stands where in what block 0 says, and that any list of so many is made so.
use mathlib.Core.Path.{◌≡◌, refl, sym, ap, ◌∙◌}
use mathlib.Core.List.{List, [], ◌∷◌}
use Prim.Native.Nat.{ℕ, zero, suc, ◌+◌, ◌*◌, ◌<◌}
use native.Mathlib.Nat.{mul-suc, mul-zero}
use native.Mathlib.Omega.{arith}
use lib.ListN.{length, get_or, take, drop}
use lib.Seq.{get_or-take, get_or-drop, drop-drop}
use Rattle.std.specs.Simd.{first_chunks}
use Rattle.lists.specs.Table.{table, joined}
use Rattle.lists.proofs.Tables.{is-table, same-table, length-joined, get_d-joined, joined-tables}
use Rattle.plan.specs.Header.{header_in, pair_in, pair_at}
use Rattle.plan.specs.Inner.Memory.{at}

-- the places of a pair, as they are reckoned
pub node_at : (k : ℕ) → pair_at k 0 ≡ 2 + 2 * k
node_at k = omega arith

pub router-at : (k : ℕ) → pair_at k 1 ≡ 2 + 2 * k + 1
router-at k = omega arith

-- the runs of n numbers that stand one behind the other
pub runs : (n k b : ℕ) (xs : List ℕ) → b < k → get_or (first_chunks n k xs) b [] ≡ take n (drop (n * b) xs)
runs n zero b xs h = absurd (omega arith)
runs n (suc k) zero xs h = ap (λ j. take n (drop j xs)) (sym (mul-zero n))
runs n (suc k) (suc b) xs h = runs n k b (drop n xs) (omega arith) ∙ ap (take n) (drop-drop (n * b) n xs ∙ ap (λ j. drop j xs) (omega (arith, mul-suc n b)))

-- the pairs as they stand one behind the other
pub pair-run : (loads : List ℕ) (k role : ℕ) → k < 32 → role < 2 → at (get_or (first_chunks 2 32 (drop 2 loads)) k []) role ≡ at loads (pair_at k role)
pair-run loads k role h l =
    ap (λ (pair : List ℕ). at pair role) (runs 2 32 k (drop 2 loads) h) ∙ get_or-take 2 (drop (2 * k) (drop 2 loads)) role 0 l ∙ get_or-drop (2 * k) (drop 2 loads) role 0
    ∙ get_or-drop 2 loads (2 * k + role) 0

module _ (s : List ℕ) where
  pub length-loads : length (header_in s).loads ≡ 66
  length-loads = ap (λ n. suc (suc n)) (length-joined 2 (pair_in s) 32 (λ k l. refl))

  pub pair-at : (k role : ℕ) → k < 32 → role < 2 → at (header_in s).loads (pair_at k role) ≡ at (pair_in s k) role
  pair-at k role h l =
      let e : pair_at k role ≡ suc (suc (2 * k + role)) = omega arith in
      ap (at (header_in s).loads) e ∙ get_d-joined 2 (pair_in s) 32 (λ d g. refl) k role 0 h l

front : (n : ℕ) (f : ℕ → ℕ) → table (suc (suc n)) f ≡ f 0 ∷ f 1 ∷ table n (λ i. f (2 + i))
unfolding table
front n f = ap (λ (r : List ℕ). f 0 ∷ f 1 ∷ r) (same-table n _ _ (λ i h. ap f (omega arith)))

pairs : (n : ℕ) (f : ℕ → ℕ) → joined n (λ k. f (2 * k + 0) ∷ f (2 * k + 1) ∷ []) ≡ table (2 * n) f
unfolding table
pairs n f = joined-tables 2 n f

pub as-pairs : (l : List ℕ) → length l ≡ 66 → l ≡ at l 0 ∷ at l 1 ∷ joined 32 (λ k. at l (pair_at k 0) ∷ at l (pair_at k 1) ∷ [])
as-pairs l e = is-table 66 (at l) l 0 e (λ i h. refl) ∙ front 64 (at l) ∙ ap (λ (r : List ℕ). at l 0 ∷ at l 1 ∷ r) (sym (pairs 32 (λ i. at l (2 + i))))

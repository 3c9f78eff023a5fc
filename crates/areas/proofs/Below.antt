-- Sets merged into one: what they come to has no bit from a place on exactly where none of them has.
use mathlib.Core.Path.{◌≡◌, sym, ap, ◌∙◌}
use mathlib.Core.Bool.{◌&&◌}
use mathlib.Core.List.{List}
use mathlib.Core.Logic.{dite}
use Prim.Native.Nat.{ℕ, zero, suc, ◌^◌, ◌≤◌}
use native.Mathlib.Decide.{dec_lt, ℕ_discrete}
use native.Mathlib.Omega.{arith}
use lib.Bits.{bit_or, or_lt, or_add_and, and_le_l, and_le_r}
use lib.Dec.{eqb, ltb}
use lib.ListN.{length, get_or, take}
use lib.Seq.{take-suc, take-length}
use lib.Pow.{pow_pos}
use borrow.Author.Tests.{lt-ltb, le-ltb, eq-eqb, ne_eqb}
use Rattle.std.specs.List.{fold}
use Rattle.std.proofs.lemmas.List.Sums.{fold-append}
use Rattle.lists.specs.Table.{every}
use Rattle.lists.proofs.Tests.{every-same}

pub or-below : (k a b : ℕ) → ltb (bit_or a b) (2 ^ k) ≡ (ltb a (2 ^ k) && ltb b (2 ^ k))
or-below k a b =
    dite (dec_lt a (2 ^ k))
    (λ p. dite (dec_lt b (2 ^ k))
    (λ q. rw (lt-ltb a (2 ^ k) p, lt-ltb b (2 ^ k) q) (lt-ltb (bit_or a b) (2 ^ k) (or_lt k a b p q)))
    (λ q. rw (lt-ltb a (2 ^ k) p, le-ltb b (2 ^ k) (omega arith)) (le-ltb (bit_or a b) (2 ^ k) (omega (arith, or_add_and a b, and_le_l a b)))))
    (λ p. rw (le-ltb a (2 ^ k) (omega arith)) (le-ltb (bit_or a b) (2 ^ k) (omega (arith, or_add_and a b, and_le_r a b))))

pub merged-below : (k : ℕ) (area : List ℕ) → ltb (fold bit_or 0 area) (2 ^ k) ≡ every (length area) (λ i. ltb (get_or area i 0) (2 ^ k))
unfolding every
merged-below k area = ap (λ l. ltb (fold bit_or 0 l) (2 ^ k)) (sym (take-length area)) ∙ front (length area) (omega arith)
  where
    front : (n : ℕ) → n ≤ length area → ltb (fold bit_or 0 (take n area)) (2 ^ k) ≡ every n (λ i. ltb (get_or area i 0) (2 ^ k))
    front zero h = lt-ltb 0 (2 ^ k) (pow_pos k)
    front (suc n) h =
        rw (take-suc area n 0 (omega arith), fold-append bit_or 0 (take n area))
        (or-below k (fold bit_or 0 (take n area)) (get_or area n 0) ∙ rw (front n (omega arith)))

pub merged_short : (area : List ℕ) → ltb (fold bit_or 0 area) 65536 ≡ every (length area) (λ i. ltb (get_or area i 0) 65536)
merged_short area = merged-below 16 area

-- 0 is what is below 1
pub zero-below : (x : ℕ) → ltb x 1 ≡ eqb x 0
zero-below x = elim (ℕ_discrete x 0) [ yes e ↦ rw (eq-eqb x 0 e) (lt-ltb x 1 (omega arith)) | no n ↦ rw (ne_eqb x 0 n) (le-ltb x 1 (omega arith)) ]

-- so an area is merged into 0 where it has nothing else
pub merged_zero : (area : List ℕ) → eqb (fold bit_or 0 area) 0 ≡ every (length area) (λ i. eqb (get_or area i 0) 0)
merged_zero area =
    sym (zero-below (fold bit_or 0 area)) ∙ merged-below 0 area ∙ every-same (length area) (λ i. ltb (get_or area i 0) 1) (λ i. eqb (get_or area i 0) 0) (λ i l. zero-below (get_or area i 0))

-- and two sets are where both are empty
pub or-zero : (a b : ℕ) → eqb (bit_or a b) 0 ≡ (eqb a 0 && eqb b 0)
or-zero a b = sym (zero-below (bit_or a b)) ∙ or-below 0 a b ∙ rw (zero-below a, zero-below b)

-- The first member from a place on: that there is only one, that the search finds it, and that the code does.
use mathlib.Core.Path.{◌≡◌, refl, sym, ap, ◌∙◌}
use mathlib.Core.Logic.{dite}
use Prim.Native.Nat.{ℕ, zero, suc, ◌+◌, ◌-◌, ◌/◌, ◌%◌, ◌^◌, ◌≤◌, ◌<◌}
use native.Mathlib.Decide.{dec_lt, ℕ_discrete}
use native.Mathlib.Nat.{add-zero, add-suc}
use native.Mathlib.Omega.{arith}
use lib.Count.{count_trailing_zeros}
use lib.Pow.{shr-shr, shr_le}
use Rattle.bits.specs.Set.{bit}
use Rattle.bits.specs.First.{after, First, Finds, searched, first_from}
use Rattle.std.specs.Prelude.{Option, Some, None}
use Rattle.bits.proofs.Sets.{bit_is, bit-two, bit-zero, bit-above}
use Rattle.bits.proofs.Trailing.{trailing_below, trailing_at, trailing_lt}

-- ---- going round

pub after-lt : (next k : ℕ) → after next k < 32
unfolding after
after-lt next k = omega arith

-- the place that many after next is k
after-leads : (next k : ℕ) → k < 32 → (next + after next k) % 32 ≡ k
unfolding after
after-leads next k h = omega arith

-- and it comes that many after next
leads-after : (next i : ℕ) → i < 32 → after next ((next + i) % 32) ≡ i
unfolding after
leads-after next i h = omega arith

pub after_same : (next j k : ℕ) → j < 32 → k < 32 → after next j ≡ after next k → j ≡ k
after_same next j k hj hk e = sym (after-leads next j hj) ∙ ap (λ (i : ℕ). (next + i) % 32) e ∙ after-leads next k hk

-- ---- there is only one first member

pub first-unique : (x next : ℕ) (r s : Option ℕ) → Finds x next r → Finds x next s → r ≡ s
unfolding Finds
first-unique x next (Some i) (Some j) p q =
    ap Some (after_same next i j p.place q.place (omega (arith, p.nearest j q.place q.member, q.nearest i p.place p.member)))
first-unique x next (Some i) None p q = absurd (omega (arith, p.member, q i p.place))
first-unique x next None (Some j) p q = absurd (omega (arith, q.member, p j q.place))
first-unique x next None None p q = refl

-- ---- the search finds it

module _ (x next : ℕ) where
  -- i places were passed, and n are left
  from : (n i : ℕ) → i + n ≡ 32 → ((j : ℕ) → j < i → bit x ((next + j) % 32) ≡ 0) → Finds x next (searched x n (next + i))
  unfolding searched Finds
  from zero i e passed = λ k h. ap (bit x) (sym (after-leads next k h)) ∙ passed (after next k) (omega (arith, after-lt next k))
  from (suc n) i e passed = go (from n (suc i) (omega arith)) (bit x ((next + i) % 32)) refl
    where
      go : (((j : ℕ) → j < suc i → bit x ((next + j) % 32) ≡ 0) → Finds x next (searched x n (next + suc i))) → (b : ℕ) → bit x ((next + i) % 32) ≡ b
          → Finds x next (elim b [ zero ↦ searched x n (suc (next + i)) | suc _ ↦ Some ((next + i) % 32) ])
      go ih zero z = rw (← add-suc) (ih (λ j h. elim (ℕ_discrete j i) [ yes q ↦ ap (λ (o : ℕ). bit x ((next + o) % 32)) q ∙ z | no q ↦ passed j (omega arith) ]))
      go ih (suc b) z = record {
        place = omega arith;
        member = omega (arith, bit-two x ((next + i) % 32));
        nearest = λ k h m. dite (dec_lt (after next k) i)
            (λ l. absurd (omega (arith, m, passed (after next k) l, ap (bit x) (after-leads next k h))))
            (λ l. omega (arith, leads-after next i (omega arith)));
      }

  pub first_from-finds : Finds x next (first_from x next)
  unfolding first_from
  first_from-finds = rw add-zero at (from 32 0 refl (λ j h. absurd (omega arith)))

-- ---- the code finds it

-- a bit of a shifted number
bit-shr : (x j k : ℕ) → bit (x / 2 ^ j) k ≡ bit x (j + k)
bit-shr x j k = bit_is (x / 2 ^ j) k ∙ ap (λ (y : ℕ). y % 2) (shr-shr x j k) ∙ sym (bit_is x (j + k))

-- place k, seen from the place p below it
bit-from : (x p k : ℕ) → p ≤ k → bit (x / 2 ^ p) (k - p) ≡ bit x k
bit-from x p k h = bit-shr x p (k - p) ∙ ap (bit x) (omega arith)

module _ (x next : ℕ) (fits : x < 2 ^ 32) where
  -- a member stands at or above next
  pub upper : 0 < x / 2 ^ (next % 32) → First x next (next % 32 + count_trailing_zeros 32 (x / 2 ^ (next % 32)))
  unfolding after
  upper h =
      let p = next % 32 in
      let t = count_trailing_zeros 32 (x / 2 ^ p) in
      let l : t < 32 = trailing_lt 32 (x / 2 ^ p) h (omega (arith, shr_le x p)) in
      let m : bit x (p + t) ≡ 1 = sym (bit-shr x p t) ∙ trailing_at 32 (x / 2 ^ p) l in
      let w : p + t < 32 = dite (dec_lt (p + t) 32) (λ g. g) (λ g. absurd (omega (arith, bit-above 32 x (p + t) fits (omega arith)))) in
      record {
        place = w;
        member = m;
        nearest = λ k g b. dite (dec_lt k p) (λ u. omega arith)
            (λ u. dite (dec_lt (k - p) t)
            (λ v. absurd (omega (arith, trailing_below 32 (x / 2 ^ p) (k - p) v, bit-from x p k (omega arith))))
            (λ v. omega arith));
      }

  -- all members stand below next
  pub lower : 0 < x → x / 2 ^ (next % 32) ≤ 0 → First x next (count_trailing_zeros 32 x)
  unfolding after
  lower h z =
      let p = next % 32 in
      let t = count_trailing_zeros 32 x in
      let l : t < 32 = trailing_lt 32 x h fits in
      let none : x / 2 ^ p ≡ 0 = omega arith in
      let below : (k : ℕ) → bit x k ≡ 1 → k < p = λ k b. dite (dec_lt k p) (λ g. g)
      (λ g. absurd (omega (arith, bit-from x p k (omega arith), ap (λ (y : ℕ). bit y (k - p)) none, bit-zero (k - p)))) in
      record {
        place = l;
        member = trailing_at 32 x l;
        nearest = λ k g b. dite (dec_lt k t) (λ u. absurd (omega (arith, trailing_below 32 x k u)))
            (λ u. omega (arith, below k b, below t (trailing_at 32 x l)));
      }

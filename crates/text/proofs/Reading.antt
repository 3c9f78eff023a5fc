-- Digits read one by one: what is known of the first i bytes, one more, and all.
use mathlib.Core.Path.{◌≡◌, refl, subst, sym, ap, ◌∙◌}
use mathlib.Core.List.{List}
use Prim.Native.Nat.{ℕ, ◌+◌, ◌-◌, ◌*◌, ◌≤◌, ◌<◌, min}
use native.Mathlib.Numerals.{add-one}
use native.Mathlib.Omega.{arith}
use lib.ListN.{length, get_or, take}
use lib.Seq.{take-suc, take_all}
use borrow.Author.Count.{below_more}
use Rattle.std.specs.Prelude.{Some}
use Rattle.text.specs.Text.{value, value_from, IsDigit, greatest, Says, number}
use Rattle.text.proofs.Decimal.{value-last}

pub record ReadTo (w : List ℕ) (v i : ℕ) : Type 0 where
  pub within : i ≤ length w
  pub some : 0 < length w
  pub each : (k : ℕ) → k < i → IsDigit (get_or w k 0)
  pub so_far : v ≡ min (value (take i w)) greatest

pub read_none : {w : List ℕ} → 0 < length w → ReadTo w 0 0
unfolding value value_from
read_none h = record { within = omega arith; some = h; each = λ k l. absurd (omega arith); so_far = refl }

module _ {w : List ℕ} {v i : ℕ} (so : ReadTo w v i) where
  pub read_more : {r : ℕ} → i < length w → IsDigit (get_or w i 0) → r ≡ min (10 * v + (get_or w i 0 - 48)) greatest → ReadTo w r (i + 1)
  read_more h d e =
      let l : value (take (i + 1) w) ≡ 10 * value (take i w) + (get_or w i 0 - 48) =
      rw (add-one i, take-suc w i 0 h) (value-last (take i w) (get_or w i 0)) in
      record {
        within = omega arith;
        some = so.some;
        each = below_more _ _ so.each d;
        so_far = omega (arith, so.so_far, e, l);
      }

  pub read_all : length w ≤ i → Says w (Some v)
  read_all h =
      subst (λ (n : ℕ). Says w (Some n)) (sym (so.so_far ∙ ap (λ (l : List ℕ). min (value l) greatest) (take_all i w h)))
      (number (record { some = so.some; each = λ k l. so.each k (omega arith) }))

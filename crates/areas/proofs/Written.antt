-- An area written from its first word on: the invariant of the loops that copy and fill.
use mathlib.Core.Path.{◌≡◌, refl, sym, ◌∙◌}
use mathlib.Core.List.{List}
use Prim.Native.Nat.{ℕ, ◌+◌, ◌≤◌, ◌<◌}
use native.Mathlib.Omega.{arith}
use lib.ListN.{length, get_or, set, length-set}
use lib.Seq.{get_or-set_same, get_or-set_other}
use borrow.Author.Count.{below_more}
use Rattle.lists.specs.Table.{table}
use Rattle.lists.proofs.Tables.{is-table}

-- the first i of its n words are those of f
pub record Written (n : ℕ) (f : ℕ → ℕ) (area : List ℕ) (i : ℕ) : Type 0 where
  pub within : i ≤ n
  pub long : length area ≡ n
  pub same : (k : ℕ) → k < i → get_or area k 0 ≡ f k

module _ {n : ℕ} {f : ℕ → ℕ} {area : List ℕ} where
  pub none : length area ≡ n → Written n f area 0
  none e = record { within = omega arith; long = e; same = λ k l. absurd (omega arith) }

  pub turn : {i : ℕ} → Written n f area i → i < n → Written n f (set area i (f i)) (i + 1)
  turn {i} v h =
      record {
        within = omega arith;
        long = length-set area i (f i) ∙ v.long;
        same =
            below_more (λ k. get_or (set area i (f i)) k 0 ≡ f k) i (λ k l. get_or-set_other area i k (f i) 0 (omega arith) ∙ v.same k l)
            (get_or-set_same area i (f i) 0 (omega arith));
      }

  pub done : {i : ℕ} → Written n f area i → n ≤ i → area ≡ table n f
  done v h = is-table n f area 0 v.long (λ k l. v.same k (omega arith))

-- all words of another area
pub done-copy : {n : ℕ} {from area : List ℕ} {i : ℕ} → Written n (λ k. get_or from k 0) area i → n ≤ i → length from ≡ n → area ≡ from
done-copy {n} {from} v h e = done v h ∙ sym (is-table n (λ k. get_or from k 0) from 0 e (λ k l. refl))

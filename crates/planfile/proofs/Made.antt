-- A list of so many places, of which a loop makes the first ones: what is made of each is such, and none stands at the others.
use mathlib.Core.Path.{◌≡◌, subst, sym, ◌∙◌}
use mathlib.Core.List.{List}
use mathlib.Core.Logic.{dite}
use Prim.Native.Nat.{ℕ, ◌+◌, ◌≤◌, ◌<◌}
use native.Mathlib.Decide.{dec_lt, ℕ_discrete}
use native.Mathlib.Omega.{arith}
use lib.ListN.{length, get_or, set, replicate, length-set, length-replicate, get_or-replicate}
use lib.Seq.{get_or-set_same, get_or-set_other}
use borrow.Author.Tests.{lt-ltb, le-ltb}
use Rattle.std.proofs.lemmas.List.{get_or_past}
use Rattle.lists.specs.Table.{table}
use Rattle.lists.proofs.Tables.{is-table}
use Rattle.lists.proofs.Filled.{filling}

pub record Made {A : Type 0} (m : ℕ) (none : A) (P : ℕ → A → Type 0) (i : ℕ) (out : List A) : Type 0 where
  pub long : length out ≡ m
  pub made : (k : ℕ) → k < i → P k (get_or out k none)
  pub absent : (k : ℕ) → i ≤ k → get_or out k none ≡ none

module _ {A : Type 0} {m : ℕ} {none : A} {P : ℕ → A → Type 0} where
  pub made-none : Made m none P 0 (replicate m none)
  made-none =
      record {
        long = length-replicate m none;
        made = λ k h. absurd (omega arith);
        absent = λ k h. dite (dec_lt k m) (λ l. get_or-replicate m k none none l) (λ l. get_or_past (replicate m none) k none (omega (arith, length-replicate m none)));
      }

  pub made-more : {i : ℕ} {out : List A} {v : A} → Made m none P i out → i < m → P i v → Made m none P (i + 1) (set out i v)
  made-more {i} {out} {v} p h e =
      let l : i < length out = omega (arith, p.long) in
      record {
        long = length-set out i v ∙ p.long;
        made = λ k g. elim (ℕ_discrete k i) [
          | yes q ↦ subst (λ (j : ℕ). P j (get_or (set out i v) j none)) (sym q) (subst (P i) (sym (get_or-set_same out i v none l)) e)
          | no q ↦ subst (P k) (sym (get_or-set_other out i k v none q)) (p.made k (omega arith))
        ];
        absent = λ k g. get_or-set_other out i k v none (λ q. omega arith) ∙ p.absent k (omega arith);
      }

-- where what is made is what a function says, the list is its table
pub made-table : {A : Type 0} {m n : ℕ} {none : A} (f : ℕ → A) {out : List A} → length out ≡ m → ((k : ℕ) → k < n → get_or out k none ≡ f k)
    → ((k : ℕ) → n ≤ k → get_or out k none ≡ none) → out ≡ table m (filling none f n)
made-table {m = m} {n = n} {none = none} f {out} long made absent =
    is-table m (filling none f n) out none long
    (λ k h. dite (dec_lt k n)
    (λ l. made k l ∙ sym (simp (lt-ltb k n l)))
    (λ l. absent k (omega arith) ∙ sym (simp (le-ltb k n (omega arith)))))

-- and where all places are made
pub made-whole : {A : Type 0} {m : ℕ} (none : A) (f : ℕ → A) {out : List A} → length out ≡ m → ((k : ℕ) → k < m → get_or out k none ≡ f k) → out ≡ table m f
made-whole {m = m} none f {out} long made = is-table m f out none long made

-- A range of numbers that are all asked: the answer is the test of every place. And an array that is made of them: it is the table of what the calls
-- give.
use mathlib.Core.Path.{◌≡◌, refl, sym, ap, subst, ◌∙◌}
use mathlib.Core.Bool.{Bool, true, false, ◌&&◌, and-true, and_assoc}
use mathlib.Core.List.{List}
use Prim.Native.Nat.{ℕ, zero, suc, ◌+◌, ◌≤◌, ◌<◌}
use native.Mathlib.Decide.{ℕ_discrete}
use native.Mathlib.Nat.{add-zero}
use native.Mathlib.Omega.{arith}
use lib.ListN.{get_or}
use denote.Param.Members.{Mut}
use Rattle.std.specs.Fn.{Called}
use Rattle.std.specs.Iterator.{YieldsThen}
use Rattle.std.specs.List.{FoldsTo, list_all, range_with_len}
use Rattle.std.specs.Option.{MatchOption}
use Rattle.std.specs.Prelude.{Option}
use Rattle.std.specs.declared.ops.Range.{Range}
use Rattle.std.proofs.iter.Yields.{nat_range_steps}
use Rattle.std.proofs.lemmas.Iterator.{YieldsList-from_range}
use Rattle.std.proofs.lemmas.Iterator.Search.{all_from_yields_List}
use Rattle.std.specs.Array.{IsFromFnResultFrom, IsFromFnResult}
use Rattle.lists.specs.Table.{every, table}
use Rattle.lists.proofs.Tables.{is-table}
use Rattle.lists.proofs.Tests.{every-same}

every-first : (n : ℕ) (f : ℕ → Bool) → every (suc n) f ≡ (f 0 && every n (λ i. f (suc i)))
unfolding every
every-first zero f = sym (and-true (f 0))
every-first (suc n) f = ap (λ x. x && f (suc n)) (every-first n f) ∙ and_assoc (f 0) (every n (λ i. f (suc i))) (f (suc n))

in-range : (n a : ℕ) (f : ℕ → Bool) → list_all f (range_with_len a n) ≡ every n (λ i. f (a + i))
unfolding every
in-range zero a f = refl
in-range (suc n) a f =
    ap {A = Bool} (λ x. f a && x) (in-range n (a + 1) f ∙ every-same n _ _ (λ i h. let e : a + 1 + i ≡ a + suc i = omega arith in ap f e))
    ∙ sym (ap (λ z. f z && every n (λ i. f (a + suc i))) (add-zero a)) ∙ sym (every-first n (λ i. f (a + i)))

-- what `all` answers of 0 to n, by the test that its closure computes
pub every-asked : {F : Type 0} {g : Mut F (ℕ × Unit {0}) Bool} {s : Range ℕ} (n : ℕ) (test : ℕ → Bool) (u : Range ℕ) (f : F) (r : Bool)
    → (xs : List ℕ) × (o : Option ℕ) × (j : F) × YieldsThen nat_range_steps s xs o u × FoldsTo (λ p x q. Called g p (x, tt) true q) f xs j
    × MatchOption o (r ≡ true) (λ x. (r ≡ false) × ((h : F) × Called g j (x, tt) false h))
    → s ≡ record { start = 0; end = n } → ((x : ℕ) (b : Bool) (q : F) → Called g f (x, tt) b q → (q ≡ f) × (b ≡ test x)) → r ≡ every n test
every-asked n test u f r ran e asked =
    all_from_yields_List test u f r ran (YieldsList-from_range 0 n n e (omega arith)) asked ∙ in-range n 0 test ∙ every-same n _ _ (λ i h. let z : 0 + i ≡ i = omega arith in ap test z)

-- an array of n places that is made one by one, of numbers or anything else, by calls that change nothing
module _ {F B : Type 0} {g : Mut F (ℕ × Unit {0}) B} {x : F} {n : ℕ} (f : ℕ → B) (gives : (i : ℕ) (y : B) (q : F) → i < n → Called g x (i, tt) y q → (q ≡ x) × (y ≡ f i)) where
  placed : (ys : List B) (d : B) (i m : ℕ) (p : F) → i + m ≤ n → p ≡ x → IsFromFnResultFrom g p ys i m → (j : ℕ) → i ≤ j → j < i + m → get_or ys j d ≡ f j
  placed ys d i zero p r e w j l h = absurd (omega arith)
  placed ys d i (suc m) p r e w j l h =
      let one = gives i w.1 w.0 (omega arith) (subst (λ z. Called g z (i, tt) w.1 w.0) e w.3) in
      elim (ℕ_discrete j i) [
        | yes z ↦ rw z (w.2.1 d ∙ one.1)
        | no z ↦ placed ys d (i + 1) m w.0 (omega arith) one.0 w.4 j (omega arith) (omega arith)
      ]

pub made : {F B : Type 0} {g : Mut F (ℕ × Unit {0}) B} {x : F} {n : ℕ} {ys : List B} (f : ℕ → B) (d : B) → IsFromFnResult g x ys n
    → ((i : ℕ) (y : B) (q : F) → i < n → Called g x (i, tt) y q → (q ≡ x) × (y ≡ f i)) → ys ≡ table n f
made {x = x} {n} {ys} f d w gives = is-table n f ys d w.long (λ j l. placed f gives ys d 0 n x (omega arith) refl w.each j (omega arith) (omega arith))

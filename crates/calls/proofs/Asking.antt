-- What `any` answers of the numbers below n, by what its closure says of each.
use mathlib.Core.Path.{◌≡◌, subst, ◌∙◌}
use mathlib.Core.Bool.{Bool, true, false}
use mathlib.Core.List.{List}
use Prim.Native.Nat.{ℕ, ◌<◌}
use native.Mathlib.Nat.{zero-add}
use native.Mathlib.Omega.{arith}
use denote.Param.Members.{Mut}
use lib.ListN.{length}
use Rattle.std.specs.declared.ops.Range.{Range}
use Rattle.std.specs.Prelude.{Option, slice_index_or}
use Rattle.std.specs.Bool.{MatchBool}
use Rattle.std.specs.Fn.{Called}
use Rattle.std.specs.Iterator.{YieldsThen}
use Rattle.std.specs.List.{FoldsTo, AllWithin, HoldsAt, range_with_len}
use Rattle.std.specs.Option.{MatchOption}
use Rattle.std.proofs.iter.Yields.{nat_range_steps}
use Rattle.std.proofs.lemmas.Iterator.{YieldsList-from_range, cases_from_any}
use Rattle.std.proofs.lemmas.List.FromFn.{length-range_with_len, get_or-range_with_len}
use Rattle.answers.specs.Decides.{Decides}
use Rattle.answers.proofs.Outcomes.{found, nowhere}

pub some-asked : {F : Type 0} {g : Mut F (ℕ × Unit {0}) Bool} {s : Range ℕ} (n : ℕ) (P : ℕ → Type 0) (u : Range ℕ) (f : F) (r : Bool)
    → (xs : List ℕ) × (o : Option ℕ) × (j : F) × YieldsThen nat_range_steps s xs o u × FoldsTo (λ p x q. Called g p (x, tt) false q) f xs j
    × MatchOption o (r ≡ false) (λ x. (r ≡ true) × ((h : F) × Called g j (x, tt) true h))
    → s ≡ record { start = 0; end = n } → ((x : ℕ) (q : F) → Called g f (x, tt) true q → P x)
    → ((x : ℕ) (q : F) → Called g f (x, tt) false q → (q ≡ f) × (P x → ⊥)) → Decides ((i : ℕ) × (i < n) × P i) r
some-asked n P u f r ran e such none =
    by r (cases_from_any u f r P (λ x. P x → ⊥) ran (YieldsList-from_range 0 n n e (omega arith)) such none)
  where
    at : (i : ℕ) → i < n → (Q : ℕ → Type 0) → Q (slice_index_or (range_with_len 0 n) i i) → Q i
    at i l Q q = subst Q (get_or-range_with_len 0 n i i l ∙ zero-add i) q

    by : (b : Bool) → MatchBool b ((k : ℕ) × (k < length (range_with_len 0 n)) × HoldsAt P (range_with_len 0 n) k) (AllWithin (λ x. P x → ⊥) (range_with_len 0 n) 0 (length (range_with_len 0 n))) → Decides ((i : ℕ) × (i < n) × P i) b
    by true (k, l, h) = let m : k < n = omega (arith, length-range_with_len 0 n) in found P n k m (at k m P (h k))
    by false h = nowhere P n (λ i l. at i l (λ x. P x → ⊥) (h i i (omega arith) (omega (arith, length-range_with_len 0 n))))

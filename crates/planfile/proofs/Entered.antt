-- A loop that puts numbers into a block, n lists of them: those of the first i are put.
use mathlib.Core.Path.{◌≡◌, refl, sym, ap, ◌∙◌}
use mathlib.Core.List.{List}
use Prim.Native.Nat.{ℕ, ◌+◌, ◌≤◌, ◌<◌}
use native.Mathlib.Numerals.{add-one}
use native.Mathlib.Omega.{arith}
use lib.ListN.{length}
use Rattle.lists.specs.Table.{joined}
use Rattle.plan.specs.Inner.File.{Holding, filled}
use Rattle.plan.proofs.Holdings.{length-filled, filled-append}

pub record Entered (n : ℕ) (f : ℕ → List Holding) (before b : List ℕ) (i : ℕ) : Type 0 where
  pub within : i ≤ n
  pub long : length b ≡ length before
  pub same : b ≡ filled before (joined i f)

module _ {n : ℕ} {f : ℕ → List Holding} {before : List ℕ} where
  pub none : Entered n f before before 0
  unfolding joined
  none = record { within = omega arith; long = refl; same = refl }

  pub turn : {b after : List ℕ} {i : ℕ} → Entered n f before b i → i < n → after ≡ filled b (f i) → Entered n f before after (i + 1)
  unfolding joined
  turn {b} {after} {i} v h e =
      let same : after ≡ filled before (joined (i + 1) f) = e ∙ ap (λ t. filled t (f i)) v.same ∙ sym (rw add-one (filled-append before (joined i f) (f i))) in
      record { within = omega arith; long = ap length same ∙ length-filled before (joined (i + 1) f); same = same }

  pub done : {b : List ℕ} {i : ℕ} → Entered n f before b i → n ≤ i → b ≡ filled before (joined n f)
  done {i = i} v h = let e : i ≡ n = omega arith in v.same ∙ ap (λ k. filled before (joined k f)) e

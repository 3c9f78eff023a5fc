-- A part of an area: what is true of every word of it is true of those words of the area.
use mathlib.Core.Path.{◌≡◌}
use mathlib.Core.Bool.{Bool}
use mathlib.Core.List.{List}
use Prim.Native.Nat.{ℕ, ◌+◌, ◌≤◌}
use native.Mathlib.Omega.{arith}
use lib.Dec.{eqb}
use lib.ListN.{length, take, drop, get_or, length-take, length-drop}
use lib.Seq.{get_or-take, get_or-drop}
use Rattle.lists.specs.Table.{every}
use Rattle.lists.proofs.Tests.{every-same}
use Rattle.areas.specs.Put.{all_zero}

pub part-every : (f : ℕ → Bool) (l : List ℕ) (from n : ℕ) → from + n ≤ length l
    → every (length (take n (drop from l))) (λ i. f (get_or (take n (drop from l)) i 0)) ≡ every n (λ i. f (get_or l (from + i) 0))
part-every f l from n h =
    let e : length (take n (drop from l)) ≡ n = simp (length-take, length-drop) (omega arith) in
    rw e (every-same n _ _ (λ i k. rw (get_or-take, get_or-drop)))

pub part-zero : (l : List ℕ) (from n : ℕ) → from + n ≤ length l → all_zero (take n (drop from l)) ≡ every n (λ i. eqb (get_or l (from + i) 0) 0)
unfolding all_zero
part-zero l from n h = part-every (λ w. eqb w 0) l from n h

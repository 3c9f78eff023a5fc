-- What a device may bar: the masks in front may be any, and those behind them are 0.
use mathlib.Core.Path.{◌≡◌, sym, ◌∙◌}
use mathlib.Core.Bool.{Bool, true, false, cond, ◌||◌}
use mathlib.Core.Logic.{dite}
use Prim.Native.Nat.{ℕ, ◌+◌, ◌-◌, ◌*◌, ◌/◌, ◌≤◌, ◌<◌, min}
use native.Mathlib.Decide.{dec_lt, ℕ_discrete}
use native.Mathlib.Omega.{arith}
use lib.Dec.{eqb, ltb}
use borrow.Author.Tests.{lt-ltb, le-ltb, eq-eqb, ne_eqb}
use Rattle.lists.specs.Table.{every}
use Rattle.lists.proofs.Tests.{every-same, every-behind, or_left}
use Rattle.plan.specs.Fields.{bar_fits}
use Rattle.plan.specs.Inner.Memory.{free_masks}

-- a mask may be so where it is one of those in front, or is 0
pub bar-free : (role ports j mask : ℕ) → j < 16 → bar_fits role ports j mask ≡ (ltb j (free_masks role ports) || eqb mask 0)
unfolding bar_fits free_masks
bar-free role ports j mask h =
    elim (ℕ_discrete role 1) [
      | yes e ↦ rw (eq-eqb role 1 e) (dite (dec_lt j (2 * ports))
          (λ l. rw (lt-ltb (j / 2) ports (omega arith), lt-ltb j (min (2 * ports) 16) (omega arith)))
          (λ l. rw (le-ltb (j / 2) ports (omega arith), le-ltb j (min (2 * ports) 16) (omega arith))))
      | no n ↦ rw (ne_eqb role 1 n, le-ltb j 0 (omega arith))
    ]

pub free-most : (role ports : ℕ) → free_masks role ports ≤ 16
unfolding free_masks
free-most role ports = by-test (eqb role 1)
  where
    by-test : (b : Bool) → cond b (min (2 * ports) 16) 0 ≤ 16
    by-test true = omega arith
    by-test false = omega arith

-- so all of them may be so where those behind are 0
pub bars-behind : (role ports : ℕ) (f : ℕ → ℕ) → every (16 - free_masks role ports) (λ i. eqb (f (free_masks role ports + i)) 0) ≡ every 16 (λ j. bar_fits role ports j (f j))
bars-behind role ports f =
    let n = free_masks role ports in
    every-same (16 - n) _ _ (λ i l. sym (bar-free role ports (n + i) (f (n + i)) (omega arith) ∙ rw (le-ltb (n + i) n (omega arith))))
    ∙ every-behind 16 n (λ j. bar_fits role ports j (f j)) (free-most role ports) (λ i l. bar-free role ports i (f i) (omega (arith, free-most role ports)) ∙ or_left _ _ (lt-ltb i n l))

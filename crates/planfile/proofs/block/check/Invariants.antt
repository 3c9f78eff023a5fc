-- `planfile::block::check` meets its contract. The invariant: with the bytes below i still to come, an even number, the running sums come to the weighted sum. Assumes nothing.
use mathlib.Core.Path.{◌≡◌}
use mathlib.Core.List.{List}
use Prim.Native.Nat.{ℕ, suc, ◌+◌, ◌*◌, ◌-◌, ◌≤◌, ◌<◌}
use native.Mathlib.Omega.{arith}
use Rattle.plan.specs.Block.{byte, weighted}
use Rattle.planfile.proofs.Running.{running}
use Rattle.planfile.proofs.block.check.Given as goal

-- the bounds are loose: a running sum is 510 x 255 at most, and what a pair brings of its own 3 x 255
pub record Runs (block : List ℕ) (i sum sums own : ℕ) : Type 0 where
  pub comes-to : running block i sum (sums + sums + own) ≡ weighted block 510
  pub within : i ≤ 510
  pub half : ℕ
  pub twice : i ≡ half + half
  pub sum_fits : sum ≤ 255 * (510 - i)
  pub sums-fit : sums ≤ 130050 * (510 - i)
  pub own-fits : own ≤ 765 * (510 - i)

-- a pair more
pub down :
    {s : List ℕ} {i sum sums own high low : ℕ} → Runs s (suc (suc i)) sum sums own → high ≡ byte s (suc i) → high < 256 → low ≡ byte s i → low < 256 →
    Runs s i (sum + (high + low)) (sums + sum) (own + (high + (high + low)))
unfolding running
down {s} {i} {sum} {sums} {own} {high} {low} v e h f l =
    let sum_is : sum + (high + low) ≡ sum + high + low = omega arith in
    let sums-are : sums + sum + (sums + sum) + (own + (high + (high + low))) ≡ sums + sums + own + (sum + high) + (sum + high + low) = omega arith in
    record {
      comes-to = rw (sums-are, sum_is, e, f, v.comes-to);
      within = omega (arith, v.within);
      half = v.half - 1;
      twice = omega (arith, v.twice);
      sum_fits = omega (arith, v.within, v.sum_fits);
      sums-fit = omega (arith, v.within, v.sum_fits, v.sums-fit);
      own-fits = omega (arith, v.within, v.own-fits);
    }

abbrev pub invariant-loop-i : goal.invariant-loop-i
invariant-loop-i l = Runs l.block l.i l.sum l.sums l.own

abbrev pub decreases-loop-i : goal.decreases-loop-i
decreases-loop-i l = l.i

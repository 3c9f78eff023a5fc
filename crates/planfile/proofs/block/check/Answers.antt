-- `planfile::block::check` meets its contract. The invariant: with the bytes below i still to come, an even number, the running sums come to the weighted sum. Assumes nothing.
use mathlib.Core.Path.{◌≡◌, ap}
use Prim.Native.Nat.{ℕ, suc, ◌+◌, ◌-◌, ◌%◌}
use native.Mathlib.Omega.{arith}
use borrow.Author.Rules.{rules}
use Rattle.plan.specs.Block.{check}
use Rattle.planfile.proofs.Running.{running, running-weighted}
use Rattle.planfile.proofs.block.check.Invariants.{down}
use Rattle.planfile.proofs.block.check.Goals as goal

pub loop-i-init : goal.loop-i-init
loop-i-init c =
    record {
      comes-to = running-weighted _ 510;
      within = omega arith;
      half = 255;
      twice = omega arith;
      sum_fits = omega arith;
      sums-fit = omega arith;
      own-fits = omega arith;
    }

pub loop-i-preserved : goal.loop-i-preserved
loop-i-preserved c =
    let l = c.loop-i in
    let e : l.i ≡ suc (suc (l.i - 2)) = omega arith in
    let n : l.i - 2 + 1 ≡ suc (l.i - 2) = omega arith in
    down (rw e at l.invariant) (rw n at c.from-high.ensures) (search rules) c.from.ensures (search rules)

pub returns : goal.returns
unfolding check running
returns c =
    let v = c.loop-i.invariant in
    let e : c.loop-i.i ≡ 0 = omega (arith, v.twice) in
    ap (λ (x : ℕ). x % 65521) (rw e at v.comes-to)

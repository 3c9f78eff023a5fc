-- `plan::held::bars_right` meets its contract: the masks behind those that may be any are 0. Assumes nothing.
use mathlib.Core.Path.{◌≡◌, ◌∙◌}
use mathlib.Core.List.{List}
use Prim.Native.Nat.{ℕ, ◌+◌, ◌-◌, ◌*◌, ◌≤◌, ◌<◌}
use native.Mathlib.Omega.{arith}
use lib.Dec.{eqb}
use lib.ListN.{length, take, drop, get_or}
use Rattle.lists.specs.Table.{every}
use Rattle.lists.proofs.Tests.{every-same}
use Rattle.areas.specs.Put.{all_zero}
use Rattle.plan.specs.Fields.{bar_fits}
use Rattle.plan.specs.Inner.Memory.{free_masks}
use Rattle.areas.proofs.Parts.{part-zero}
use Rattle.plan.proofs.Bars.{bars-behind}
use Rattle.plan.proofs.held.bars_right.Goals as goal

behind : (barred : List ℕ) (role ports d free : ℕ) → length barred ≡ 512 → d < 32 → free ≡ free_masks role ports → free ≤ 16
    → all_zero (take (16 * d + 16 - (16 * d + free)) (drop (16 * d + free) barred)) ≡ every 16 (λ j. bar_fits role ports j (get_or barred (16 * d + j) 0))
behind barred role ports d free long h e l =
    let n : 16 * d + 16 - (16 * d + free) ≡ 16 - free = omega arith in
    rw n
    (part-zero barred (16 * d + free) (16 - free) (omega arith)
    ∙ every-same (16 - free) (λ i. eqb (get_or barred (16 * d + free + i) 0) 0) (λ i. eqb (get_or barred (16 * d + (free + i)) 0) 0) (λ i k. let a : 16 * d + free + i ≡ 16 * d + (free + i) = omega arith in rw a)
    ∙ rw e (bars-behind role ports (λ j. get_or barred (16 * d + j) 0)))

pub returns : goal.returns
returns c =
    let plan = c.args.plan.now in
    let d = c.index-d.result in
    let f = c.free_masks.ensures in
    rw (← c.index-d.ensures.equal)
    (c.zeros.ensures ∙ behind plan.barred (get_or plan.core.role d 0) (get_or plan.core.ports d 0) d _ (omega arith) (omega arith) f.0 f.1)

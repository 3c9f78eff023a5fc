use mathlib.Core.Path.{◌≡◌, ap, ◌∙◌}
use mathlib.Core.List.{List}
use Prim.Native.Nat.{ℕ, ◌+◌, ◌*◌, ◌/◌, ◌%◌}
use native.Mathlib.Nat.{add-zero, add_assoc}
use native.Mathlib.Omega.{arith}
use Rattle.plan.specs.Fields.{bar_in}
use Rattle.planfile.proofs.Plans.{barred-of}
use Rattle.planfile.proofs.Places.{counted}
use Rattle.lists.proofs.Filled.{filled_none, filled_more, filled-all}
use Rattle.planfile.proofs.build.Blocks.barred.Goals as goal

pub loop-d-init : goal.loop-d-init
loop-d-init c = let e = counted c.args.self.now.file.now c.from-n.ensures in filled_none (omega arith)

pub loop-j-init : goal.loop-j-init
loop-j-init c = (rw add-zero c.loop-d.invariant, omega arith)

pub of-block-requires : goal.of-block-requires
of-block-requires c = let e = counted c.args.self.now.file.now c.from-n.ensures in omega arith

pub loop-j-preserved : goal.loop-j-preserved
loop-j-preserved c =
    let d = c.loop-d.d in
    let j = c.loop-j.j in
    let device : (16 * d + j) / 16 ≡ d = omega arith in
    let mask : (16 * d + j) % 16 ≡ j = omega arith in
    (rw (← add_assoc) (filled_more c.loop-j.invariant.0 (omega arith) (c.four.ensures ∙ rw (device, mask) (ap (λ (s : List ℕ). bar_in s j) c.of-block.ensures))), omega arith)

pub loop-d-preserved : goal.loop-d-preserved
loop-d-preserved c =
    let d = c.loop-d.d in
    let next : 16 * d + c.loop-j.j ≡ 16 * (d + 1) = omega (arith, c.loop-j.invariant.1) in
    rw next at c.loop-j.invariant.0

pub returns : goal.returns
returns c = filled-all c.loop-d.invariant (omega arith) ∙ barred-of _ (counted c.args.self.now.file.now c.from-n.ensures)

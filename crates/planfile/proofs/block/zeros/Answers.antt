use mathlib.Core.Path.{◌≡◌, ap, ◌∙◌}
use Prim.Native.Nat.{◌-◌}
use native.Mathlib.Omega.{arith}
use lib.Bits.{bit_or}
use lib.Dec.{eqb}
use lib.ListN.{take, drop}
use borrow.Author.Rules.{rules}
use Rattle.std.specs.List.{fold}
use Rattle.planfile.proofs.Gaps.{merged-zeros}
use Rattle.planfile.proofs.block.zeros.Goals as goal

pub returns : goal.returns
returns c =
    let a = c.args in
    let merged : c.fold.result ≡ fold bit_or 0 (take (a.to - a.from) (drop a.from a.block.now)) = search rules in
    ap (λ x. eqb x 0) merged ∙ merged-zeros a.from a.to a.block.now (omega arith)

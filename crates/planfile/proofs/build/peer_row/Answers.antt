use mathlib.Core.Path.{ap, ◌∙◌}
use mathlib.Core.List.{List}
use Prim.Native.Nat.{ℕ}
use Rattle.std.proofs.Common.{rules}
use Rattle.plan.specs.Fields.{peer_number}
use Rattle.plan.specs.Refusals.{device_block}
use Rattle.planfile.proofs.Made.{made-whole}
use Rattle.planfile.proofs.build.peer_row.Goals as goal

pub returns : goal.returns
returns c =
    made-whole 256 (peer_number (device_block c.args.file.now c.args.d)) c.each.ensures.long
    (λ k h. let e = c.each.ensures.made k h in search rules ∙ ap (λ (s : List ℕ). peer_number s k) c.of-block.ensures)

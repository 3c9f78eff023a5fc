use mathlib.Core.Path.{◌∙◌}
use native.Mathlib.Omega.{arith}
use Rattle.lists.specs.Table.{table}
use Rattle.std.proofs.Common.{rules}
use Rattle.plan.specs.Fields.{peer_number}
use Rattle.plan.specs.Refusals.{device_block}
use Rattle.planfile.proofs.Made.{made-table}
use Rattle.planfile.proofs.Places.{counted}
use Rattle.planfile.proofs.Plans.{peers-of}
use Rattle.planfile.proofs.build.Blocks.peers.Goals as goal

pub each-requires : goal.each-requires
each-requires c = let n = counted c.args.self.now.file.now c.from-n.ensures in (omega arith, (omega arith, λ i h. omega arith))

pub returns : goal.returns
returns c =
    let file = c.args.self.now.file.now in
    let e = c.each.ensures in
    made-table (λ d. table 8 (peer_number (device_block file d))) e.long (λ k h. let m = e.made k h in search rules) e.absent
    ∙ peers-of file (counted file c.from-n.ensures)

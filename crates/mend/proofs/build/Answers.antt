-- `mend::build` meets its contract: the blocks are rebuilt over a copy of the file. Assumes nothing.
use mathlib.Core.Path.{ap, ◌∙◌}
use native.Mathlib.Omega.{arith}
use lib.ListN.{length}
use Rattle.mend.proofs.Ends.{built}
use Rattle.mend.proofs.build.Goals as goal

pub put_blocks-requires : goal.put_blocks-requires
put_blocks-requires c =
    let p = c.args.blocks.now.fronted in
    let e = ap length c.copy_from_slice.ensures.after in
    let few = p.few in
    let long = p.long in
    (omega arith, omega arith, omega arith)

pub returns : goal.returns
returns c = c.put_blocks.ensures ∙ built _ _ c.args.blocks.now.fronted c.copy_from_slice.ensures.after

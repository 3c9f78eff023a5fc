use mathlib.Core.Path.{refl, ap, ◌∙◌}
use native.Mathlib.Omega.{arith}
use lib.ListN.{length-take}
use borrow.Author.Rules.{rules}
use Rattle.plan.proofs.Holdings.{length-made}
use Rattle.plan.specs.Inner.File.{block_of, header_holdings}
use Rattle.plan.specs.declared.Header.{Header}
use Rattle.planfile.proofs.WrittenBlocks.{first_block, next-block, whole-file}
use Rattle.planfile.proofs.writer.put_file.Goals as goal

pub slice_bounds-copy_from_slice-end-2 : goal.slice_bounds-copy_from_slice-end-2
slice_bounds-copy_from_slice-end-2 c = simp length-take (omega arith)

pub copy_from_slice-requires : goal.copy_from_slice-requires
copy_from_slice-requires c = simp (length-take, c.made.ensures, length-made) (omega arith)

pub loop-d-init : goal.loop-d-init
loop-d-init c =
    first_block _ _ (search rules) (c.copy_from_slice.ensures.after ∙ c.made.ensures ∙ ap (λ (h : Header). block_of (header_holdings h)) c.header_of.ensures) refl

pub loop-d-preserved : goal.loop-d-preserved
loop-d-preserved c =
    let d = rw c.unwrap-device.ensures at c.new.ensures.number in
    next-block _ _ c.loop-d.invariant (omega arith) (c.copy_from_slice-in-loop-d.ensures.after ∙ rw d at c.made-made.ensures) (search rules) refl

pub returns : goal.returns
returns c = whole-file c.loop-d.invariant (omega arith)

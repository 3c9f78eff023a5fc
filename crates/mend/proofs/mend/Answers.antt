-- `mend::mend` meets its contract: a port that is claimed twice, or what the reader says of the mended file. Assumes nothing.
use mathlib.Core.Path.{sym, ◌∙◌}
use native.Mathlib.Omega.{arith}
use lib.Seq.{length-take-le}
use Rattle.mend.proofs.Ends.{claimants-is, answer-is, ready-front, built-is, built-long, mends-contested, mends-finished}
use Rattle.mend.proofs.mend.Goals as goal

pub pointed-pointed-requires : goal.pointed-pointed-requires
pointed-pointed-requires c = c.requires.ready.same

pub returns-in-Some : goal.returns-in-Some
returns-in-Some c =
    let r = c.requires.ready in
    mends-contested r (answer-is _ c.pointed-pointed.ensures c.claimants-claimants.ensures r.same (sym c.in-Some.is ∙ c.contested.ensures))

pub slice_bounds-made-end : goal.slice_bounds-made-end
slice_bounds-made-end c = let f = ready-front c.requires.ready in let few = f.few in let long = f.long in omega arith

pub build-requires : goal.build-requires
build-requires c = length-take-le _ _ (let f = ready-front c.requires.ready in let few = f.few in let long = f.long in omega arith)

pub finish-requires : goal.finish-requires
finish-requires c =
    let k = claimants-is _ c.pointed-pointed.ensures c.claimants-claimants.ensures in
    (c.requires.area_len.0 ∙ sym (built-long c.requires.ready k c.build.ensures), c.requires.area_len.1)

pub returns : goal.returns
returns c =
    let r = c.requires.ready in
    let k = claimants-is _ c.pointed-pointed.ensures c.claimants-claimants.ensures in
    let none = sym (answer-is _ c.pointed-pointed.ensures c.claimants-claimants.ensures r.same c.contested.ensures) ∙ c.in_default.is in
    mends-finished r none (built-is r k c.build.ensures) k c.finish.ensures

use native.Mathlib.Omega.{arith}
use Rattle.text.specs.Text.{ascii}
use Rattle.text.proofs.Within.{nothing, looser, same_word, room-behind, both, within}
use Rattle.mend.proofs.Texts.{block-short, marked-none, marked-some}
use Rattle.mend.specs.Inner.Steps.{peers_in}
use Rattle.mend.proofs.lines.put_router.Goals as goal

pub put_ports-requires : goal.put_ports-requires
unfolding ascii
put_ports-requires c =
    let d = c.index.ensures in
    room-behind (within (block-short c.args.device (rw d.equal at d.below)) (rw d.equal at c.headed.ensures)) 80 c.requires

pub returns-then-mark : goal.returns-then-mark
unfolding ascii
returns-then-mark c =
    let a = c.args in
    let d = c.index.ensures in
    same_word (both (within (block-short a.device (rw d.equal at d.below)) (rw d.equal at c.headed.ensures)) 80 c.requires c.put_ports.ensures) (marked-some a.mark (peers_in a.claimants.now) a.device c.if-mark.true)

pub returns-else-mark : goal.returns-else-mark
returns-else-mark c = let a = c.args in looser (same_word (nothing _) (marked-none a.mark (peers_in a.claimants.now) a.device c.if-mark.false)) (omega arith)

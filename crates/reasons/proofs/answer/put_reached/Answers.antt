use mathlib.Core.Path.{ap}
use mathlib.Core.List.{List, ◌++◌}
use Prim.Native.Nat.{ℕ, ◌*◌}
use native.Mathlib.Omega.{arith}
use lib.ListN.{length}
use Rattle.text.specs.Text.{ascii, headed}
use Rattle.reasons.specs.Inner.Pieces.{longest_crossing}
use Rattle.text.proofs.Within.{same_word, room-behind}
use Rattle.reasons.proofs.Parts.{joints-crossings}
use Rattle.reasons.proofs.Texts.{reached-head, behind}
use Rattle.reasons.proofs.answer.put_reached.Goals as goal

pub put_crossings-requires : goal.put_crossings-requires
unfolding ascii
put_crossings-requires c =
    let n = length c.args.ports.now in
    let head = reached-head n c.requires.0 c.headed.ensures in
    (c.requires.1, room-behind head (longest_crossing * n) (omega (arith, c.requires.0, c.requires.2)))

pub returns : goal.returns
unfolding ascii
returns c =
    let n = length c.args.ports.now in
    let head = reached-head n c.requires.0 c.headed.ensures in
    same_word (behind (omega (arith, c.requires.0)) c.requires.2 head c.put_crossings.ensures)
    (ap (λ (l : List ℕ). headed (ascii "reached ") n ++ l) (joints-crossings c.args.plan.now c.args.ports.now))

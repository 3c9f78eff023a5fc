use mathlib.Core.Bool.{not}
use mathlib.Core.Path.{ap}
use Prim.Native.Nat.{◌+◌}
use native.Mathlib.Omega.{arith}
use lib.ListN.{length}
use Rattle.areas.proofs.Puts.{puts_none, joined}
use Rattle.text.specs.Text.{ascii}
use Rattle.text.proofs.Parts.{no_room, has_room, length-headed, headed-parts}
use Rattle.text.proofs.put_headed.Goals as goal

pub returns-then-not-has_room : goal.returns-then-not-has_room
returns-then-not-has_room c =
    let a = c.args in
    puts_none _ _ _ (omega (arith, no_room a.at (length a.word.now) (length a.area.now) c.has_room.ensures (ap not c.if-not-has_room.true), length-headed a.word.now a.n))

pub returns-then-not-has_room-2 : goal.returns-then-not-has_room-2
returns-then-not-has_room-2 c =
    let a = c.args in
    puts_none _ _ _ (omega (arith, no_room (a.at + length a.word.now) (c.places.result + 1) (length a.area.now) c.has_room-2.ensures (ap not c.if-not-has_room-2.true), c.places.ensures.exact, length-headed a.word.now a.n))

pub returns : goal.returns
unfolding ascii
returns c =
    let a = c.args in
    let e = headed-parts a.word.now a.n in
    rw e
    (joined c.put-number.ensures
    (omega (arith, has_room (a.at + length a.word.now) (c.places.result + 1) (length a.area.now) c.has_room-2.ensures (ap not c.if-not-has_room-2.false), c.places.ensures.exact, length-headed a.word.now a.n, ap length e))
    c.put_then.ensures)

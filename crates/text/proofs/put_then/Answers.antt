use mathlib.Core.Path.{ap}
use mathlib.Core.Bool.{not}
use Prim.Native.Nat.{◌+◌}
use native.Mathlib.Omega.{arith}
use lib.ListN.{length, length-append}
use Rattle.areas.proofs.Puts.{puts_none, joined}
use Rattle.text.specs.Text.{decimal}
use Rattle.text.proofs.Parts.{no_room, has_room}
use Rattle.text.proofs.put_then.Goals as goal

pub returns-then-not-has_room : goal.returns-then-not-has_room
returns-then-not-has_room c =
    let a = c.args in
    puts_none _ _ _ (omega (arith, no_room a.at c.places-size.result (length a.area.now) c.has_room.ensures (ap not c.if-not-has_room.true), c.places-size.ensures.exact, length-append (decimal a.n) a.word.now))

pub returns-then-not-has_room-2 : goal.returns-then-not-has_room-2
returns-then-not-has_room-2 c =
    let a = c.args in
    puts_none _ _ _ (omega (arith, no_room (a.at + c.places-size.result) (length a.word.now) (length a.area.now) c.has_room-2.ensures (ap not c.if-not-has_room-2.true), c.places-size.ensures.exact, length-append (decimal a.n) a.word.now))

pub returns : goal.returns
returns c =
    let a = c.args in
    joined c.put_number-after.ensures
    (omega (arith, has_room (a.at + c.places-size.result) (length a.word.now) (length a.area.now) c.has_room-2.ensures (ap not c.if-not-has_room-2.false), c.places-size.ensures.exact, length-append (decimal a.n) a.word.now))
    c.put.ensures

use mathlib.Core.Path.{ap}
use mathlib.Core.Bool.{not}
use Prim.Native.Nat.{◌+◌}
use native.Mathlib.Omega.{arith}
use lib.ListN.{length}
use Rattle.areas.proofs.Puts.{puts_none}
use Rattle.text.specs.Text.{ascii}
use Rattle.text.proofs.Parts.{no_room, has_room, length-joint, joint-parts, four}
use Rattle.text.proofs.put_joint.Goals as goal

pub returns-then-not-has_room : goal.returns-then-not-has_room
returns-then-not-has_room c =
    let a = c.args in
    puts_none _ _ _ (omega (arith, no_room a.at (4 + c.places.result + c.places-2.result + c.places-3.result + c.places-4.result) (length a.area.now) c.has_room.ensures (ap not c.if-not-has_room.true), c.places.ensures.exact, c.places-2.ensures.exact, c.places-3.ensures.exact, c.places-4.ensures.exact, length-joint a.q a.p))

pub returns : goal.returns
unfolding ascii
returns c =
    let a = c.args in
    four (joint-parts a.q a.p) c.put_then-second.ensures
    (omega (arith, has_room a.at (4 + c.places.result + c.places-2.result + c.places-3.result + c.places-4.result) (length a.area.now) c.has_room.ensures (ap not c.if-not-has_room.false), c.places.ensures.exact, c.places-2.ensures.exact, c.places-3.ensures.exact, c.places-4.ensures.exact, length-joint a.q a.p))
    c.put_then-third.ensures c.put_then-fourth.ensures c.put_then.ensures

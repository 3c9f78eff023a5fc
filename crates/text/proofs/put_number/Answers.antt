use mathlib.Core.Bool.{not}
use mathlib.Core.Path.{◌≡◌, ap, ◌∙◌}
use Prim.Native.Nat.{◌+◌, ◌-◌, ◌≤◌}
use native.Mathlib.Omega.{arith}
use lib.ListN.{length}
use Rattle.areas.specs.Put.{put_at}
use Rattle.areas.proofs.Puts.{puts_none, puts_whole}
use Rattle.text.specs.Text.{decimal}
use Rattle.text.proofs.Parts.{no_room, has_room}
use Rattle.text.proofs.put_number.Goals as goal

pub returns-then-not-has_room : goal.returns-then-not-has_room
returns-then-not-has_room c =
    let a = c.args in
    puts_none _ _ _ (omega (arith, no_room a.at c.places-size.result (length a.area.now) c.has_room.ensures (ap not c.if-not-has_room.true), c.places-size.ensures.exact))

pub returns : goal.returns
returns c =
    let a = c.args in
    let e : c.places-size.result ≡ length (decimal a.n) = c.places-size.ensures.exact in
    let h : a.at + c.places-size.result ≤ length a.area.now = has_room _ _ _ c.has_room.ensures (ap not c.if-not-has_room.false) in
    let p : a.at + c.places-size.result - length (decimal a.n) ≡ a.at = omega arith in
    rw e
    (puts_whole (omega arith) (c.spell.ensures ∙ ap (λ k. put_at a.area.now k (decimal a.n)) p))

-- `ways::picks::Slope::follow` meets its contract. The invariant: what is written, and then what is picked from here on, is what is picked in
-- all. Assumes nothing.
use mathlib.Core.Path.{refl}
use native.Mathlib.Nat.{sub-zero}
use native.Mathlib.Omega.{arith}
use borrow.Author.Rules.{rules}
use Rattle.ways.proofs.picks.Slope.follow.Invariants.{leads, again, done}
use Rattle.ways.proofs.picks.Slope.follow.Goals as goal

pub loop-i-init : goal.loop-i-init
loop-i-init c =
    let same = c.index.ensures.equal in
    record { within = omega arith; long = search rules; low = rw same at c.index.ensures.below; away = rw (sub-zero, same); all = rw sub-zero; rest = refl }

pub unwrap-at-requires : goal.unwrap-at-requires
unwrap-at-requires c =
    let few = rw (← c.index.ensures.equal) at c.requires.0 in
    c.new.ensures.there.1 (leads c.loop-i.invariant c.requires.1 few c.loop-i-test.true _ c.pick-q.ensures.0).0

pub loop-i-preserved : goal.loop-i-preserved
loop-i-preserved c =
    let few = rw (← c.index.ensures.equal) at c.requires.0 in
    rw (rw c.unwrap-at.ensures at c.new.ensures.number)
    (again c.loop-i.invariant c.requires.1 few c.loop-i-test.true _ c.pick-q.ensures.0)

pub returns : goal.returns
returns c = rw c.index.ensures.equal at (done c.loop-i.invariant c.loop-i-test.false)

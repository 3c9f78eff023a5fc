use mathlib.Core.Path.{◌≡◌, refl, sym, ◌∙◌}
use mathlib.Core.List.{List}
use Prim.Native.Nat.{ℕ, ◌+◌, ◌≤◌}
use native.Mathlib.Omega.{arith}
use lib.ListN.{length}
use lib.Seq.{paste-zero, take-length}
use borrow.Author.Tests.{leb-true, leb-false}
use Rattle.areas.specs.Put.{put_at}
use Rattle.areas.proofs.Puts.{put_whole, puts_none, puts_whole}
use Rattle.areas.proofs.put.Invariants.{Copied, turn}
use Rattle.areas.proofs.put.Goals as goal

none : (area : List ℕ) (at : ℕ) (word : List ℕ) → at + length word ≤ length area → Copied area at word area 0
none area at word h = record { room = h; within = omega arith; long = refl; same = paste-zero area at word }

done : {area₀ : List ℕ} {at : ℕ} {word area : List ℕ} {i : ℕ} → Copied area₀ at word area i → length word ≤ i → area ≡ put_at area₀ at word
done {area₀} {at} {word} {area} {i} v h =
    let e : i ≡ length word = omega arith in
    v.same ∙ rw (e, take-length) (sym (put_whole area₀ at word v.room))

pub returns-then-not-has_room : goal.returns-then-not-has_room
returns-then-not-has_room c = puts_none _ _ _ (leb-false _ _ (sym c.has_room.ensures ∙ c.if-not-has_room.true))

pub loop-i-init : goal.loop-i-init
loop-i-init c =
    let a = c.args in
    none a.area.now a.at a.word.now (leb-true _ _ (sym c.has_room.ensures ∙ c.if-not-has_room.false))

pub loop-i-preserved : goal.loop-i-preserved
loop-i-preserved c = turn c.loop-i.invariant c.loop-i-test.true

pub returns : goal.returns
returns c =
    let v = c.loop-i.invariant in
    puts_whole v.room (done v c.loop-i-test.false)

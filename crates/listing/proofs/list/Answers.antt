use mathlib.Core.Path.{refl, ◌∙◌}
use mathlib.Core.List.{List}
use Prim.Native.Nat.{ℕ}
use native.Mathlib.Omega.{arith}
use lib.ListN.{get_or}
use Rattle.areas.specs.Put.{over}
use Rattle.listing.specs.Listing.{lines}
use Rattle.listing.proofs.Laws.{line-short}
use Rattle.listing.proofs.list.Invariants.{Listing, turn}
use Rattle.listing.proofs.list.Goals as goal

none : (bytes before : List ℕ) → Listing bytes before before 0 0
unfolding lines over
none bytes before = record { within = omega arith; size = refl; room = omega arith; long = refl; text = refl; went_on = λ i l. absurd (omega arith) }

pub loop-taken-init : goal.loop-taken-init
loop-taken-init c = (none _ _, refl)

pub put_line-requires : goal.put_line-requires
put_line-requires c =
    let i = c.loop-taken.taken in
    omega (arith, line-short (get_or c.args.bytes.now i 0) (omega (arith, c.type_inv.bytes i)))

pub loop-taken-preserved : goal.loop-taken-preserved
loop-taken-preserved c =
    let v = c.loop-taken in (
      turn v.invariant.0 (omega arith) (line-short _ (omega (arith, c.type_inv.bytes v.taken))) (omega arith) c.put_line.ensures.puts,
      c.put_line.ensures.same ∙ v.invariant.1,
    )

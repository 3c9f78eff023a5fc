use mathlib.Core.Path.{◌≡◌, refl, sym, ap, ◌∙◌}
use Prim.Native.Nat.{ℕ, ◌+◌, ◌*◌}
use native.Mathlib.Omega.{arith}
use borrow.Author.Tests.{eq-eqb, ne_eqb}
use Rattle.mend.specs.Claims.{last}
use Rattle.mend.specs.Inner.Steps.{ports_in}
use Rattle.mend.proofs.routers.ports_of.Invariants.{highest-more}
use Rattle.mend.proofs.Claimed.{claimed-at}
use Rattle.mend.proofs.routers.ports_of.Goals.{then-peer-ne-NOBODY, else-peer-ne-NOBODY}
use Rattle.mend.proofs.routers.ports_of.Goals as goal

pub loop-p-init : goal.loop-p-init
unfolding last
loop-p-init c = record { within = omega arith; small = omega arith; same = refl }

pub loop-p-preserved : goal.loop-p-preserved
loop-p-preserved c = highest-more c.loop-p.invariant c.loop-p-test.true
    (let e = claimed-at c.args.claimants.now (8 * c.index-d.result + c.loop-p.p) (omega arith) ∙ sym c.peer.ensures in
    elim c.if-peer-ne-NOBODY.branch [
      | then-peer-ne-NOBODY w ↦ rw (e, ne_eqb _ 256 w.if-peer-ne-NOBODY.true) w.port-is
      | else-peer-ne-NOBODY w ↦ rw (e, eq-eqb _ 256 w.if-peer-ne-NOBODY.false) w.port-is
    ])

pub returns : goal.returns
unfolding ports_in
returns c =
    let e : c.loop-p.p ≡ 8 = omega arith in
    ap (λ (k : ℕ). 1 + k) (rw (e, c.index-d.ensures.equal) at c.loop-p.invariant.same)

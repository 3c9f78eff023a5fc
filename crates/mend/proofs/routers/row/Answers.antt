-- `mend::routers::row` meets its contract: each port leads back to the one that claims it. Assumes nothing.
use Prim.Native.Nat.{◌+◌, ◌*◌}
use native.Mathlib.Omega.{arith}
use Rattle.std.proofs.Common.{rules}
use Rattle.plan.specs.Inner.Memory.{at}
use Rattle.plan.proofs.Ranges.{made}
use Rattle.mend.specs.Inner.Steps.{peers_in, row_in}
use Rattle.mend.proofs.Claimed.{claimed-at}
use Rattle.mend.proofs.routers.row.Goals as goal

pub returns : goal.returns
unfolding row_in
returns c =
    let a = c.args in
    rw (← c.index-d.ensures.equal)
    (made (λ p. at (peers_in a.claimants.now) (8 * c.index-d.result + p)) 0 c.from_fn.ensures.items
    (λ p y q l k. let e = claimed-at a.claimants.now (8 * c.index-d.result + p) (omega arith) in rw e (search rules)))

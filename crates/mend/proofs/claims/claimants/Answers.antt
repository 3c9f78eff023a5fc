use Rattle.mend.proofs.Claimed.{claimed-none, claimed-more, claimed-all}
use Rattle.mend.proofs.claims.claimants.Goals as goal

pub loop-q-init : goal.loop-q-init
loop-q-init c = claimed-none _

pub loop-q-preserved : goal.loop-q-preserved
loop-q-preserved c = claimed-more c.loop-q.invariant c.loop-q-test.true (rw c.from.ensures at c.claim.ensures)

pub returns : goal.returns
returns c = claimed-all c.loop-q.invariant c.loop-q-test.false

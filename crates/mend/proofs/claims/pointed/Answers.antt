-- `mend::claims::pointed` meets its contract: it asks each port. Assumes nothing.
use Rattle.std.proofs.Common.{rules}
use Rattle.plan.proofs.Ranges.{made}
use Rattle.mend.specs.Claims.{pointed}
use Rattle.mend.specs.Inner.Steps.{pointed_all}
use Rattle.mend.proofs.claims.pointed.Goals as goal

pub returns : goal.returns
unfolding pointed_all
returns c = made (pointed c.args.blocks.now.file.now) 0 c.from_fn.ensures.items (λ i y q l k. search rules)

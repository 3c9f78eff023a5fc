-- `mend::routers::ports` meets its contract: the number of each device. Assumes nothing.
use Rattle.std.proofs.Common.{rules}
use Rattle.plan.proofs.Ranges.{made}
use Rattle.mend.specs.Inner.Steps.{peers_in, ports_in}
use Rattle.mend.proofs.routers.ports.Goals as goal

pub returns : goal.returns
returns c = made (ports_in (peers_in c.args.claimants.now)) 0 c.from_fn.ensures.items (λ d y q l k. search rules)

-- `mend::routers::peers` meets its contract: the row of each device. Assumes nothing.
use mathlib.Core.List.{[]}
use Rattle.std.proofs.Common.{rules}
use Rattle.plan.proofs.Ranges.{made}
use Rattle.mend.specs.Inner.Steps.{peers_in, row_in}
use Rattle.mend.proofs.routers.peers.Goals as goal

pub returns : goal.returns
returns c = made (row_in (peers_in c.args.claimants.now)) [] c.from_fn.ensures.items (λ d y q l k. search rules)

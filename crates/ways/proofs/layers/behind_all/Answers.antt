-- `ways::layers::behind_all` meets its contract: it asks each port. Assumes nothing.
use Rattle.std.proofs.Common.{rules}
use Rattle.plan.proofs.Ranges.{made}
use Rattle.ways.specs.Inner.Layers.{behind}
use Rattle.ways.proofs.layers.behind_all.Goals as goal

pub returns : goal.returns
returns c = made (behind c.args.peers.now c.args.to.now) 0 c.from_fn.ensures.items (λ i y q l k. search rules)

-- `ways::layers::Roads::walk` meets its contract: a turn for each layer. Assumes nothing.
use lib.ListN.{set}
use Rattle.lists.specs.Table.{table}
use Rattle.lists.proofs.Loops.{After}
use Rattle.ways.specs.Inner.Layers.{layer}
use Rattle.ways.proofs.layers.Roads.walk.Given as goal

abbrev pub invariant-loop-n : goal.invariant-loop-n
invariant-loop-n l = After (layer l.self.to.now l.self.role.now) 31 l.n (set (table 32 (λ _. 32)) l.fn.from 0) l.far

-- `ways::layers::Roads::spread` meets its contract: a turn for each port. Assumes nothing.
use Prim.Native.Nat.{◌+◌}
use lib.ListN.{get_or}
use Rattle.lists.proofs.Loops.{After}
use Rattle.ways.specs.Inner.Layers.{meet}
use Rattle.ways.proofs.layers.Roads.spread.Given as goal

abbrev pub invariant-loop-e : goal.invariant-loop-e
invariant-loop-e l = After (λ k. meet l.n (get_or l.self.to.now (l.first + k) 0)) 8 l.e-index l.initial.far l.far

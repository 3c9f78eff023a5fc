-- `ways::layers::greatest` meets its contract. The invariant: it is the greatest of those that were looked at. Assumes nothing.
use Rattle.ways.specs.Inner.Layers.{Greatest}
use Rattle.ways.proofs.layers.greatest.Given as goal

abbrev pub invariant-loop-n : goal.invariant-loop-n
invariant-loop-n l = Greatest l.n-index l.far l.most

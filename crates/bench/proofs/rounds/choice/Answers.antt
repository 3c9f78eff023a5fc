use Rattle.state.specs.State.{word}
use Rattle.bench.proofs.Stepped.{first-is}
use Rattle.bench.proofs.rounds.choice.Goals as goal

pub returns : goal.returns
unfolding word
returns c = first-is _ _ (rw c.index.ensures.equal at c.first.ensures)

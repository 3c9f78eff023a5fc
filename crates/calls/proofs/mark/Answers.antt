-- `calls::mark` meets its contract: both words by what was called. Assumes nothing.
use Rattle.state.specs.State.{word, put}
use Rattle.state.specs.Mark.{mark}
use Rattle.calls.proofs.mark.Goals as goal
use Rattle.calls.proofs.mark.Goals.{in-Interrupt, in-Acknowledge}

pub returns : goal.returns
unfolding mark put word
returns c peers barred =
    elim c.match-kind.branch [
      | in-Interrupt w ↦ rw (c.index-d.ensures.equal, c.marked.ensures, w.state-is, w.in-Interrupt.is, w.load_for.ensures, c.index-d.ensures.equal)
      | in-Acknowledge w ↦ rw (c.index-d.ensures.equal, c.marked.ensures, w.state-is, w.in-Acknowledge.is, c.index-d.ensures.equal)
    ]

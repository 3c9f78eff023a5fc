-- `calls::switch` meets its contract: one clause of what a link comes to at each return. Assumes nothing.
use Rattle.calls.specs.Calls.{switched}
use Rattle.calls.proofs.switch.Goals as goal

pub returns-then-running : goal.returns-then-running
unfolding switched
returns-then-running c plan joined = rw (c.if-running.true, ← joined) c.flag.ensures

pub returns : goal.returns
unfolding switched
returns c plan joined = rw (c.if-running.false, ← joined, c.flag-2.ensures, c.drain-2.ensures, c.drain.ensures)

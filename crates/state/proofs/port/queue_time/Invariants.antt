-- `state::queue_time` meets its contract. The invariant: the ports before port p have had their turn. Assumes nothing.
use Rattle.lists.proofs.Loops.{After}
use Rattle.state.specs.Queue.{queue_time_but}
use Rattle.state.proofs.port.queue_time.Given as goal

abbrev pub invariant-loop-p : goal.invariant-loop-p
invariant-loop-p l = After (queue_time_but l.v l.d l.but) 8 l.p l.initial.words l.words

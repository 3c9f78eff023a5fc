-- `state::queue` meets its contract. The invariant: the ports before port p have had their turn. Assumes nothing.
use Rattle.device.specs.Kinds.{kind_of}
use Rattle.lists.proofs.Loops.{After}
use Rattle.state.specs.Queue.{queue_but}
use Rattle.state.proofs.port.queue.Given as goal

abbrev pub invariant-loop-p : goal.invariant-loop-p
invariant-loop-p l = After (queue_but l.permissions (kind_of l.kind) l.k l.d l.but) 8 l.p l.initial.state l.state

-- No rules: queueing at a port's record of what waits. `Queues` proves that it is what the rule does in a state.
use Rattle.std.specs.Prelude.{cond, ℕ, eqb}
use Rattle.bits.specs.Set.{join, leave}
use Rattle.state.specs.declared.port.Port.{Port}

-- where the port may send the kind
unfoldable pub queued_port : ℕ → ℕ → Port → Port
queued_port kind k port =
    cond (eqb port.running 1)
    (cond (eqb kind 0)
    (record { interrupts = join port.interrupts k; acknowledges = leave port.acknowledges k; next = port.next; running = port.running })
    (record { interrupts = leave port.interrupts k; acknowledges = join port.acknowledges k; next = port.next; running = port.running }))
    port

-- `reach::visits::Net::device` and `reach::visits::Net::each_port`: the measure of the calls, 10 for each device that is not in the set, and 9
-- more at the ports of one; and what the turns of the loop keep.
use Rattle.std.proofs.Common.{◌+◌}
use Rattle.reach.specs.Inner.Depth.{left}
use Rattle.reach.specs.Visits.{ahead_in}
use Rattle.reach.proofs.Returns.{Turned}
use Rattle.reach.proofs.visits.Net.+device_each_port.Given as goal

abbrev pub decreases-device : goal.decreases-device
decreases-device l = left l.set

abbrev pub decreases-each_port : goal.decreases-each_port
decreases-each_port l = left l.start + 9

abbrev pub invariant-each_port-loop-p : goal.invariant-each_port-loop-p
invariant-each_port-loop-p l =
    let plan = l.self.plan.now in
    Turned plan.core.role plan.core.ports (ahead_in plan l.self.state.now l.self.k) l.d l.start l.set l.examined l.p

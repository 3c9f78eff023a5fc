-- `planfile::device::put_bars` meets its contract. The invariant: the first j masks are put. Assumes nothing.
use Prim.Native.Nat.{◌+◌, ◌-◌, ◌*◌}
use Rattle.plan.specs.Inner.File.{bar_holdings}
use Rattle.plan.specs.Inner.Memory.{at}
use Rattle.planfile.proofs.Entered.{Entered}
use Rattle.planfile.proofs.device.put_bars.Given as goal

abbrev pub invariant-loop-j : goal.invariant-loop-j
invariant-loop-j l = Entered 16 (λ k. bar_holdings k (at l.barred (16 * l.d + k))) l.initial.block l.block l.j

abbrev pub decreases-loop-j : goal.decreases-loop-j
decreases-loop-j l = 16 - l.j

use mathlib.Core.Path.{◌∙◌}
use native.Mathlib.Omega.{arith}
use Rattle.answers.proofs.Refusals.{positive}
use Rattle.planfile.proofs.Places.{counted}
use Rattle.planfile.proofs.Scans.{stops-device, scanned-more, scanned-all}
use Rattle.std.proofs.Common.{rules}
use Rattle.planfile.proofs.reader.scan_devices.Goals as goal

pub loop-d-init : goal.loop-d-init
loop-d-init c =
    let b = c.args.blocks.now in
    let few = b.few in
    let whole = b.whole in
    let n = counted b.file.now c.from-n.ensures in
    record { within = omega arith; counted = n; long = omega arith; pass = λ e h. absurd (omega arith) }

pub returns-in_err-fault_at : goal.returns-in_err-fault_at
returns-in_err-fault_at c = search rules ∙ stops-device c.loop-d.invariant c.loop-d-test.true c.in_err-fault_at.ensures (positive _)

pub loop-d-preserved : goal.loop-d-preserved
loop-d-preserved c = scanned-more c.loop-d.invariant c.loop-d-test.true c.in_ok-fault_at.ensures

pub returns : goal.returns
returns c = scanned-all c.loop-d.invariant c.loop-d-test.false

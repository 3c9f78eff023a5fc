use mathlib.Core.Path.{refl, ◌∙◌}
use native.Mathlib.Omega.{arith}
use Rattle.answers.proofs.Refusals.{positive}
use Rattle.planfile.proofs.Scans.{front-refuses, front-passes, front-counts, front-few, devices-decide}
use Rattle.std.proofs.Common.{rules}
use Rattle.planfile.proofs.reader.scan.Goals as goal

pub returns-in_err-front-clause-refusal : goal.returns-in_err-front-clause-refusal
returns-in_err-front-clause-refusal c = search rules ∙ front-refuses _ c.in_err-front.ensures (λ z. let p = positive c.in_err-front.field-0.0.refusal in omega arith)

pub invariant_of-blocks : goal.invariant_of-blocks
invariant_of-blocks c = let p = front-passes _ c.in_ok-front.ensures refl in record { few = front-few _ p; whole = front-counts _ p }

pub returns-in_err-scan_devices-clause-refusal : goal.returns-in_err-scan_devices-clause-refusal
returns-in_err-scan_devices-clause-refusal c =
    search rules ∙ c.in_err-scan_devices.ensures ∙ devices-decide _ (front-passes _ c.in_ok-front.ensures refl)

pub returns-clause-refusal : goal.returns-clause-refusal
returns-clause-refusal c = c.in_ok-scan_devices.ensures ∙ devices-decide _ (front-passes _ c.in_ok-front.ensures refl)

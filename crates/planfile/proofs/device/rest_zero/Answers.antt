-- `planfile::device::rest_zero` meets its contract: what is tested are the gaps between the fields. Assumes nothing.
use mathlib.Core.Path.{refl, ◌∙◌}
use Rattle.lists.specs.Table.{joined}
use Rattle.plan.specs.Fields.{device_fields}
use Rattle.planfile.proofs.Gaps.{gaps}
use Rattle.planfile.proofs.device.rest_zero.Goals as goal

pub returns : goal.returns
unfolding device_fields joined
returns c = c.zeros.ensures ∙ gaps _ device_fields refl

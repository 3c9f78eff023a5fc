use mathlib.Core.Path.{◌∙◌}
use Rattle.planfile.proofs.Bars.{bars-fit}
use Rattle.planfile.proofs.device.bars_fit.Goals as goal

pub returns : goal.returns
returns c = let free = c.free_masks-free.ensures in c.zeros.ensures ∙ bars-fit _ free.0 free.1

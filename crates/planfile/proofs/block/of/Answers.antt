use mathlib.Core.Path.{ap, ◌∙◌}
use Rattle.std.proofs.Common.{List, ℕ, [], get_or}
use Rattle.planfile.proofs.Places.{run-block}
use Rattle.planfile.proofs.block.of.Goals as goal

pub returns : goal.returns
returns c = ap (λ (l : List (List ℕ)). get_or l c.args.b []) c.as_chunks.ensures.front ∙ run-block c.args.file.now c.args.b c.requires

use lib.ListN.{length}
use mathlib.Core.Path.{◌∙◌}
use Rattle.std.proofs.lemmas.List.{get_or-replicate, length-replicate}
use Rattle.lists.proofs.Tables.{is-table}
use Rattle.areas.proofs.fill.Goals as goal

pub returns : goal.returns
returns c =
    let n = length c.args.area.now in
    let v = c.args.value in
    c.fill.ensures.after (λ y e. e) ∙ is-table n (λ _. v) _ 0 (length-replicate n v) (λ i h. get_or-replicate n i v 0 h)

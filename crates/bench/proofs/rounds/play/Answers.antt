use mathlib.Core.Path.{◌≡◌, ◌∙◌}
use borrow.Author.Rules.{rules}
use Rattle.bench.proofs.ThreeSteps.{played-by}
use Rattle.bench.proofs.rounds.play.Goals as goal

pub returns : goal.returns
returns c =
    let p = played-by c.bring.ensures c.fall_all.ensures.follows c.post_all.ensures.0 c.post_all.ensures.1 c.arrive_all.ensures.follows in
    let same : _ ≡ c.arrive_all.new.told.area.now = search rules in
    record { state = p.state; bytes = p.bytes; words = same ∙ p.words; number = p.number }

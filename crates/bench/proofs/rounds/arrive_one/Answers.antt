use mathlib.Core.Path.{◌∙◌}
use Rattle.state.specs.State.{word, put}
use Rattle.bench.proofs.Following.{leads}
use Rattle.bench.proofs.Stepped.{arrived-acts}
use Rattle.bench.proofs.rounds.arrive_one.Goals as goal

pub returns : goal.returns
unfolding word put
returns c =
    let a = c.args in
    let q = c.index-q.ensures.equal in
    let d = c.index-d.ensures.equal ∙ c.device.ensures in
    leads (λ l. arrived-acts _ a.plan.now.core.permissions a.port a.state.now a.plan.now.barred _ a.plan.now.core.events a.byte c.react-reaction.result l
    (rw (c.from.ensures, q, d) at c.react-reaction.ensures)) (rw d at c.act.ensures)

-- `ways::cut` meets its contract: the causes by the numbers of the layers are those of the ports that lead out. Assumes nothing.
use mathlib.Core.Path.{◌≡◌}
use mathlib.Core.List.{List}
use Prim.Native.Nat.{ℕ, ◌<◌}
use borrow.Author.Rules.{rules}
use Rattle.lists.specs.Table.{table}
use Rattle.plan.specs.Reading.{Held}
use Rattle.plan.specs.declared.Plan.{Plan}
use Rattle.state.specs.State.{State}
use Rattle.state.specs.Sound.{Sound}
use Rattle.state.specs.Network.{devices}
use Rattle.reach.specs.Visits.{ahead_all}
use Rattle.ways.specs.Cut.{marks, AllCauses}
use Rattle.ways.specs.Inner.Layers.{layers}
use Rattle.ways.specs.Inner.Causes.{caused}
use Rattle.ways.proofs.Counted.{walked}
use Rattle.ways.proofs.Fails.{all-causes}
use Rattle.ways.proofs.Answered.{ready, by-question, answer-refused, answer-done}
use Rattle.ways.proofs.cut.Goals as goal

-- by the layers of the plan's own table
fails : (plan : Plan) (s : State) (k d : ℕ) (to far causes : List ℕ) (value : ℕ) → Held plan → Sound plan s → d < devices plan
    → to ≡ ahead_all plan.core.permissions plan.peers plan.barred s k → far ≡ layers to plan.core.role d
    → (causes ≡ table 256 (caused plan s far k)) × (value ≡ marks 256 (caused plan s far k))
    → AllCauses plan s d k value causes
fails plan s k d to far causes value held sound h t f c =
    all-causes plan held s k d h sound.size far (walked plan held s k d h sound to far t f) value causes c.0 c.1

pub returns-in_err-question_refusal : goal.returns-in_err-question_refusal
returns-in_err-question_refusal c =
    let some = c.in-Some.ensures.cases in
    rw some.same
    (answer-refused _ _ _ _ _ _ _ _ _ _ c.from_residual-in_err-question_refusal.ensures.1
    (by-question _ _ _ _ _ _ _ c.in_ok-refusal.ensures some.long c.in_err-question_refusal.ensures))

pub unwrap-requires : goal.unwrap-requires
unwrap-requires c = c.new.ensures.there.1 (ready _ _ _ _ _ c.in_ok-refusal.ensures c.in_ok-question_refusal.ensures).source-small

pub returns : goal.returns
returns c =
    let r = ready _ _ _ _ _ c.in_ok-refusal.ensures c.in_ok-question_refusal.ensures in
    let same : c.unwrap-2.result.now ≡ c.args.state.now = search rules in
    answer-done _ _ _ _ _ _ _ _ _ _ (by-question _ _ _ _ _ _ _ c.in_ok-refusal.ensures c.in-Some.ensures.cases.long c.in_ok-question_refusal.ensures)
    (fails _ _ _ _ _ _ _ _ r.held r.sound r.source c.ahead_all.ensures (rw (rw c.unwrap.ensures at c.new.ensures.number) at c.walk.ensures) (rw same at c.put_causes.ensures))

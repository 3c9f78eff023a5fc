use mathlib.Core.Path.{subst}
use Prim.Native.Nat.{ℕ, ◌*◌}
use native.Mathlib.Omega.{arith}
use borrow.Author.Rules.{rules}
use Rattle.std.specs.Prelude.{Result}
use Rattle.answers.specs.Refusals.{value_in}
use Rattle.answers.specs.declared.Refusal.{Refusal}
use Rattle.text.specs.Text.{ascii}
use Rattle.ways.specs.Cut.{AllCauses}
use Rattle.reasons.specs.Inner.Pieces.{longest_outward}
use Rattle.text.proofs.Within.{room-behind}
use Rattle.reasons.proofs.Told.{is_cut, few-lead-out, named-causes}
use Rattle.reasons.proofs.Texts.{cut-head, behind, writes-causes}
use Rattle.reasons.proofs.answer.put_cut.Goals as goal

pub put_outwards-requires : goal.put_outwards-requires
unfolding ascii
put_outwards-requires c =
    let a = c.args in
    let told = is_cut c.requires.0 (search rules) c.cut.ensures in
    let cut = subst (λ (r : Result ℕ Refusal). AllCauses a.plan.now a.state.now a.source a.k (value_in r) c.cut.new.causes) c.unwrap-count.ensures told in
    let head = cut-head _ (few-lead-out cut) c.headed.ensures in
    (named-causes cut, room-behind head (longest_outward * 256) (omega (arith, c.requires.1)))

pub returns : goal.returns
unfolding ascii
returns c =
    let a = c.args in
    let told = is_cut c.requires.0 (search rules) c.cut.ensures in
    let cut = subst (λ (r : Result ℕ Refusal). AllCauses a.plan.now a.state.now a.source a.k (value_in r) c.cut.new.causes) c.unwrap-count.ensures told in
    let head = cut-head _ (few-lead-out cut) c.headed.ensures in
    writes-causes cut (behind (omega arith) c.requires.1 head c.put_outwards.ensures)

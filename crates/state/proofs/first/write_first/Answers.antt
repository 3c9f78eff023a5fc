-- `state::write_first` meets its contract. The invariant: the ports before port q are written, in an area that is 0 otherwise. Assumes nothing.
use mathlib.Core.Path.{◌≡◌, ◌∙◌, ap}
use mathlib.Core.Logic.{inl, inr}
use Prim.Native.Nat.{ℕ}
use native.Mathlib.Omega.{arith}
use lib.ListN.{length, replicate}
use Rattle.std.proofs.lemmas.List.{get_or-replicate, length-replicate}
use Rattle.lists.proofs.Tables.{is-table}
use Rattle.state.specs.State.{words, put}
use Rattle.state.proofs.Written.{begins, again, all-begun}
use Rattle.state.proofs.first.write_first.Goals as goal
use Rattle.state.proofs.first.write_first.Goals.{then-peers-q-ne-NOBODY, else-peers-q-ne-NOBODY}

pub loop-q-init : goal.loop-q-init
loop-q-init c =
    let long : length c.args.state.now ≡ words = omega arith in
    (omega arith, begins _ (c.fill.ensures.after (λ y e. e) ∙ ap (λ n. replicate n 0) long ∙ is-table words (λ _. 0) _ 0 (length-replicate {A = ℕ} words 0) (λ i h. get_or-replicate words i 0 0 h)))

pub loop-q-preserved : goal.loop-q-preserved
unfolding put
loop-q-preserved c =
    let l = c.loop-q in
    (omega arith, again _ l.q l.state c.if-peers-q-ne-NOBODY.state (omega arith) l.invariant.1 (elim c.if-peers-q-ne-NOBODY.branch [ then-peers-q-ne-NOBODY w ↦ inl (w.if-peers-q-ne-NOBODY.true, w.state-is) | else-peers-q-ne-NOBODY w ↦ inr (w.if-peers-q-ne-NOBODY.false, w.state-is) ]))

pub returns : goal.returns
returns c = all-begun _ (omega arith) c.loop-q.invariant.0 c.loop-q.invariant.1

-- `ways::chain` meets its contract: what is picked by the numbers of the layers from the device back is the chain to be shown. Assumes nothing.
use mathlib.Core.Path.{◌≡◌, refl, sym, ap, subst, ◌∙◌}
use mathlib.Core.List.{List, [], ◌++◌}
use mathlib.Core.Logic.{inl, inr}
use Prim.Native.Nat.{ℕ, ◌+◌, ◌-◌, ◌<◌}
use native.Mathlib.Omega.{arith}
use lib.ListN.{length, drop, replicate}
use lib.Seq.{drop_at}
use Rattle.lists.specs.Table.{table}
use Rattle.lists.proofs.Tables.{length-table, table-add}
use Rattle.plan.specs.Fields.{nobody}
use Rattle.plan.specs.Reading.{Held}
use Rattle.plan.specs.declared.Plan.{Plan}
use Rattle.state.specs.State.{State}
use Rattle.state.specs.Sound.{Sound}
use Rattle.state.specs.Network.{devices}
use Rattle.state.proofs.Plans.{few}
use Rattle.reach.specs.Visits.{ahead_all}
use Rattle.ways.specs.Crossings.{none}
use Rattle.ways.specs.Chain.{Chain, padded, ChainTo, reached, not-reached}
use Rattle.ways.specs.Inner.Layers.{at, layers, behind}
use Rattle.ways.specs.Inner.Picked.{picked, Downhill}
use Rattle.ways.proofs.LayerLaws.{Found, layers-found}
use Rattle.ways.proofs.Steps.{ahead, back, chain-walk, walk-chain}
use Rattle.ways.proofs.Shortest.{no-shorter, downhill, length-picked, picked-shown}
use Rattle.ways.proofs.Counted.{few-crossings}
use Rattle.ways.proofs.Answered.{ready, by-question, answer-refused, answer-done}
use Rattle.ways.proofs.chain.Goals as goal

-- what is behind n places of an area that was filled
rest : (n : ℕ) → n < 33 → drop n (table 32 (λ _. nobody)) ≡ table (32 - n) (λ _. nobody)
rest n l =
    let whole : n + (32 - n) ≡ 32 = omega (arith, l) in
    ap (λ (m : ℕ). drop n (table m (λ _. nobody))) (sym whole) ∙ ap (drop n) (table-add n (32 - n) (λ _. nobody))
    ∙ drop_at (table n (λ _. nobody)) (table (32 - n) (λ _. nobody)) n (length-table n (λ _. nobody))

-- an area in which nobody stands
blank : replicate {A = ℕ} 32 256 ≡ table 32 (λ _. nobody)
unfolding table
blank = refl

-- by the layers of the plan's own table, from device e back
module _ (plan : Plan) (s : State) (k d e : ℕ) (to from far : List ℕ) (held : Held plan) (sound : Sound plan s) (h : d < devices plan) (g : e < devices plan)
    (t : to ≡ ahead_all plan.core.permissions plan.peers plan.barred s k) (b : from ≡ table 256 (behind plan.peers to)) (f : far ≡ layers from plan.core.role e) where
  first : d < 32
  first = omega (arith, few plan held, h)

  last : e < 32
  last = omega (arith, few plan held, g)

  found : Found (back plan s k sound.size held) plan.core.role e 31 far
  found =
      let same : far ≡ layers (back plan s k sound.size held) plan.core.role e = f ∙ rw (b, t) in
      subst (Found _ _ e 31) (sym same) (layers-found _ _ e last)

  goes_down : Downhill plan.core.role to far
  goes_down = rw t (downhill plan s k sound.size held e last far found)

  shows : (area blank : List ℕ) → at far d < 32 → area ≡ picked plan.core.role to far (at far d) d ++ drop (at far d) blank → blank ≡ table 32 (λ _. nobody)
      → ChainTo plan s k d e (at far d) area
  shows area blank l a z =
      let ports : List ℕ = picked plan.core.role (ahead plan s k sound.size) far (at far d) d in
      let size : length ports ≡ at far d = length-picked plan s k sound.size held e last far found (at far d) d in
      let same : area ≡ padded ports = a ∙ rw (t, z) (ap (λ (r : List ℕ). ports ++ r) (rest (at far d) (omega (arith, l)) ∙ ap (λ (m : ℕ). table (32 - m) (λ _. nobody)) (sym size))) in
      subst (λ (r : List ℕ). ChainTo plan s k d e (at far d) r) (sym same)
      (subst (λ (n : ℕ). ChainTo plan s k d e n (padded ports)) size (reached (picked-shown plan s k sound.size held e last far found (at far d) d first l refl)))

  -- no chain is longer than 31 crossings without a shorter one
  hides : (area : List ℕ) → (at far d < 32 → ⊥) → area ≡ table 32 (λ _. nobody) → ChainTo plan s k d e (at far d) area
  hides area l a =
      let z : at far d ≡ none = elim (found.within d first) [ inl m ↦ absurd (omega (arith, m, l)) | inr m ↦ m ] in
      let out : (ports : List ℕ) → Chain plan s k d ports e → ⊥ = λ ports c.
      let w = few-crossings plan held s k d h _ e (chain-walk plan s k d e ports c) in
      let short = walk-chain plan s k w.2 in
      omega (arith, no-shorter plan s k sound.size held e last far found d first short.0 short.2, short.1, w.1, l) in
      subst (λ (r : List ℕ). ChainTo plan s k d e (at far d) r) (sym a) (subst (λ (n : ℕ). ChainTo plan s k d e n (padded [])) (sym z) (not-reached out))

pub returns-in_err-question_refusal : goal.returns-in_err-question_refusal
returns-in_err-question_refusal c =
    let some = c.in-Some.ensures.cases in
    rw some.same
    (answer-refused _ _ _ _ _ _ _ _ _ _ c.from_residual-in_err-question_refusal.ensures.1
    (by-question _ _ _ _ _ _ _ c.in_ok-refusal.ensures some.long c.in_err-question_refusal.ensures))

pub unwrap-requires : goal.unwrap-requires
unwrap-requires c = c.new.ensures.there.1 (ready _ _ _ _ _ c.in_ok-refusal.ensures c.in_ok-question_refusal.ensures).device-small

pub offset_bounds-far-source : goal.offset_bounds-far-source
offset_bounds-far-source c = record { fits = omega (arith, (ready _ _ _ _ _ c.in_ok-refusal.ensures c.in_ok-question_refusal.ensures).source-small) }

pub bounds-far-source : goal.bounds-far-source
bounds-far-source c = (ready _ _ _ _ _ c.in_ok-refusal.ensures c.in_ok-question_refusal.ensures).source-small

pub unwrap-requires-then-n-lt-UNREACHED : goal.unwrap-requires-then-n-lt-UNREACHED
unwrap-requires-then-n-lt-UNREACHED c =
    c.new-then-n-lt-UNREACHED.ensures.there.1 (ready _ _ _ _ _ c.in_ok-refusal.ensures c.in_ok-question_refusal.ensures).source-small

pub follow-requires : goal.follow-requires
follow-requires c =
    let r = ready _ _ _ _ _ c.in_ok-refusal.ensures c.in_ok-question_refusal.ensures in
    let walked = rw (rw c.unwrap.ensures at c.new.ensures.number) at c.walk.ensures in
    let source = rw c.unwrap-then-n-lt-UNREACHED.ensures at c.new-then-n-lt-UNREACHED.ensures.number in
    rw source (c.if-n-lt-UNREACHED.true, goes_down _ _ _ _ _ _ _ _ r.held r.sound r.source r.device c.ahead_all-to.ensures c.behind_all.ensures walked)

pub returns-then-n-lt-UNREACHED : goal.returns-then-n-lt-UNREACHED
returns-then-n-lt-UNREACHED c =
    let r = ready _ _ _ _ _ c.in_ok-refusal.ensures c.in_ok-question_refusal.ensures in
    let walked = rw (rw c.unwrap.ensures at c.new.ensures.number) at c.walk.ensures in
    let followed = rw (rw c.unwrap-then-n-lt-UNREACHED.ensures at c.new-then-n-lt-UNREACHED.ensures.number) at c.follow.ensures in
    answer-done _ _ _ _ _ _ _ _ _ _ (by-question _ _ _ _ _ _ _ c.in_ok-refusal.ensures c.in-Some.ensures.cases.long c.in_ok-question_refusal.ensures)
    (shows _ _ _ _ _ _ _ _ r.held r.sound r.source r.device c.ahead_all-to.ensures c.behind_all.ensures walked _ _ c.if-n-lt-UNREACHED.true followed blank)

pub returns-else-n-lt-UNREACHED : goal.returns-else-n-lt-UNREACHED
returns-else-n-lt-UNREACHED c =
    let r = ready _ _ _ _ _ c.in_ok-refusal.ensures c.in_ok-question_refusal.ensures in
    let walked = rw (rw c.unwrap.ensures at c.new.ensures.number) at c.walk.ensures in
    answer-done _ _ _ _ _ _ _ _ _ _ (by-question _ _ _ _ _ _ _ c.in_ok-refusal.ensures c.in-Some.ensures.cases.long c.in_ok-question_refusal.ensures)
    (hides _ _ _ _ _ _ _ _ r.held r.sound r.source r.device c.ahead_all-to.ensures c.behind_all.ensures walked _ (λ l. omega (arith, l, c.if-n-lt-UNREACHED.false)) blank)

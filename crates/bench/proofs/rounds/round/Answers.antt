-- `bench::rounds::round` meets its contract: each refusal by its branch, and else the round over cleared areas. Assumes nothing.
use mathlib.Core.Path.{◌≡◌, refl, ap, ◌∙◌}
use mathlib.Core.List.{List}
use Prim.Native.Nat.{ℕ}
use native.Mathlib.Omega.{arith}
use lib.ListN.{length}
use Rattle.answers.specs.Ordered.{Ordered}
use Rattle.answers.proofs.Outcomes.{Holds, holds}
use Rattle.lists.specs.Table.{table}
use Rattle.plan.specs.declared.Plan.{Plan}
use Rattle.state.specs.State.{State}
use Rattle.state.specs.Sound.{state_asks}
use Rattle.bench.proofs.Idles.{held-laid, sound-idles, zeros-blank, silent-all}
use Rattle.bench.proofs.RoundReturns.{sent-long, told-long, plays, count_fits}
use Rattle.bench.proofs.rounds.round.Goals as goal

-- past the first two conditions
ready : (plan : Plan) (old : State) → Ordered (state_asks plan old) 0 → Holds (state_asks plan old)
ready plan old o = holds (state_asks plan old) refl o refl

-- an area of so many words that was filled
cleared : {area lent after : List ℕ} {n : ℕ} (v : ℕ) → lent ≡ area → length area ≡ n → after ≡ table (length lent) (λ _. v) → after ≡ table n (λ _. v)
cleared v same long e = e ∙ ap (λ (k : ℕ). table k (λ _. v)) (ap length same ∙ long)

pub returns-in_default-as_mut_array : goal.returns-in_default-as_mut_array
returns-in_default-as_mut_array c =
    let next = c.in-Some.ensures.cases in
    rw next.same (sent-long _ _ _ (ready _ _ c.in_ok-refusal.ensures) next.long c.in_default-as_mut_array.ensures.cases)

pub returns-then-told-ne-TOLD : goal.returns-then-told-ne-TOLD
returns-then-told-ne-TOLD c =
    let next = c.in-Some.ensures.cases in
    let sent = c.in-Some-as_mut_array.ensures.cases in
    rw (next.same, sent.same) (told-long _ _ _ (ready _ _ c.in_ok-refusal.ensures) next.long sent.long c.if-told-ne-TOLD.true)

pub play-count-requires : goal.play-count-requires
play-count-requires c =
    let r = ready _ _ c.in_ok-refusal.ensures in
    let old = rw c.unwrap-old.ensures at c.as_array.ensures.cases in
    let next = c.in-Some.ensures.cases in
    let sent = c.in-Some-as_mut_array.ensures.cases in (
      held-laid _ r.0,
      rw old.same (sound-idles _ r.0 r.1.0),
      zeros-blank _ (cleared _ next.same next.long c.fill.ensures),
      silent-all _ _ (cleared _ sent.same sent.long c.fill-2.ensures),
    )

pub overflow_cast-result : goal.overflow_cast-result
overflow_cast-result c = omega (arith, count_fits (ready _ _ c.in_ok-refusal.ensures).0 c.play-count.ensures)

pub returns : goal.returns
returns c =
    let old = rw c.unwrap-old.ensures at c.as_array.ensures.cases in
    plays _ _ _ (ready _ _ c.in_ok-refusal.ensures) c.in-Some.ensures.cases.long c.in-Some-as_mut_array.ensures.cases.long c.if-told-ne-TOLD.false c.fill-3.ensures (rw old.same at c.play-count.ensures)

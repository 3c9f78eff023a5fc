use Rattle.std.proofs.Common.{ap, ◌∙◌, arith, length}
use Prim.Native.Nat.{ℕ}
use Rattle.lists.specs.Table.{table}
use Rattle.bench.proofs.Tried.{misfits, finds}
use Rattle.bench.proofs.trial.trials.Goals as goal

pub returns-in_default-as_mut_array : goal.returns-in_default-as_mut_array
returns-in_default-as_mut_array c =
    let state = c.in-Some.ensures.cases in
    rw state.same (misfits _ _ _ _ (c.is_held.ensures.only c.if-not-is_held.false) (λ f. c.in_default-as_mut_array.ensures.cases f.0.1))

pub returns-in_default-as_mut_array-2 : goal.returns-in_default-as_mut_array-2
returns-in_default-as_mut_array-2 c =
    let state = c.in-Some.ensures.cases in
    let second = c.in-Some-as_mut_array.ensures.cases in
    rw (state.same, second.same) (misfits _ _ _ _ (c.is_held.ensures.only c.if-not-is_held.false) (λ f. c.in_default-as_mut_array-2.ensures.cases f.1))

pub try_all-requires : goal.try_all-requires
try_all-requires c =
    let second = c.in-Some-as_mut_array.ensures.cases in
    (c.is_held.ensures.only c.if-not-is_held.false, c.fill.ensures ∙ ap (λ (k : ℕ). table k (λ _. 0)) (ap length second.same ∙ second.long))

pub returns : goal.returns
returns c =
    let state = c.in-Some.ensures.cases in
    finds _ _ _ _ (c.is_held.ensures.only c.if-not-is_held.false) ((state.long, c.in-Some-as_mut_array.ensures.cases.long), c.in-Some-as_mut_array-2.ensures.cases.long) c.try_all.ensures.0
    (c.fill-2.ensures ∙ ap (λ (k : ℕ). table k (λ _. 0)) (omega arith))
    c.try_all.ensures.1

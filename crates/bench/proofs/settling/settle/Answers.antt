use Rattle.std.proofs.Common.{ap, ◌∙◌, arith, length}
use Prim.Native.Nat.{ℕ}
use Rattle.lists.specs.Table.{table}
use Rattle.bench.proofs.SettlingLoop.{ready, not-ready, too_many, ends}
use Rattle.bench.proofs.settling.settle.Goals as goal

pub returns-in_err-refusal : goal.returns-in_err-refusal
returns-in_err-refusal c = not-ready _ _ _ _ _ c.from_residual.ensures.1 c.in_err-refusal.ensures

pub returns-then-allowance-gt-ROUNDS : goal.returns-then-allowance-gt-ROUNDS
returns-then-allowance-gt-ROUNDS c =
    let second = c.in-Some.ensures.cases in
    rw second.same (too_many _ _ _ (ready _ _ c.in_ok-refusal.ensures) second.long (λ l. omega arith))

pub run-requires : goal.run-requires
run-requires c =
    let r = ready _ _ c.in_ok-refusal.ensures in
    let second = c.in-Some.ensures.cases in
    let state = rw c.unwrap-state.ensures at c.as_mut_array-2.ensures.cases in
    (r.0, rw state.same r.1.0, c.fill.ensures ∙ ap (λ (k : ℕ). table k (λ _. 0)) (ap length second.same ∙ second.long), omega arith)

pub returns : goal.returns
returns c =
    let state = rw c.unwrap-state.ensures at c.as_mut_array-2.ensures.cases in
    ends _ _ _ (ready _ _ c.in_ok-refusal.ensures) c.in-Some.ensures.cases.long (omega arith) (rw state.same at c.run.ensures)

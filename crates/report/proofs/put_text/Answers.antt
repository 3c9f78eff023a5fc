use mathlib.Core.Path.{refl}
use native.Mathlib.Omega.{arith}
use borrow.Author.Rules.{rules}
use Rattle.plan.proofs.BothWays.{held-devices}
use Rattle.planfile.proofs.WasRead.{plan-held}
use Rattle.text.specs.Text.{ascii}
use Rattle.text.proofs.Pages.{as_long, goes_on}
use Rattle.bench.proofs.Tried.{not-done}
use Rattle.report.proofs.Texts.{heading-short, was-done, was-found, network-text, refused-text}
use Rattle.report.proofs.put_text.Goals as goal

pub returns-in-Err : goal.returns-in-Err
returns-in-Err c =
    refused-text _ c.in-Err.ensures (not-done _) (omega (arith, c.from.ensures, c.from.type_inv)) (omega arith) (rw c.from.ensures at c.bad.ensures)

pub unwrap-requires : goal.unwrap-requires
unwrap-requires c =
    was-done _ c.trials.ensures (plan-held _ c.in-Ok.ensures refl (λ i. omega (arith, c.type_inv.file i))) (c.requires.0, search rules)

pub overflow_cast-plan : goal.overflow_cast-plan
overflow_cast-plan c = omega (arith, (held-devices _ (plan-held _ c.in-Ok.ensures refl (λ i. omega (arith, c.type_inv.file i)))).1)

pub put_lines-requires : goal.put_lines-requires
unfolding ascii
put_lines-requires c =
    let held = plan-held _ c.in-Ok.ensures refl (λ i. omega (arith, c.type_inv.file i)) in
    let h = c.headed.ensures in
    let short = heading-short _ (held-devices _ held).1 in (
      held,
      was-found c.trials.ensures held (c.requires.0, search rules),
      omega (arith, short, as_long h, goes_on h (omega (arith, short, c.requires.1)), c.requires.1),
    )

pub returns : goal.returns
unfolding ascii
returns c =
    network-text _ c.in-Ok.ensures refl (plan-held _ c.in-Ok.ensures refl (λ i. omega (arith, c.type_inv.file i))) c.requires.1 c.headed.ensures c.put_lines.ensures

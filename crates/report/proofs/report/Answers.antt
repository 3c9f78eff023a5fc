use mathlib.Core.Bool.{not}
use mathlib.Core.Path.{refl, ap, ◌∙◌}
use native.Mathlib.Omega.{arith}
use Rattle.std.proofs.Common.{rules}
use Rattle.answers.proofs.Outcomes.{granted}
use Prim.Native.Nat.{ℕ}
use Rattle.lists.specs.Table.{table}
use Rattle.report.proofs.Texts.{small, reports}
use Rattle.report.proofs.report.Goals as goal

pub put_text-requires : goal.put_text-requires
put_text-requires c = granted c.fits.ensures (ap not c.if-not-fits.false)

pub overflow_cast-result : goal.overflow_cast-result
overflow_cast-result c =
    let f = granted c.fits.ensures (ap not c.if-not-fits.false) in
    omega (arith, small _ refl f.1 c.put_text.ensures)

pub returns : goal.returns
returns c =
    let f = granted c.fits.ensures (ap not c.if-not-fits.false) in
    let v = c.put_text in
    reports _ refl f.1 v.ensures f.0 (c.fill.ensures ∙ ap (λ (k : ℕ). table k (λ _. 0)) (v.auto.state ∙ f.0.0))
    (c.fill-2.ensures ∙ ap (λ (k : ℕ). table k (λ _. 0)) (v.auto.second ∙ f.0.1)) (search rules)

use mathlib.Core.Path.{sym, ◌∙◌}
use native.Mathlib.Omega.{arith}
use Rattle.answers.proofs.Refusals.{positive}
use Rattle.planfile.proofs.Scans.{stops-long, has-header, stops-header, passes-header, stops-counted, front-accepts}
use Rattle.planfile.proofs.Places.{counted}
use Rattle.std.proofs.Common.{rules}
use Rattle.planfile.proofs.reader.front.Goals as goal

pub returns-then-not-length_fits : goal.returns-then-not-length_fits
returns-then-not-length_fits c = stops-long _ (sym c.if-not-length_fits.ensures)

pub returns-in_err-fault_at : goal.returns-in_err-fault_at
returns-in_err-fault_at c = search rules ∙ stops-header _ (sym c.if-not-length_fits.ensures) c.in_err-fault_at.ensures (positive _)

pub bounds-file-1 : goal.bounds-file-1
bounds-file-1 c = let h = has-header c.args.file.now (sym c.if-not-length_fits.ensures) in omega arith

pub returns-then-file-n : goal.returns-then-file-n
returns-then-file-n c =
    let fits = sym c.if-not-length_fits.ensures in
    let e = counted c.args.file.now c.from-n.ensures in
    stops-counted _ fits (passes-header _ fits c.in_ok-fault_at.ensures) (λ l. c.if-file-n.true (omega arith))

pub returns : goal.returns
returns c =
    let fits = sym c.if-not-length_fits.ensures in
    let e = counted c.args.file.now c.from-n.ensures in
    front-accepts _ fits (passes-header _ fits c.in_ok-fault_at.ensures) (omega arith)

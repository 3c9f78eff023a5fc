use mathlib.Core.Path.{sym}
use native.Mathlib.Omega.{arith}
use borrow.Author.Tests.{eqb-true, eqb-false}
use Rattle.text.specs.Text.{no_number}
use Rattle.text.proofs.Reading.{read_none, read_more, read_all}
use Rattle.text.proofs.reads.read_number.Goals as goal

pub returns-then-is_empty : goal.returns-then-is_empty
returns-then-is_empty c = no_number (λ d. omega (arith, d.some, eqb-true _ _ (sym c.if-is_empty.ensures)))

pub loop-b-init : goal.loop-b-init
loop-b-init c = read_none (omega (arith, eqb-false _ _ (sym c.if-is_empty.ensures)))

pub returns-then-not-is_ascii_digit : goal.returns-then-not-is_ascii_digit
returns-then-not-is_ascii_digit c =
    no_number (λ d. omega (arith, (d.each c.loop-b.b-index (omega arith)).0, (d.each c.loop-b.b-index (omega arith)).1, c.if-not-is_ascii_digit.ensures.cases))

pub loop-b-preserved : goal.loop-b-preserved
loop-b-preserved c =
    read_more c.loop-b.invariant (omega arith) (omega (arith, c.if-not-is_ascii_digit.ensures.cases.0), omega (arith, c.if-not-is_ascii_digit.ensures.cases.1)) c.with_digit-v.ensures

pub returns : goal.returns
returns c = read_all c.loop-b.invariant (omega arith)

use mathlib.Core.Path.{refl}
use borrow.Author.Tests.{eq-eqb, ne_eqb}
use Rattle.areas.specs.Put.{copied}
use Rattle.areas.proofs.Written.{turn, done-copy}
use Rattle.areas.proofs.copy.Goals as goal

pub returns-then-dst-src : goal.returns-then-dst-src
unfolding copied
returns-then-dst-src c = rw (ne_eqb _ _ c.if-dst-src.true)

pub loop-i-preserved : goal.loop-i-preserved
loop-i-preserved c = turn c.loop-i.invariant c.loop-i-test.true

pub returns : goal.returns
unfolding copied
returns c = rw (eq-eqb _ _ c.if-dst-src.false) (done-copy c.loop-i.invariant c.loop-i-test.false refl)

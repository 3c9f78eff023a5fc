use mathlib.Core.Path.{sym, ap, ◌∙◌}
use Prim.Native.Nat.{ℕ}
use native.Mathlib.Omega.{arith}
use borrow.Author.Tests.{eq-eqb, ne_eqb}
use Rattle.std.specs.Prelude.{Option, Some}
use Rattle.std.proofs.lemmas.Bool.Decides.{nat_tests}
use Rattle.mend.specs.Inner.Steps.{contested}
use Rattle.mend.proofs.Claimed.{lowest-none, lowest-next, lowest-all}
use Rattle.mend.proofs.claims.contested.Goals as goal

pub loop-q-init : goal.loop-q-init
loop-q-init c = lowest-none

pub loop-q-preserved : goal.loop-q-preserved
loop-q-preserved c =
    let q = rw c.unwrap-port.ensures at c.new.ensures.number in
    lowest-next c.loop-q.invariant c.loop-q-test.true
    (rw (c.from.ensures, q) at c.contest.ensures) (grind (arith, nat_tests))

pub returns-then-low-eq33 : goal.returns-then-low-eq33
unfolding contested
returns-then-low-eq33 c = simp (eq-eqb _ 33 (sym (lowest-all c.loop-q.invariant c.loop-q-test.false) ∙ c.if-low-eq33.true))

pub overflow_cast-result : goal.overflow_cast-result
overflow_cast-result c = omega (arith, c.loop-q.invariant.most)

pub returns : goal.returns
unfolding contested
returns c =
    let e = lowest-all c.loop-q.invariant c.loop-q-test.false in
    ap {B = Option ℕ} Some e ∙ simp (ne_eqb _ 33 (λ w. c.if-low-eq33.false (e ∙ w)))

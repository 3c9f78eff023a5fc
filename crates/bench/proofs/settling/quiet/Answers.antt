-- `bench::settling::quiet` meets its contract. The invariant: nothing waits at the ports before port q. Assumes nothing.
use mathlib.Core.Path.{refl}
use native.Mathlib.Omega.{arith}
use borrow.Author.Count.{below_none, below_more}
use Rattle.state.specs.State.{word}
use Rattle.bench.proofs.SettlingLoop.{none-waits, one-waits}
use Rattle.bench.proofs.settling.quiet.Goals as goal

pub loop-q-init : goal.loop-q-init
loop-q-init c = (omega arith, refl, below_none _)

pub returns-then-state-at-ne0 : goal.returns-then-state-at-ne0
unfolding word
returns-then-state-at-ne0 c =
    let p = c.requires in
    one-waits p.0 p.1 c.loop-q.q (omega (arith, c.loop-q.invariant.1)) (λ h. c.if-state-at-ne0.true h.0)

pub returns-then-state-at-ne0-2 : goal.returns-then-state-at-ne0-2
unfolding word
returns-then-state-at-ne0-2 c =
    let p = c.requires in
    one-waits p.0 p.1 c.loop-q.q (omega (arith, c.loop-q.invariant.1)) (λ h. c.if-state-at-ne0-2.true h.1)

pub loop-q-smaller : goal.loop-q-smaller
loop-q-smaller c = omega arith

pub loop-q-preserved : goal.loop-q-preserved
unfolding word
loop-q-preserved c =
    let l = c.loop-q in
    (omega arith, l.invariant.1, below_more _ _ l.invariant.2 (c.if-state-at-ne0.false, c.if-state-at-ne0-2.false, c.if-state-q-ne0.false))

pub returns-then-state-q-ne0 : goal.returns-then-state-q-ne0
unfolding word
returns-then-state-q-ne0 c =
    let p = c.requires in
    let l = c.loop-q in
    one-waits p.0 p.1 l.q (omega (arith, l.invariant.1)) (λ h. c.if-state-q-ne0.true h.2)

pub returns : goal.returns
returns c =
    let p = c.requires in none-waits p.0 p.1 (λ q l. c.loop-q.invariant.2 q (omega (arith, c.loop-q.invariant.1)))

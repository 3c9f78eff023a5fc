use mathlib.Core.Path.{◌≡◌, refl}
use native.Mathlib.Omega.{arith}
use borrow.Author.Rules.{rules}
use Rattle.state.specs.State.{word, put}
use Rattle.bench.proofs.Idles.{copies-none, copies-more}
use Rattle.bench.proofs.rounds.copy.Goals as goal

pub loop-i-init : goal.loop-i-init
loop-i-init c = (omega arith, search rules, search rules, search rules, copies-none (omega arith))

pub bounds-next-i : goal.bounds-next-i
bounds-next-i c = omega (arith, c.loop-i.invariant.4.size)

pub loop-i-preserved : goal.loop-i-preserved
unfolding put word
loop-i-preserved c =
    let v = c.loop-i.invariant in
    (omega arith, omega arith, v.2, v.3, copies-more v.4 v.0 (omega (arith, v.4.size)) refl)

pub returns : goal.returns
returns c =
    let v = c.loop-i.invariant in
    let e : c.loop-i.i ≡ c.args.to = omega arith in rw e at v.4

use native.Mathlib.Omega.{arith}
use mathlib.Core.Path.{◌≡◌}
use lib.ListN.{length}
use Rattle.text.specs.Text.{decimal}
use Rattle.text.proofs.Decimal.{decimal-short, length-digit, length-step}
use Rattle.text.proofs.places.Goals as goal

pub loop-rest-preserved : goal.loop-rest-preserved
loop-rest-preserved c = (omega arith, omega (arith, length-step c.loop-rest.rest c.loop-rest-test.true))

pub returns : goal.returns
returns c =
    let e : c.loop-rest.k ≡ length (decimal c.args.n) = omega (arith, length-digit c.loop-rest.rest c.loop-rest-test.false) in
    record { exact = e; few = omega (arith, e, decimal-short 9 c.args.n (omega arith)) }

-- The rounds of a crossing are enough, and no fewer are: where all other identifiers wait before it, and a Time-Code before each code, one is sent
-- in the last of them. So are the rounds of the window: until the last of them a code may wait.
use mathlib.Core.Path.{◌≡◌, ap, ◌∙◌}
use Prim.Native.Nat.{ℕ, ◌-◌, ◌<◌}
use native.Mathlib.Omega.{arith}
use Rattle.bits.specs.Set.{bit}
use Rattle.state.specs.State.{register, waiting}
use Rattle.assurance.specs.Demand3.{crossing, window, Demand3}
use Rattle.assurance.proofs.Demand.{demand-3}
use Rattle.witness.specs.Line.{line, deaf, busy, course}
use Rattle.witness.specs.Rate.{Enough, Empties}
use Rattle.witness.proofs.Conditions.{to-router, given, given-alone, line-slow, deaf-slow}

pub enough : Enough crossing
unfolding Enough Demand3
enough plan k source D s at x = (demand-3 plan k source D s at x).holds

pub empties : Empties crossing
unfolding Empties Demand3
empties plan k source D s at x kind q t g h from to =
    let end : t ≡ window D = omega arith in
    ap (λ r. bit (waiting (at r) kind q) k) end ∙ (demand-3 plan k source D s at x).gone kind q g h

-- the router is one crossing away from node 0, and a round before the end of that crossing it does not hold 31
late : bit (register (course line (crossing - 1)) 1) 31 ≡ 0
late = line-slow.1

-- no device is a crossing away from node 0, and a round before the end of the window 31 waits at its port still
waits-still : bit (waiting (course deaf (crossing - 1)) 0 0) 31 ≡ 1
waits-still = deaf-slow.0

pub no-fewer : (W : ℕ) → W < crossing → Enough W → ⊥
unfolding Enough
no-fewer W h all = omega (arith, late, all line 31 0 2 (busy line) (course line) given 1 1 (crossing - 1) to-router (omega arith) (omega arith))

pub no-sooner : (W : ℕ) → W < crossing → Empties W → ⊥
unfolding Empties
no-sooner W h all =
    omega (arith, waits-still, all deaf 31 0 0 (busy deaf) (course deaf) given-alone 0 0 (crossing - 1) (omega arith) (omega arith) (omega arith) (omega arith))

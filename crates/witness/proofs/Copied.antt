-- Rounds that copied the state would make demand 3 false: nobody but the source would ever hold the code.
use mathlib.Core.Path.{◌≡◌, sym, ap, ◌∙◌}
use mathlib.Core.Logic.{◌≢◌}
use Prim.Native.Nat.{ℕ, zero, suc, ◌≤◌, ◌<◌}
use native.Mathlib.Omega.{arith}
use Rattle.bits.specs.Set.{bit}
use Rattle.state.specs.State.{State, register}
use Rattle.state.specs.Network.{devices}
use Rattle.state.specs.Sound.{Sound}
use Rattle.calls.specs.Calls.{called}
use Rattle.laws.specs.Alike.{Alike}
use Rattle.assurance.specs.Demand3.{none, crossing, window, Follows}
use Rattle.assurance.proofs.Meanwhile.{alike_then, calls-beside}
use Rattle.assurance.proofs.Taking.{called-took}
use Rattle.witness.specs.Line.{line, busy}
use Rattle.witness.specs.Copying.{Copies}
use Rattle.witness.proofs.Accepted.{line-held}
use Rattle.witness.proofs.Busy.{busy-sound, busy-unset}
use Rattle.witness.proofs.Conditions.{first-there, to-router, requested-sound}

-- the request for 31 is taken
abbrev requested : State
requested = called line 0 0 31 (busy line)

module _ (at : ℕ → State) (copies : Copies line 31 (window 2) requested at) where
  -- nothing that concerns 31 changes
  stays : (t : ℕ) → t ≤ window 2 → Sound line (at t) × Alike 31 requested (at t)
  stays zero h = let b = calls-beside line line-held 31 (omega arith) (requested-sound line line-held first-there) copies.begins in (b.sound, b.like)
  stays (suc t) h =
      let before = stays t (omega arith) in
      let b = calls-beside line line-held 31 (omega arith) before.0 (copies.goes_on t h) in
      (b.sound, alike_then before.1 b.like)

  pub source-alone : (e t : ℕ) → e < devices line → e ≢ 0 → t ≤ window 2 → bit (register (at t) e) 31 ≡ 0
  unfolding line
  source-alone e t h ne l =
      let small : e < 32 = omega arith in
      let took = called-took line 0 31 (omega arith) (omega arith) 0 (omega arith) (busy line) (busy-sound line line-held first-there).size in
      sym ((stays t l).1.marks e small) ∙ ap (λ r. bit r 31) (took.others e small ne).0 ∙ busy-unset line line-held first-there 31 (omega arith) (omega arith) e h

  -- so the router, one crossing away, does not hold 31 by the end of that crossing
  pub copying-fails : Follows line 31 0 2 (busy line) at → ⊥
  unfolding line
  copying-fails f = omega (arith, source-alone 1 crossing (omega arith) (λ e. omega arith) (omega arith), f.holds 1 1 crossing to-router (omega arith) (omega arith))

-- there are such rounds
pub copied : Copies line 31 (window 2) requested (λ t. requested)
copied = record { begins = none; goes_on = λ t h. none }

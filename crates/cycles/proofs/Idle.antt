-- That an identifier is at rest can be computed at the plan's devices and their ports: no other port holds anything.
use mathlib.Core.Path.{◌≡◌}
use mathlib.Core.Bool.{Bool, true, ◌&&◌}
use Prim.Native.Nat.{ℕ, ◌*◌, ◌<◌}
use native.Mathlib.Decide.{ℕ_discrete}
use native.Mathlib.Omega.{arith}
use lib.Dec.{eqb}
use Rattle.lists.specs.Table.{every}
use Rattle.lists.proofs.Facts.{facts}
use Rattle.lists.proofs.Tests.{and_right}
use Rattle.bits.specs.Set.{bit}
use Rattle.bits.proofs.Sets.{bit-two}
use Rattle.plan.specs.Reading.{Held}
use Rattle.plan.specs.declared.Plan.{Plan}
use Rattle.state.specs.State.{State, register, waiting}
use Rattle.state.specs.Network.{devices}
use Rattle.state.specs.Sound.{Sound}
use Rattle.assurance.specs.Cycle.{AtRest}
use Rattle.assurance.proofs.Choices.{waits-owned}

module _ (plan : Plan) (k : ℕ) (s : State) where
  -- it waits nowhere
  abbrev pub idles : Bool
  idles = every 2 (λ kind. every (8 * devices plan) (λ q. eqb (bit (waiting s kind q) k) 0))

  -- and no device holds it
  abbrev pub resting : Bool
  resting = every (devices plan) (λ d. eqb (bit (register s d) k) 0) && idles

  module _ (held : Held plan) (x : Sound plan s) where
    pub idles-says : idles ≡ true → (kind q : ℕ) → kind < 2 → q < 256 → bit (waiting s kind q) k ≡ 0
    idles-says e kind q g h =
        elim (ℕ_discrete (bit (waiting s kind q) k) 1) [
          | yes b ↦ (simp facts at e) kind g q (omega (arith, waits-owned plan held x q h kind k g b))
          | no n ↦ omega (arith, bit-two (waiting s kind q) k)
        ]

    pub resting-says : resting ≡ true → AtRest plan k s
    resting-says e = record { sound = x; unset = (simp facts at e).0; idle = idles-says (and_right (every (devices plan) _) idles e) }

-- The numbers of the kinds.
use Prim.Native.Nat.{ℕ, ◌<◌}
use native.Mathlib.Omega.{arith}
use Rattle.device.specs.Kinds.{kind_of}
use Rattle.device.specs.declared.Kind.{Kind}
use Rattle.device.specs.declared.Kind.TheVariants.{Interrupt, Acknowledge}

-- there are two
pub kind-small : (kind : Kind) → kind_of kind < 2
kind-small Interrupt = omega arith
kind-small Acknowledge = omega arith

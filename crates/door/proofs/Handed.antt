-- What the reaction hands on at the door: the numbers that reading the byte gives.
use mathlib.Core.Path.{subst}
use Prim.Native.Nat.{ℕ}
use Rattle.codes.specs.Codes.{reads}
use Rattle.codes.specs.Numbers.{Says}
use Rattle.device.specs.Reaction.{reacts}
use Rattle.device.specs.declared.Side.{Side}
use Rattle.device.proofs.Reactions.{hands_on}
use Rattle.door.specs.Numbers.{Reacts}

pub as_read : (side : Side) (register counter byte action after count kind top value : ℕ) → Reacts (reacts side register counter byte) action after count kind top value
    → Says (reads byte) kind top value
as_read side register counter byte action after count kind top value r = subst (λ code. Says code kind top value) (hands_on side register counter byte) r.3

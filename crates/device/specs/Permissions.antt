-- RULES, "One device": a port's four permissions. Kind 0 is the interrupt, kind 1 the acknowledge.
-- Bits 0 and 1 are for interrupts, to send and to receive them; bits 2 and 3 are for acknowledges. There is no kind above 1.
use Rattle.std.specs.Prelude.{Bool, ◌&&◌, ℕ, ◌+◌, ◌*◌, eqb, ltb}
use Rattle.bits.specs.Set.{bit}

unfoldable pub may_send : ℕ → ℕ → Bool
may_send kind permissions = ltb kind 2 && eqb (bit permissions (2 * kind)) 1

unfoldable pub may_receive : ℕ → ℕ → Bool
may_receive kind permissions = ltb kind 2 && eqb (bit permissions (2 * kind + 1)) 1

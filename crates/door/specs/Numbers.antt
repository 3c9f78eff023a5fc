-- RULES, "The C door": the numbers that stand in C for yes and no, for a port's side, and for a reaction.
use Rattle.std.specs.Prelude.{◌≡◌, Bool, not, [], ◌∷◌, ℕ, eqb}
use Rattle.codes.specs.Numbers.{Says}
use Rattle.device.specs.Reaction.{action_of, code_in}
use Rattle.device.specs.declared.Reaction.{Reaction}
use Rattle.device.specs.declared.Side.{Side}

-- 0 is no, and any other number yes
abbrev pub nonzero : ℕ → Bool
nonzero n = not (eqb n 0)

-- the port's side of a reaction
abbrev pub side_of : ℕ → ℕ → ℕ → ℕ → ℕ → ℕ → Side
side_of role running permissions events interrupts acknowledges =
    record {
      router = nonzero role;
      running = nonzero running;
      permissions = permissions;
      events = events;
      barred = interrupts ∷ acknowledges ∷ [];
    }

-- numbers for what is done, for the register and the counter afterwards, and for the code that is handed on
abbrev pub Reacts : Reaction → ℕ → ℕ → ℕ → ℕ → ℕ → ℕ → Type 0
Reacts reaction action register counter kind top value =
    (action ≡ action_of reaction.action) × (register ≡ reaction.register) × (counter ≡ reaction.counter) × Says (code_in reaction.action) kind top value

-- Where a port's search starts, and whether the last code that it sent was a Time-Code: what its next choice rests on beside what waits.
use mathlib.Core.Path.{◌≡◌, refl, ◌∙◌}
use Prim.Native.Nat.{ℕ}
use Rattle.state.specs.State.{State, next, lately}

-- at port q, in t as in s
pub record SameTurn (s t : State) (q : ℕ) : Type 0 where
  pub start : next t q ≡ next s q
  pub late : lately t q ≡ lately s q

pub turn-same : (s : State) (q : ℕ) → SameTurn s s q
turn-same s q = record { start = refl; late = refl }

pub turn-then : {s t u : State} {q : ℕ} → SameTurn s t q → SameTurn t u q → SameTurn s u q
turn-then a b = record { start = b.start ∙ a.start; late = b.late ∙ a.late }

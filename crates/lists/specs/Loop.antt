-- RULES, "Lists and loops": a counted loop as a function, the turns f 0, f 1, and so on, n of them.
use Rattle.std.specs.Prelude.{ℕ, zero, suc}

unfoldable pub up_to : {S : Type 0} → (ℕ → S → S) → ℕ → S → S
up_to f zero s = s
up_to f (suc n) s = f n (up_to f n s)

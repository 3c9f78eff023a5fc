-- RULES, "What the calls answer": a number, 0 for done or a refusal's own, and the value beside it.
use Rattle.std.specs.Prelude.{ℕ}

pub record Answer : Type 0 where
  pub number : ℕ
  pub value : ℕ

-- done, with a value
abbrev pub done : ℕ → Answer
done v = record { number = 0; value = v }

-- refused by a number; 0 stands beside it
abbrev pub refused : ℕ → Answer
refused n = record { number = n; value = 0 }

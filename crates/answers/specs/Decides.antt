-- RULES, "What the calls answer": a check is true exactly where what it checks holds.
use Rattle.std.specs.Prelude.{◌≡◌, Bool, true}

pub record Decides (A : Type 0) (r : Bool) : Type 0 where
  pub only : r ≡ true → A
  pub all : A → r ≡ true

-- RULES, "One device": the kinds of codes that have an identifier, and their numbers.
use Rattle.std.specs.Prelude.{◌≡◌, ℕ, ◌<◌, Result, MatchResult}
use Rattle.device.specs.declared.Kind.{Kind}
use Rattle.device.specs.declared.Kind.TheVariants.{Interrupt, Acknowledge}
use Rattle.device.specs.declared.UnknownKind.{UnknownKind}

abbrev pub kind_of : Kind → ℕ
kind_of Interrupt = 0
kind_of Acknowledge = 1

-- the kind that has the number, or the number itself where it is above 1 and no kind has it
abbrev pub Names : ℕ → Result Kind UnknownKind → Type 0
Names n r = MatchResult r (λ kind. kind_of kind ≡ n) (λ e. (e.0 ≡ n) × (1 < n))

-- RULES, "What the calls answer": the number of each refusal, and of an answer: 0 for done.
use Rattle.std.specs.Prelude.{ℕ, Result, Ok, Err}
use Rattle.answers.specs.Answer.{Answer, done, refused}
use Rattle.answers.specs.declared.Refusal.{Refusal}
use Rattle.answers.specs.declared.Refusal.TheVariants.{NotHeld, Unsound, WrongArea, NoSuchDevice, NoSuchIdentifier, NotItsOwn, NothingRuns, NotPermitted, BitStands, LinkStands, TooManyRounds, StillWaits, NotAcknowledged, NotTheMaster, WrongLength, WrongCheck, WrongKind, WrongField, NotZero, WrongCount, WrongConnection, TwoSources, TwoClaims}

abbrev pub number_of : Refusal → ℕ
number_of NotHeld = 1
number_of Unsound = 2
number_of WrongArea = 3
number_of NoSuchDevice = 4
number_of NoSuchIdentifier = 5
number_of NotItsOwn = 6
number_of NothingRuns = 7
number_of NotPermitted = 8
number_of BitStands = 9
number_of LinkStands = 10
number_of TooManyRounds = 11
number_of StillWaits = 12
number_of NotAcknowledged = 13
number_of NotTheMaster = 14
number_of WrongLength = 20
number_of WrongCheck = 21
number_of WrongKind = 22
number_of WrongField = 23
number_of NotZero = 24
number_of WrongCount = 25
number_of WrongConnection = 26
number_of TwoSources = 27
number_of TwoClaims = 28

-- the number of an answer
abbrev pub number_in : {A : Type 0} → Result A Refusal → ℕ
number_in (Ok v) = 0
number_in (Err r) = number_of r

-- the value beside it: 0 where it is refused
abbrev pub value_in : Result ℕ Refusal → ℕ
value_in (Ok v) = v
value_in (Err r) = 0

-- both together
abbrev pub answer_of : Result ℕ Refusal → Answer
answer_of (Ok v) = done v
answer_of (Err r) = refused (number_of r)

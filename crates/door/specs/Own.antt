-- RULES, "The C door": the areas that settling and the text need beside those that C lends are the call's own. They are zeros at first, and at the end.
use Rattle.std.specs.Prelude.{List, ℕ}
use Rattle.lists.specs.Table.{table}
use Rattle.plan.specs.declared.Plan.{Plan}
use Rattle.state.specs.State.{State, words}
use Rattle.bench.specs.Settling.{Settles, pair}
use Rattle.report.specs.Report.{Reports, lent}

-- an area for a state
abbrev pub own : List ℕ
own = table words (λ i. 0)

-- settling, with a second area of its own
abbrev pub SettlesOwn : Plan → State → ℕ → ℕ → ℕ → State → Type 0
SettlesOwn plan before allowance number value after = Settles plan (pair before own) allowance number value (pair after own)

-- the text of a file, with two areas for states of its own
abbrev pub ReportsOwn : List ℕ → List ℕ → ℕ → ℕ → List ℕ → Type 0
ReportsOwn file before number value after = Reports file (lent own own before) number value (lent own own after)

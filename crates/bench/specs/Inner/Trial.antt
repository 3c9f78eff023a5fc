-- No rules: how the code says what comes of one device and one identifier.
use Rattle.std.specs.Prelude.{Result, Ok, Err, ℕ}
use Rattle.answers.specs.Refusals.{number_of}
use Rattle.answers.specs.declared.Refusal.{Refusal}
use Rattle.plan.specs.declared.Plan.{Plan}
use Rattle.bench.specs.Settling.{most_rounds}
use Rattle.bench.specs.Trials.{Tries}
use Rattle.bench.specs.declared.trial.Tried.{Tried}
use Rattle.bench.specs.declared.trial.Tried.TheVariants.{Settled, Waiting}

abbrev pub Comes : Plan → ℕ → ℕ → Result Tried Refusal → Type 0
Comes plan d k (Err r) = Tries plan d k (number_of r) 0 0
Comes plan d k (Ok (Settled n held)) = Tries plan d k 0 n held
Comes plan d k (Ok (Waiting held)) = Tries plan d k 12 most_rounds held

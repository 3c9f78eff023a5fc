-- No rules: what settling comes to where nothing is refused.
use Rattle.std.specs.Prelude.{◌≡◌, ◌⊎◌, ℕ, ◌≤◌}
use Rattle.plan.specs.declared.Plan.{Plan}
use Rattle.state.specs.State.{State}
use Rattle.bench.specs.Settling.{rounds, Quiet, Least, Pair, after}

-- done, or 12
abbrev pub Ends : Plan → State → ℕ → ℕ → ℕ → Pair → Type 0
Ends plan s allowance number value now =
    ((number ≡ 0) × (value ≤ allowance) × Least plan s value × (now ≡ after plan s value))
    ⊎ ((number ≡ 12) × (value ≡ allowance) × ((n : ℕ) → n ≤ allowance → Quiet (rounds plan n s) → ⊥) × (now ≡ after plan s allowance))

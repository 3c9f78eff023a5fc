-- RULES, "Sets": the first member at or after a place, going round from 31 to 0.
use Rattle.std.specs.Prelude.{◌≡◌, ℕ, zero, suc, ◌+◌, ◌-◌, ◌%◌, ◌≤◌, ◌<◌}
use Rattle.bits.specs.Set.{bit}
use Rattle.std.specs.Prelude.{Option, Some, None}

-- how many places after next the place k comes, going round
unfoldable pub after : ℕ → ℕ → ℕ
after next k = (k + 32 - next % 32) % 32

-- j is the first member of x at or after next: it is in x, and no member comes before it
pub record First (x next j : ℕ) : Type 0 where
  pub place : j < 32
  pub member : bit x j ≡ 1
  pub nearest : (k : ℕ) → k < 32 → bit x k ≡ 1 → after next j ≤ after next k

-- what is found: the first member, or nothing where the set is empty
unfoldable pub Finds : ℕ → ℕ → Option ℕ → Type 0
Finds x next (Some j) = First x next j
Finds x next None = (k : ℕ) → k < 32 → bit x k ≡ 0

-- the search that finds it, over n places from next on
unfoldable pub searched : ℕ → ℕ → ℕ → Option ℕ
searched x zero next = None
searched x (suc n) next = elim (bit x (next % 32)) [ zero ↦ searched x n (suc next) | suc _ ↦ Some (next % 32) ]

unfoldable pub first_from : ℕ → ℕ → Option ℕ
first_from x next = searched x 32 next

-- where the next search starts: behind what was found, and unmoved where nothing was
unfoldable pub following : ℕ → Option ℕ → ℕ
following next (Some j) = (j + 1) % 32
following next None = next

-- No rule: what the reader tests of a run of bytes.
use Rattle.std.specs.Prelude.{Bool, List, ℕ, ◌+◌, ◌-◌, eqb}
use Rattle.lists.specs.Table.{every}
use Rattle.plan.specs.Block.{byte}

-- the bytes from one on up to another, which does not count, are zero
unfoldable pub zeros_in : ℕ → ℕ → List ℕ → Bool
zeros_in from to s = every (to - from) (λ i. eqb (byte s (from + i)) 0)

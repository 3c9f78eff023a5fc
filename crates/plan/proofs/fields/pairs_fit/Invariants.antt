-- `plan::fields::pairs_fit` meets its contract. The invariant: `all` says whether the pairs so far fit. Assumes nothing.
use mathlib.Core.Path.{◌≡◌}
use mathlib.Core.Bool.{Bool}
use mathlib.Core.List.{List, []}
use Prim.Native.Nat.{ℕ}
use lib.ListN.{get_or}
use Rattle.lists.specs.Table.{every}
use Rattle.plan.specs.Fields.{pair_fits}
use Rattle.plan.proofs.fields.pairs_fit.Given as goal

abbrev pub fits : List (List ℕ) → ℕ → Bool
fits pairs k = pair_fits (get_or (get_or pairs k []) 1 0) (get_or (get_or pairs k []) 0 0)

abbrev pub invariant-loop-pair : goal.invariant-loop-pair
invariant-loop-pair l = l.all ≡ every l.pair-index (fits l.pairs)

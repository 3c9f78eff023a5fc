-- What a caller wants to know of a file that was read: whether it is accepted, and then its plan, which is held.
use mathlib.Core.Path.{◌≡◌, sym, ap, ◌∙◌}
use mathlib.Core.List.{List}
use Prim.Native.Nat.{ℕ, ◌<◌}
use lib.ListN.{get_or}
use Rattle.plan.specs.Refusals.{verdict}
use Rattle.plan.specs.Reading.{plan_of, Held, reads}
use Rattle.plan.specs.Reading.{Read}
use Rattle.plan.proofs.BothWays.{read_held}

module _ (file : List ℕ) {read : Read} (e : read ≡ reads file) where
  pub number_is : read.number ≡ (verdict file).number
  unfolding reads
  number_is = ap (λ (x : Read). x.number) e

  module _ (z : read.number ≡ 0) where
    pub accepts : (verdict file).number ≡ 0
    accepts = sym number_is ∙ z

    pub plan-is : read.plan ≡ plan_of file
    unfolding reads
    plan-is = ap (λ (x : Read). x.plan) e ∙ rw accepts

    pub plan-held : ((i : ℕ) → get_or file i 0 < 256) → Held read.plan
    plan-held small = rw plan-is (read_held file small accepts)

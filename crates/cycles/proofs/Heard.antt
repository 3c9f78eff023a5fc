-- Rounds played one behind the other, and how often a host is told of something meanwhile: each round is computed once.
use mathlib.Core.Path.{◌≡◌, refl, ap}
use Prim.Native.Nat.{ℕ, zero, suc, ◌+◌}
use Rattle.lists.specs.Loop.{up_to}
use Rattle.plan.specs.declared.Plan.{Plan}
use Rattle.state.specs.State.{State}
use Rattle.bench.specs.Round.{told_word, round}
use Rattle.bench.specs.Settling.{rounds}
use Rattle.laws.specs.Telling.{times, told_in, told_by}

-- a state, and how often the host was told so far
pub record Heard : Type 0 where
  pub state : State
  pub count : ℕ

module _ (plan : Plan) (kind d k : ℕ) where
  unfoldable pub hear : Heard → Heard
  hear w = let r = round plan w.state in record { state = r.next; count = w.count + times (told_word kind d k) r.told }

  unfoldable pub heard : ℕ → State → Heard
  heard zero s = record { state = s; count = 0 }
  heard (suc n) s = hear (heard n s)

  pub heard-is : (n : ℕ) (s : State) → heard n s ≡ record { state = rounds plan n s; count = told_by plan kind d k (λ t. rounds plan t s) n }
  unfolding up_to hear heard told_in told_by
  heard-is zero s = refl
  heard-is (suc n) s = ap hear (heard-is n s)

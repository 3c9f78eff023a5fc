-- RULES, "How an interrupt spreads": D, the most crossings that a code needs to any device it can reach. They may be counted over some devices only.
use Rattle.std.specs.Prelude.{ℕ, ◌≤◌, ◌<◌}
use Rattle.plan.specs.declared.Plan.{Plan}
use Rattle.state.specs.State.{State}
use Rattle.reach.specs.Walk.{Any, WalkOver}

module _ (plan : Plan) (s : State) (kind k : ℕ) where
  module _ (Over : ℕ → Type 0) (from : ℕ) where
    -- device e is n crossings away, and no fewer
    pub record AwayOver (n e : ℕ) : Type 0 where
      pub there : WalkOver plan s kind k Over from n e
      pub least : (m : ℕ) → m < n → WalkOver plan s kind k Over from m e → ⊥

    -- some device is D crossings away, and none is more
    pub record FarthestOver (D : ℕ) : Type 0 where
      pub some : (e : ℕ) × AwayOver D e
      pub most : (n e : ℕ) → AwayOver n e → n ≤ D

  -- the same over all devices
  abbrev pub Away : ℕ → ℕ → ℕ → Type 0
  Away = AwayOver Any

  abbrev pub Farthest : ℕ → ℕ → Type 0
  Farthest = FarthestOver Any

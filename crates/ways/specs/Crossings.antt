-- RULES, "Why": how many crossings away from a source each device is, and D.
use Rattle.std.specs.Prelude.{◌≡◌, List, ℕ, ◌<◌, length, get_or}
use Rattle.answers.specs.Ordered.{Tells}
use Rattle.plan.specs.declared.Plan.{Plan}
use Rattle.state.specs.State.{State}
use Rattle.reach.specs.Walk.{Walk}
use Rattle.reach.specs.Away.{Away, Farthest}
use Rattle.ways.specs.Calls.{way_asks}

-- no device is as many crossings away as this; it stands for none
abbrev pub none : ℕ
none = 32

-- interrupts of identifier k, from device d
module _ (plan : Plan) (s : State) (d k : ℕ) where
  -- the least number of crossings to device e
  pub data Crossings (e : ℕ) : ℕ → Type 0 where
    reached : {n : ℕ} → Away plan s 0 k d n e → Crossings e n
    not-reached : ((n : ℕ) → Walk plan s 0 k d n e → ⊥) → Crossings e none

  -- a word for each device, and D
  pub record AllCrossings (D : ℕ) (far : List ℕ) : Type 0 where
    pub size : length far ≡ 32
    pub each : (e : ℕ) → e < 32 → Crossings e (get_or far e 0)
    pub most : Farthest plan s 0 k d D

  -- the call; it is given no device, and asks of the source in its place
  abbrev pub TellsCrossings : List ℕ → ℕ → ℕ → List ℕ → Type 0
  TellsCrossings before = Tells (way_asks plan s (length before ≡ 32) d k d) AllCrossings before

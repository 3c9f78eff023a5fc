-- Each public function's promise allows one answer and one exit of the areas.
use mathlib.Core.Path.{◌≡◌, sym, ◌∙◌}
use mathlib.Core.Bool.{Bool}
use mathlib.Core.List.{List, [], ◌∷◌}
use Prim.Native.Nat.{ℕ, ◌+◌, ◌*◌, ◌<◌}
use Rattle.answers.specs.Ordered.{ask, Ordered}
use Rattle.answers.proofs.Unique.{ordered-once, outcome-once}
use Rattle.plan.specs.declared.Core.{Core}
use Rattle.plan.specs.declared.Plan.{Plan}
use Rattle.state.specs.State.{State}
use Rattle.calls.specs.Calls.{device_asks, own_asks, send_asks, call_asks, link_asks, tick_asks, called, called_in, Takes, advanced, Ticks, switched, Links, reset, Resets}

-- one number, and one state after the call
abbrev pub Once : (State → ℕ → State → Type 0) → Type 0
Once Promise = (before : State) (r s : ℕ) (a b : State) → Promise before r a → Promise before s b → (r ≡ s) × (a ≡ b)

module _ (plan : Plan) (d : ℕ) where
  -- a request or an acknowledge
  pub call-unique : (kind k : ℕ) → Once (Takes plan kind d k)
  call-unique kind k s = outcome-once (call_asks plan kind d k s) s (called plan kind d k s)

  pub link-unique : (p : ℕ) (runs : Bool) → Once (Links plan d p runs)
  link-unique p runs s = outcome-once (link_asks plan runs d p s) s (switched plan runs (8 * d + p) s)

  pub tick-unique : Once (Ticks plan d)
  tick-unique s = outcome-once (tick_asks plan d s) s (advanced d s)

  pub reset-unique : Once (Resets plan d)
  reset-unique s = outcome-once (device_asks plan d s) s (reset d s)

-- what a request or an acknowledge is refused with in part
pub own-refusal-unique : (mask k r s : ℕ) → Ordered (own_asks mask k) r → Ordered (own_asks mask k) s → r ≡ s
own-refusal-unique mask k = ordered-once (own_asks mask k)

pub send-refusal-unique : (permissions : List ℕ) (kind d k : ℕ) (state : State) (r s : ℕ) → Ordered (ask 4 (d < 32) ∷ send_asks permissions kind d k state) r
    → Ordered (ask 4 (d < 32) ∷ send_asks permissions kind d k state) s → r ≡ s
send-refusal-unique permissions kind d k state = ordered-once (ask 4 (d < 32) ∷ send_asks permissions kind d k state)

-- a call that is taken in any area
pub take-unique : (core : Core) (kind d k : ℕ) (state a b : State) → ((peers : List (List ℕ)) (barred : List ℕ) → a ≡ called_in (record { core = core; peers = peers; barred = barred }) kind d k state)
    → ((peers : List (List ℕ)) (barred : List ℕ) → b ≡ called_in (record { core = core; peers = peers; barred = barred }) kind d k state) → a ≡ b
take-unique core kind d k state a b p q = p [] [] ∙ sym (q [] [])

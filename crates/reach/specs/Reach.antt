-- RULES, "Reach": what the call answers.
use Rattle.std.specs.Prelude.{◌≡◌, cond, ◌&&◌, ◌||◌, List, [], ◌∷◌, ◌++◌, ℕ, ◌^◌, ◌<◌, eqb, get_or, Result, Ok, Err}
use Rattle.lists.specs.Table.{sum}
use Rattle.answers.specs.Ordered.{Condition, ask, Ordered}
use Rattle.answers.specs.declared.Refusal.{Refusal}
use Rattle.bits.specs.Set.{bit, size}
use Rattle.plan.specs.declared.Plan.{Plan}
use Rattle.state.specs.State.{State}
use Rattle.state.specs.Network.{devices, router, ports_of}
use Rattle.state.specs.Sound.{state_asks}
use Rattle.reach.specs.Walk.{Walk}
use Rattle.reach.specs.declared.answer.Reach.{Reach}

-- the devices that interrupts of identifier k reach from device d, as a set
pub record Reached (plan : Plan) (s : State) (d k set : ℕ) : Type 0 where
  pub small : set < 2 ^ 32
  pub only : (e : ℕ) → e < 32 → bit set e ≡ 1 → (n : ℕ) × Walk plan s 0 k d n e
  pub all : (n e : ℕ) → Walk plan s 0 k d n e → (e < 32) × (bit set e ≡ 1)

-- where these devices are reached from device d: device e has all its ports examined if it is d, or a router that is reached, and else none
abbrev pub examined_at : Plan → ℕ → ℕ → ℕ → ℕ
examined_at plan d set e = cond (eqb e d || (eqb (bit set e) 1 && router plan e)) (ports_of plan e) 0

-- how many there are in all
unfoldable pub ports_examined : Plan → ℕ → ℕ → ℕ
ports_examined plan d set = sum 32 (examined_at plan d set)

-- what is asked of a source and an identifier, by how many devices there are and what each is a source of
abbrev pub source_asks : ℕ → List ℕ → ℕ → ℕ → List Condition
source_asks n sources d k = ask 4 (d < n) ∷ ask 5 (k < 32) ∷ ask 6 (bit (get_or sources d 0) k ≡ 1) ∷ []

abbrev pub reach_asks : Plan → State → ℕ → ℕ → List Condition
reach_asks plan s d k = state_asks plan s ++ source_asks (devices plan) plan.core.source d k

-- done, the value is how many devices there are in the set of those reached, and beside it stands how many ports were examined; refused, all
-- three are 0
pub record Reaches (plan : Plan) (s : State) (d k number value set examined : ℕ) : Type 0 where
  pub answers : Ordered (reach_asks plan s d k) number
  pub made : number ≡ 0 → Reached plan s d k set × (value ≡ size set) × (examined ≡ ports_examined plan d set)
  pub kept : (number ≡ 0 → ⊥) → (set ≡ 0) × (value ≡ 0) × (examined ≡ 0)

-- what an answer has of each: 0 where it is refused
abbrev pub devices_in : Result Reach Refusal → ℕ
devices_in (Ok r) = r.value
devices_in (Err r) = 0

abbrev pub set_in : Result Reach Refusal → ℕ
set_in (Ok r) = r.set
set_in (Err r) = 0

abbrev pub examined_in : Result Reach Refusal → ℕ
examined_in (Ok r) = r.examined
examined_in (Err r) = 0

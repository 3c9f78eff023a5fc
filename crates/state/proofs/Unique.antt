-- Each public function's promise allows one answer and one exit of the areas.
use mathlib.Core.Path.{◌≡◌, sym, ◌∙◌}
use mathlib.Core.Bool.{Bool}
use mathlib.Core.List.{List}
use Prim.Native.Nat.{ℕ}
use Rattle.answers.specs.Decides.{Decides}
use Rattle.answers.specs.Ordered.{Ordered}
use Rattle.answers.proofs.Unique.{decides-once, ordered-once, outcome-once}
use Rattle.plan.specs.declared.Plan.{Plan}
use Rattle.state.specs.Network.{load_for}
use Rattle.state.specs.Queue.{queue_in, queue_time_in}
use Rattle.state.specs.Sound.{Sound, state_asks}
use Rattle.state.specs.Start.{started, start_asks, begun, Starts}
use Rattle.state.specs.State.{State, word, BothFit}

module _ (plan : Plan) (state : State) where
  pub is-sound-unique : (r s : Bool) → Decides (Sound plan state) r → Decides (Sound plan state) s → r ≡ s
  is-sound-unique r s p q = decides-once r s p q

  pub refusal-unique : (r s : ℕ) → Ordered (state_asks plan state) r → Ordered (state_asks plan state) s → r ≡ s
  refusal-unique r s p q = ordered-once (state_asks plan state) r s p q

  pub start-unique : (r s : ℕ) (a b : State) → Starts plan state r a → Starts plan state s b → (r ≡ s) × (a ≡ b)
  start-unique = outcome-once (start_asks plan state) state (started plan)

-- the others make one value of what they are given
pub begin-unique : (peers : List (List ℕ)) (area a b : State) → a ≡ begun peers area → b ≡ begun peers area → a ≡ b
begin-unique peers area a b p q = p ∙ sym q

pub queue-all-unique : (permissions : List ℕ) (kind k d but : ℕ) (state a b : State) → a ≡ queue_in permissions kind k d but state
    → b ≡ queue_in permissions kind k d but state → a ≡ b
queue-all-unique permissions kind k d but state a b p q = p ∙ sym q

pub queue-time-unique : (v d but : ℕ) (state a b : State) → a ≡ queue_time_in v d but state → b ≡ queue_time_in v d but state → a ≡ b
queue-time-unique v d but state a b p q = p ∙ sym q

pub both-fit-unique : (state second : ℕ) (r s : Bool) → Decides (BothFit state second) r → Decides (BothFit state second) s → r ≡ s
both-fit-unique state second r s p q = decides-once r s p q

pub load-for-unique : (loads : List ℕ) (role k r s : ℕ) → r ≡ load_for loads role k → s ≡ load_for loads role k → r ≡ s
load-for-unique loads role k r s p q = p ∙ sym q

pub word-unique : (state : State) (i r s : ℕ) → r ≡ word state i → s ≡ word state i → r ≡ s
word-unique state i r s p q = p ∙ sym q

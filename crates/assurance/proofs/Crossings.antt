-- Crossings in the network that a code spreads over are the walks of the rules over the devices that take it in. A walk asks only which ports run.
use mathlib.Core.Path.{◌≡◌, refl, sym, subst, ◌∙◌}
use mathlib.Core.Logic.{inl, inr}
use Prim.Native.Nat.{ℕ, suc, ◌+◌, ◌*◌, ◌/◌, ◌≤◌, ◌<◌}
use native.Mathlib.Decide.{dec_le}
use native.Mathlib.Omega.{arith}
use Rattle.plan.specs.Reading.{Held}
use Rattle.plan.specs.declared.Plan.{Plan}
use Rattle.state.specs.State.{State, running}
use Rattle.state.specs.Network.{devices}
use Rattle.state.proofs.Plans.{few}
use Rattle.reach.specs.Walk.{WalkOver, stay, cross}
use Rattle.reach.specs.Away.{AwayOver}
use Rattle.reach.proofs.Found.{none-away}
use Rattle.reach.proofs.Distances.{walk-device, walk-port, nearest}
use Rattle.flood.specs.Flood.{Crossed, here, cross as step, Relays, Within}
use Rattle.assurance.proofs.Nets.{net}

module _ (plan : Plan) (held : Held plan) (kind k : ℕ) (s : State) (takers : ℕ → Type 0) (source : ℕ) (h : source < devices plan) where
  abbrev Crosses : ℕ → ℕ → Type 0
  Crosses = Crossed (net plan kind k s takers source)

  abbrev Walks : ℕ → ℕ → Type 0
  Walks = WalkOver plan s kind k takers source

  -- a way may come back to the source and go on from there; then there is a shorter walk
  pub crossed-walk : {n e : ℕ} → Crosses n e → (m : ℕ) × (m ≤ n) × Walks m e
  crossed-walk here = (0, omega arith, stay)
  crossed-walk (step q way on leads) =
      elim on [
        | inl own ↦ (1, omega arith, walk-port plan held s kind k source h q (subst (Walks 0) (sym own) stay) (inl refl) leads.1 leads.2)
        | inr router ↦
            let before = crossed-walk way in
            (suc before.0, omega (arith, before.1), walk-port plan held s kind k source h q before.2 (inr router) leads.1 leads.2)
      ]

  pub walk-crossed : {n e : ℕ} → Walks n e → Crosses n e
  walk-crossed stay = here
  walk-crossed (cross {n = n} {d = d} w on p l leads takes) =
      let device : (8 * d + p) / 8 ≡ d = omega arith in
      let relays : Relays (net plan kind k s takers source) d =
      elim on [ inl none ↦ inl (none-away w none) | inr router ↦ inr router ] in
      let small : 8 * d + p < 256 = omega (arith, walk-device plan held s kind k source h w, few plan held) in
      step {n = n} (8 * d + p) (rw device (walk-crossed w)) (rw device relays) (small, leads, takes)

  -- no device that is reached needs more crossings than the farthest
  pub farthest-within : ((e : ℕ) → Dec (takers e)) → (D : ℕ) → ((n e : ℕ) → AwayOver plan s kind k takers source n e → n ≤ D)
      → Within (net plan kind k s takers source) D
  farthest-within takes? D most =
      record {
        shorter = λ {n} {d} way.
            let near = nearest plan held s kind k source h takers takes? (crossed-walk way).2 in
            (near.0, most near.0 d near.2, walk-crossed near.2.there);
      }

-- no walk is shorter than a device is away
pub away-least : {plan : Plan} {s : State} {kind k from n m e : ℕ} {Over : ℕ → Type 0} → AwayOver plan s kind k Over from n e → WalkOver plan s kind k Over from m e → n ≤ m
away-least {n = n} {m = m} a w = elim (dec_le n m) [ yes l ↦ l | no l ↦ absurd (a.least m (omega arith) w) ]

-- a walk over some devices from one of them ends at one of them
pub ends-over : {plan : Plan} {s : State} {kind k from n e : ℕ} {Over : ℕ → Type 0} → WalkOver plan s kind k Over from n e → Over from → Over e
ends-over stay first = first
ends-over (cross w on p l leads over) first = over

-- ---- two states in which the same ports run, and two sets of devices

abbrev pub SameLinks : State → State → Type 0
SameLinks s t = (q : ℕ) → q < 256 → running s q ≡ running t q

module _ (plan : Plan) (held : Held plan) (kind k from : ℕ) (h : from < devices plan) where
  pub walk_same : {s t : State} → SameLinks s t → {A B : ℕ → Type 0} → ((n e : ℕ) → WalkOver plan s kind k A from n e → A e → B e)
      → {n e : ℕ} → WalkOver plan s kind k A from n e → WalkOver plan t kind k B from n e
  walk_same same into stay = stay
  walk_same {s} same into (cross {n = n} {d = d} {e = e} w on p l leads over) =
      let small : 8 * d + p < 256 = omega (arith, walk-device plan held s kind k from h w, few plan held) in
      cross (walk_same same into w) on p l
      (record {
        runs = sym (same (8 * d + p) small) ∙ leads.runs;
        sends = leads.sends;
        joined = leads.joined;
        receives = leads.receives;
        admits = leads.admits;
        there = leads.there;
      })
      (into (suc n) e (cross w on p l leads over) over)

  pub away-same : {s t : State} → SameLinks s t → {A B : ℕ → Type 0} → ((n e : ℕ) → WalkOver plan s kind k A from n e → A e → B e)
      → ((n e : ℕ) → WalkOver plan t kind k B from n e → B e → A e) → {n e : ℕ} → AwayOver plan s kind k A from n e → AwayOver plan t kind k B from n e
  away-same same into out a =
      record { there = walk_same same into a.there; least = λ m l w. a.least m l (walk_same (λ q b. sym (same q b)) out w) }

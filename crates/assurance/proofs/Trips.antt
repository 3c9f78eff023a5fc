-- A code on its way, of either kind: what the flood comes to in words of states and walks. An interrupt goes out so, and its acknowledge back.
use mathlib.Core.Path.{◌≡◌, refl, ap, ◌∙◌}
use Prim.Native.Nat.{ℕ, suc, ◌+◌, ◌-◌, ◌*◌, ◌≤◌, ◌<◌}
use native.Mathlib.Decide.{ℕ_discrete}
use native.Mathlib.Nat.{le_trans}
use native.Mathlib.Omega.{arith}
use Rattle.bits.specs.Set.{bit}
use Rattle.bits.proofs.Sets.{bit-two}
use Rattle.plan.specs.Reading.{Held}
use Rattle.plan.specs.declared.Plan.{Plan}
use Rattle.state.specs.State.{State, register, waiting}
use Rattle.state.specs.Network.{devices}
use Rattle.state.specs.Sound.{Sound}
use Rattle.calls.specs.Calls.{called}
use Rattle.bench.specs.Round.{round}
use Rattle.reach.specs.Walk.{WalkOver}
use Rattle.reach.specs.Away.{AwayOver}
use Rattle.reach.proofs.Distances.{walk-device}
use Rattle.flood.specs.Flood.{Flooded}
use Rattle.flood.proofs.Spreads.{flooded}
use Rattle.assurance.specs.Demand3.{SendsK, crossing, window}
use Rattle.assurance.proofs.Nets.{net}
use Rattle.assurance.proofs.Sights.{sight, sending, takers_of}
use Rattle.assurance.proofs.Choices.{sends-small}
use Rattle.assurance.proofs.Fits.{Fit}
use Rattle.assurance.proofs.Arrivals.{of-kind}
use Rattle.assurance.proofs.Meanwhile.{Beside}
use Rattle.assurance.proofs.Runs.{Ready, fit, run}
use Rattle.assurance.proofs.Crossings.{crossed-walk, walk-crossed, farthest-within, walk_same, away-same}

-- device d has called for k in state s, and `last` rounds are played; the code goes over some devices, and D is the most crossings to any of them
pub record Trip (plan : Plan) (kind k : ℕ) (Over : ℕ → Type 0) (d D last spare : ℕ) (s : State) (at : ℕ → State) : Type 0 where
  pub held : Held plan
  pub kinds : kind < 2
  pub place : k < 32
  pub later : (t : ℕ) → t < last → Beside plan k (round plan (at t)).next (at (suc t))
  -- with the rounds to go that are left
  pub fits : (t : ℕ) → t ≤ last → Fit plan kind k s (takers_of kind k s) (last + spare - t) (at t)
  pub sound : (t : ℕ) → t ≤ last → Sound plan (at t)
  pub gets : (n e t : ℕ) → WalkOver plan s kind k Over d n e → crossing * n ≤ t → t ≤ last → bit (register (at t) e) k ≡ 1 - kind
  pub only : (e t : ℕ) → e < devices plan → t ≤ last → bit (register s e) k ≡ kind → bit (register (at t) e) k ≡ 1 - kind
      → (n : ℕ) × (n ≤ t) × WalkOver plan s kind k Over d n e
  pub complete : (t : ℕ) → t ≤ last → ((q : ℕ) → q < 256 → bit (waiting (at t) kind q) k ≡ 0) → (n e : ℕ) → WalkOver plan s kind k Over d n e
      → bit (register (at t) e) k ≡ 1 - kind
  pub once : (q t u : ℕ) → t < u → u < last → SendsK plan k (at t) q → SendsK plan k (at u) q → ⊥
  pub gone : (t : ℕ) → window D ≤ t → t ≤ last → (c q : ℕ) → c < 2 → q < 256 → bit (waiting (at t) c q) k ≡ 0

module _ {plan : Plan} {kind k d last spare : ℕ} {s : State} (r : Ready plan kind k d last spare s) (at : ℕ → State)
    (first : Beside plan k (called plan kind d k s) (at 0)) (later : (t : ℕ) → t < last → Beside plan k (round plan (at t)).next (at (suc t)))
    (Over : ℕ → Type 0) (into : (e : ℕ) → e < devices plan → Over e → bit (register s e) k ≡ kind)
    (out : (e : ℕ) → e < devices plan → bit (register s e) k ≡ kind → Over e) (D : ℕ) (most : (n e : ℕ) → AwayOver plan s kind k Over d n e → n ≤ D) where
  abbrev takers : ℕ → Type 0
  takers = takers_of kind k s

  fits : (t : ℕ) → t ≤ last → Fit plan kind k s takers (last + spare - t) (at t)
  fits t to = fit r at first later t (last + spare - t) to (omega arith)

  -- the devices that the code goes over are those that take it in
  abbrev ins : (n e : ℕ) → WalkOver plan s kind k Over d n e → Over e → takers e
  ins n e w = into e (walk-device plan r.held s kind k d r.there w)

  abbrev outs : (n e : ℕ) → WalkOver plan s kind k takers d n e → takers e → Over e
  outs n e w = out e (walk-device plan r.held s kind k d r.there w)

  walk-in : {n e : ℕ} → WalkOver plan s kind k Over d n e → WalkOver plan s kind k takers d n e
  walk-in = walk_same plan r.held kind k d r.there (λ q b. refl) ins

  walk-out : {n e : ℕ} → WalkOver plan s kind k takers d n e → WalkOver plan s kind k Over d n e
  walk-out = walk_same plan r.held kind k d r.there (λ q b. refl) outs

  flood : Flooded (net plan kind k s takers d) crossing last D (λ t. sight plan kind k s takers d (at t)) (λ t. sending plan kind k (at t))
  flood =
      flooded (net plan kind k s takers d) crossing last (omega arith) (λ t. sight plan kind k s takers d (at t)) (λ t. sending plan kind k (at t))
      (run r at first later) D
      (farthest-within plan r.held kind k s takers d r.there (λ e. ℕ_discrete (bit (register s e) k) kind) D
      (λ n e a. most n e (away-same plan r.held kind k d r.there (λ q b. refl) outs ins a)))

  -- what is sent of k is of this kind: k waits as no other
  of-it : (q t : ℕ) → t < last → SendsK plan k (at t) q → sending plan kind k (at t) q
  of-it q t h x =
      let is = of-kind plan kind k s takers (at t) r.held r.kinds r.place (fits t (omega arith)) x.0 q x.1 x.2 in
      (sends-small plan k x.0 (at t) q r.place x.1 x.2, rw is at x.2)

  none-waits : (t : ℕ) → window D ≤ t → t ≤ last → (c q : ℕ) → c < 2 → q < 256 → bit (waiting (at t) c q) k ≡ 0
  none-waits t from to c q g h =
      elim (ℕ_discrete c kind) [
        | yes is ↦
            let none : bit (waiting (at t) kind q) k ≡ 1 → ⊥ = λ b. flood.done t from to (h, b) in
            ap (λ i. bit (waiting (at t) i q) k) is ∙ omega (arith, bit-two (waiting (at t) kind q) k)
        | no ne ↦
            let is : c ≡ 1 - kind = omega (arith, r.kinds) in
            ap (λ i. bit (waiting (at t) i q) k) is ∙ (fits t to).other q h
      ]

  pub trip : Trip plan kind k Over d D last spare s at
  trip =
      record {
        held = r.held;
        kinds = r.kinds;
        place = r.place;
        later = later;
        fits = fits;
        sound = λ t to. (fits t to).sound;
        gets = λ n e t w from to. (flood.reached (walk-crossed plan r.held kind k s takers d r.there (walk-in w)) t from to).2;
        only = λ e t h to was b.
            let way = flood.only t to {d = e} (h, was, b) in
            let walk = crossed-walk plan r.held kind k s takers d r.there way.2 in
            (walk.0, le_trans walk.1 way.1, walk-out walk.2);
        complete = λ t to none n e w.
            (flood.complete t to (λ q x. omega (arith, none q x.0, x.1)) (walk-crossed plan r.held kind k s takers d r.there (walk-in w))).2;
        once = λ q t u lt to x y. flood.once t u lt to (of-it q t (omega arith) x) (of-it q u to y);
        gone = none-waits;
      }

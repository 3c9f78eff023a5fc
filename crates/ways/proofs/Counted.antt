-- The numbers that the walk by layers gives are the least numbers of crossings from a source, and the greatest of them is D.
use mathlib.Core.Path.{◌≡◌, sym, subst, ◌∙◌}
use mathlib.Core.List.{List}
use mathlib.Core.Logic.{inl, inr}
use Prim.Native.Nat.{ℕ, ◌≤◌, ◌<◌}
use native.Mathlib.Decide.{dec_lt, ℕ_discrete}
use native.Mathlib.Omega.{arith}
use lib.ListN.{length}
use Rattle.bits.specs.Set.{size}
use Rattle.bits.proofs.Sets.{size-le}
use Rattle.plan.specs.Reading.{Held}
use Rattle.plan.specs.declared.Plan.{Plan}
use Rattle.state.specs.State.{State, words}
use Rattle.state.specs.Network.{devices}
use Rattle.state.specs.Sound.{Sound}
use Rattle.state.proofs.Plans.{few}
use Rattle.reach.specs.Walk.{Any, Walk, stay}
use Rattle.reach.specs.Away.{Away}
use Rattle.reach.specs.Visits.{ahead_all, visited}
use Rattle.reach.proofs.Found.{visits-reach}
use Rattle.reach.proofs.Distances.{walk-device, nearest, farthest, farthest-below, any?}
use Rattle.ways.specs.Crossings.{none, Crossings, reached, not-reached, AllCrossings}
use Rattle.ways.specs.Inner.Layers.{at, layers, Greatest}
use Rattle.ways.proofs.LayerLaws.{Found, layers-found}
use Rattle.ways.proofs.Steps.{ahead, role, walk-way, way-walk}

-- ---- no shortest way has 32 crossings

module _ (plan : Plan) (held : Held plan) (s : State) (k d : ℕ) (h : d < devices plan) where
  small : d < 32
  small = omega (arith, few plan held, h)

  pub away-small : (n e : ℕ) → Away plan s 0 k d n e → n < 32
  unfolding size
  away-small n e a =
      let far = farthest plan held s 0 k d h Any any? in
      omega (
        arith,
        far.1.most n e a,
        farthest-below plan held s k d far.0 (visited plan s d k).set h far.1 (visits-reach plan held s d k small),
        size-le 32 (visited plan s d k).set,
      )

  -- who is reached is so by fewer
  pub few-crossings : (n e : ℕ) → Walk plan s 0 k d n e → (m : ℕ) × (m < 32) × Walk plan s 0 k d m e
  few-crossings n e w =
      let a = nearest plan held s 0 k d h Any any? w in
      (a.0, away-small a.0 e a.2, a.2.there)

  pub walk-below : {n e : ℕ} → Walk plan s 0 k d n e → e < 32
  walk-below w = omega (arith, walk-device plan held s 0 k d h w, few plan held)

  -- the layers of a table that is the plan's own have found them
  pub walked : (sound : Sound plan s) (to far : List ℕ) → to ≡ ahead_all plan.core.permissions plan.peers plan.barred s k → far ≡ layers to plan.core.role d
      → Found (ahead plan s k sound.size) plan.core.role d 31 far
  walked sound to far t f =
      let same : far ≡ layers (ahead plan s k sound.size) plan.core.role d = f ∙ rw t in
      subst (Found _ _ d 31) (sym same) (layers-found _ _ d small)

  -- ---- by what the layers have found

  module _ (fits : length s ≡ words) (far : List ℕ) (found : Found (ahead plan s k fits) (role plan s k fits) d 31 far) where
    pub there : (e : ℕ) → e < 32 → at far e < 32 → Walk plan s 0 k d (at far e) e
    there e l g = way-walk plan s k fits d small (found.known e l g)

    pub low : (n e : ℕ) → n < 32 → Walk plan s 0 k d n e → at far e ≤ n
    low n e g w = found.near n e (omega arith) (walk-way plan s k fits d small w)

    pub nowhere : (e : ℕ) → (at far e < 32 → ⊥) → (n : ℕ) → Walk plan s 0 k d n e → ⊥
    nowhere e l n w = let x = few-crossings n e w in l (omega (arith, low x.0 e x.1 x.2, x.1))

    away : (e : ℕ) → e < 32 → at far e < 32 → Away plan s 0 k d (at far e) e
    away e l g = record { there = there e l g; least = λ m y w. omega (arith, low m e (omega (arith, y, g)) w, y) }

    crossings-at : (e : ℕ) → e < 32 → Crossings plan s d k e (at far e)
    crossings-at e l =
        elim (dec_lt (at far e) 32) [
          | yes g ↦ reached (away e l g)
          | no g ↦
              let z : at far e ≡ none = elim (found.within e l) [ inl m ↦ absurd (omega (arith, m, g)) | inr m ↦ m ] in
              subst (Crossings plan s d k e) (sym z) (not-reached (nowhere e g))
        ]

    pub all-crossings : (D : ℕ) → Greatest 32 far D → AllCrossings plan s d k D far
    all-crossings D top =
        record {
          size = found.long;
          each = crossings-at;
          most = record {
            some = elim top.some [
              | inl z ↦ (d, subst (λ (n : ℕ). Away plan s 0 k d n d) (sym z) (record { there = stay; least = λ m y w. omega (arith, y) }))
              | inr (e, l, v, g) ↦ (e, subst (λ (n : ℕ). Away plan s 0 k d n e) v (away e l (omega (arith, v, g))))
            ];
            most = λ n e a.
                let l = walk-below a.there in
                let g = away-small n e a in
                let up = low n e g a.there in
                elim (ℕ_discrete (at far e) n) [
                  | yes z ↦ omega (arith, top.most e l (omega (arith, up, g)), z)
                  | no z ↦ absurd (a.least (at far e) (omega (arith, up, z)) (there e l (omega (arith, up, g))))
                ];
          };
        }

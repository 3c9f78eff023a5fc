-- The promise of each public function allows one result.
use mathlib.Core.Path.{◌≡◌, sym, ap, ◌∙◌}
use mathlib.Core.List.{List}
use Prim.Native.Nat.{ℕ, ◌<◌}
use native.Mathlib.Decide.{ℕ_discrete}
use native.Mathlib.Omega.{arith}
use Rattle.answers.specs.Ordered.{Ordered}
use Rattle.answers.proofs.Unique.{ordered-once}
use Rattle.bits.specs.Set.{bit, size}
use Rattle.bits.proofs.Sets.{bit-two, same-members}
use Rattle.plan.specs.declared.Plan.{Plan}
use Rattle.state.specs.State.{State}
use Rattle.reach.specs.Reach.{Reached, ports_examined, source_asks, reach_asks, Reaches}
use Rattle.reach.specs.Visits.{ahead_all}

module _ (plan : Plan) (s : State) (d k : ℕ) where
  -- what is in one set of those reached is in the other
  within : (x y : ℕ) → Reached plan s d k x → Reached plan s d k y → (e : ℕ) → e < 32 → bit x e ≡ 1 → bit y e ≡ 1
  within x y p q e h b = let w = p.only e h b in (q.all w.0 e w.1).1

  pub reached-once : (x y : ℕ) → Reached plan s d k x → Reached plan s d k y → x ≡ y
  reached-once x y p q =
      same-members 32 x y p.small q.small
      (λ e h. elim (ℕ_discrete (bit x e) 1) [
        | yes b ↦ b ∙ sym (within x y p q e h b)
        | no b ↦ elim (ℕ_discrete (bit y e) 1) [
          | yes c ↦ absurd (b (within y x q p e h c))
          | no c ↦ omega (arith, bit-two x e, bit-two y e)
        ]
      ])

  pub reach-unique : (m n v w x y a b : ℕ) → Reaches plan s d k m v x a → Reaches plan s d k n w y b → (m ≡ n) × (v ≡ w) × (x ≡ y) × (a ≡ b)
  reach-unique m n v w x y a b p q =
      let e = ordered-once (reach_asks plan s d k) m n p.answers q.answers in
      elim (ℕ_discrete m 0) [
        | yes z ↦
            let one = p.made z in
            let other = q.made (sym e ∙ z) in
            let same = reached-once x y one.0 other.0 in
            (e, one.1 ∙ ap size same ∙ sym other.1, same, one.2 ∙ ap (ports_examined plan d) same ∙ sym other.2)
        | no z ↦
            let one = p.kept z in
            let other = q.kept (λ f. z (e ∙ f)) in
            (e, one.1 ∙ sym other.1, one.0 ∙ sym other.0, one.2 ∙ sym other.2)
      ]

-- ---- what other crates use

pub source-refusal-unique : (n : ℕ) (sources : List ℕ) (d k x y : ℕ) → Ordered (source_asks n sources d k) x → Ordered (source_asks n sources d k) y → x ≡ y
source-refusal-unique n sources d k = ordered-once (source_asks n sources d k)

pub ahead-all-unique : (permissions : List ℕ) (peers : List (List ℕ)) (barred : List ℕ) (s : State) (k : ℕ) (x y : List ℕ) → x ≡ ahead_all permissions peers barred s k
    → y ≡ ahead_all permissions peers barred s k → x ≡ y
ahead-all-unique permissions peers barred s k x y p q = p ∙ sym q

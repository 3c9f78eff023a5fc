-- A device whose ports lead nowhere reaches itself alone; so does one of which no port runs.
use mathlib.Core.Path.{◌≡◌, refl, sym, ap, ◌∙◌}
use Prim.Native.Nat.{ℕ, ◌+◌, ◌*◌, ◌<◌}
use native.Mathlib.Decide.{ℕ_discrete}
use native.Mathlib.Omega.{arith}
use borrow.Author.Tests.{ne_eqb}
use Rattle.lists.proofs.Sums.{sum-changed, sum-const}
use Rattle.bits.specs.Set.{bit, join, size_below, size}
use Rattle.bits.proofs.Sets.{bit-two, bit-zero, same-members, join-same, join-other, join-lt, size-join}
use Rattle.plan.specs.declared.Plan.{Plan}
use Rattle.state.specs.State.{State, running}
use Rattle.state.specs.Network.{ports_of}
use Rattle.reach.specs.Walk.{Leads, Walk, stay, cross}
use Rattle.reach.specs.Reach.{Reached, examined_at, ports_examined, Reaches}
use Rattle.reach.proofs.Examined.{own-part}

-- nothing is in the set 0, so one device is in the set of one
size_none : size_below 32 0 ≡ 0
unfolding size_below bit
size_none = refl

size-one : (d : ℕ) → d < 32 → size (join 0 d) ≡ 1
unfolding size
size-one d h = omega (arith, size-join 32 0 d (bit-zero d) h h, size_none)

own-ports : (plan : Plan) (d : ℕ) → d < 32 → ports_examined plan d (join 0 d) ≡ ports_of plan d
unfolding ports_examined
own-ports plan d h =
    omega (
      arith,
      own-part plan d (join 0 d),
      sum-const 32 0,
      sum-changed 32 d (examined_at plan d (join 0 d)) (λ _. 0) h (λ e l n. simp (ne_eqb e d n, join-other 0 d e n, bit-zero e)),
    )

-- no walk leaves a device whose ports lead nowhere
pub walks-stay : (plan : Plan) (s : State) (kind k d : ℕ) → ((p e : ℕ) → p < 8 → Leads plan s kind k (8 * d + p) e → ⊥)
    → {n e : ℕ} → Walk plan s kind k d n e → (n ≡ 0) × (e ≡ d)
walks-stay plan s kind k d nowhere stay = (refl, refl)
walks-stay plan s kind k d nowhere (cross {d = m} {e = e} w on p l leads over) =
    let here : m ≡ d = (walks-stay plan s kind k d nowhere w).1 in
    absurd (nowhere p e l (rw here at leads))

-- no port of device d runs
module _ (plan : Plan) (s : State) (d k : ℕ) (still : (p : ℕ) → p < 8 → running s (8 * d + p) ≡ 1 → ⊥) where
  module _ (set : ℕ) (r : Reached plan s d k set) where
    pub itself-alone : (e : ℕ) → e < 32 → bit set e ≡ 1 → e ≡ d
    itself-alone e h b = (walks-stay plan s 0 k d (λ p _ l leads. still p l leads.runs) (r.only e h b).1).1

    small : d < 32
    small = (r.all 0 d stay).0

    pub set-of-one : set ≡ join 0 d
    set-of-one =
        same-members 32 set (join 0 d) r.small (join-lt 0 d (omega arith))
        (λ e h. elim (ℕ_discrete e d) [
          | yes q ↦ rw q ((r.all 0 d stay).1 ∙ sym (join-same 0 d small))
          | no n ↦ elim (ℕ_discrete (bit set e) 1) [
            | yes b ↦ absurd (n (itself-alone e h b))
            | no b ↦ omega (arith, bit-two set e, join-other 0 d e n, bit-zero e)
          ]
        ])

  -- so the call, where it is not refused, answers 1 and that set, and has examined the ports of the device
  pub reaches-itself : (number value set examined : ℕ) → Reaches plan s d k number value set examined → number ≡ 0
      → (value ≡ 1) × (set ≡ join 0 d) × (examined ≡ ports_of plan d)
  reaches-itself number value set examined x done =
      let made = x.made done in
      let one = set-of-one set made.0 in
      let h = small set made.0 in
      (made.1 ∙ ap size one ∙ size-one d h, one, made.2 ∙ ap (ports_examined plan d) one ∙ own-ports plan d h)

-- To any device that Time-Codes get to there are fewer crossings than there are devices: a way with as many comes to a device twice, and can leave the loop out.
use mathlib.Core.Path.{◌≡◌, refl, sym, subst}
use mathlib.Core.Logic.{◌⊎◌, inl, inr}
use Prim.Native.Nat.{ℕ, suc, ◌-◌, ◌≤◌, ◌<◌}
use native.Mathlib.Nat.{le_refl}
use native.Mathlib.Decide.{ℕ_discrete}
use native.Mathlib.Omega.{arith}
use Rattle.plan.specs.Reading.{Held}
use Rattle.plan.specs.declared.Plan.{Plan}
use Rattle.state.specs.State.{State}
use Rattle.state.specs.Network.{devices}
use Rattle.state.specs.Sound.{Sound}
use Rattle.reach.proofs.Deciding.{either?, count, count-le, count-gains}
use Rattle.flood.specs.Flood.{here, cross}
use Rattle.assurance.specs.Distribution.{Crosses, SomeD}
use Rattle.assurance.proofs.Timely.{gets-device}

module _ (plan : Plan) (held : Held plan) (master : ℕ) (there : master < devices plan) (s : State) (sound : Sound plan s) where
  abbrev Way : ℕ → ℕ → Type 0
  Way = Crosses plan master s

  -- the devices on a way
  On : {n e : ℕ} → Way n e → ℕ → Type 0
  On here d = d ≡ master
  On (cross {e = e} q w on leads) d = (d ≡ e) ⊎ On w d

  on? : {n e : ℕ} (w : Way n e) (d : ℕ) → Dec (On w d)
  unfolding On
  on? here d = ℕ_discrete d master
  on? (cross {e = e} q w on leads) d = either? (ℕ_discrete d e) (on? w d)

  -- to each of them there is a way that is no longer
  part : {n e d : ℕ} (w : Way n e) → On w d → (m : ℕ) × (m ≤ n) × Way m d
  unfolding On
  part here x = (0, le_refl _, subst (Way 0) (sym x) here)
  part (cross {n = n} q w on leads) (inl x) = (suc n, le_refl _, subst (Way (suc n)) (sym x) (cross q w on leads))
  part (cross q w on leads) (inr x) = let p = part w x in (p.0, omega (arith, p.1), p.2)

  -- a way has more devices than crossings, or there is a shorter one
  shorter : {n e : ℕ} (w : Way n e) → ((m : ℕ) × (m < n) × Way m e) ⊎ (n < count (On w) (on? w) (devices plan))
  unfolding On
  shorter here =
      let some = count-gains (λ d. ⊥) (On here) (λ d. no (λ x. x)) (on? here) (λ d x. absurd x) (devices plan) master there refl (λ x. x) in
      inr (omega arith)
  shorter (cross {e = e} q w on leads) = elim (shorter w) [
    | inl x ↦ inl (suc x.0, omega (arith, x.1), cross q x.2 on leads)
    | inr all ↦ elim (on? w e) [
      | yes x ↦ let p = part w x in inl (p.0, omega (arith, p.1), p.2)
      | no new ↦
          let v = cross q w on leads in
          let small = gets-device plan held master there s sound 0 (omega arith) v in
          let more = count-gains (On w) (On v) (on? w) (on? v) (λ d x. inr x) (devices plan) e small (inl refl) new in
          inr (omega arith)
    ]
  ]

  short : {n e : ℕ} → Way n e → (m : ℕ) × (m < devices plan) × Way m e
  short here = (0, omega arith, here)
  short (cross q w on leads) =
      let p = short w in
      let v = cross q p.2 on leads in
      elim (shorter v) [
        | inl x ↦ (x.0, omega (arith, p.1, x.1), x.2)
        | inr all ↦ (suc p.0, omega (arith, all, count-le (On v) (on? v) (devices plan)), v)
      ]

pub some-d : SomeD
unfolding SomeD
some-d plan held master there s sound = (
  devices plan - 1,
  omega arith,
  record { shorter = λ way. let p = short plan held master there s sound way in (p.0, omega (arith, p.1), p.2) },
)

-- A timer stands still, ends, or falls, and a sound state stays sound.
use mathlib.Core.Path.{◌≡◌, refl, ◌∙◌}
use mathlib.Core.Bool.{Bool, cond}
use mathlib.Core.List.{List, [], ◌∷◌, ◌++◌}
use mathlib.Core.Logic.{◌≢◌}
use Prim.Native.Nat.{ℕ, zero, suc, ◌*◌, ◌/◌, ◌%◌, ◌<◌}
use native.Mathlib.Omega.{arith}
use lib.Dec.{eqb-suc-zero}
use Rattle.lists.proofs.Loops.{keeps}
use Rattle.bits.specs.Set.{bit, leave}
use Rattle.bits.proofs.Sets.{bit-two, leave_same, leave-other, leave-lt}
use Rattle.plan.specs.Reading.{Held}
use Rattle.plan.specs.declared.Plan.{Plan}
use Rattle.state.specs.State.{word, put, register_at, timer_at, register, timer, State}
use Rattle.state.specs.Network.{devices, router}
use Rattle.state.specs.Sound.{Timed, Sound}
use Rattle.state.proofs.Words.{word-other, put_word}
use Rattle.state.proofs.Plans.{few}
use Rattle.state.proofs.Marks.{timer-step}
use Rattle.bench.specs.Round.{World, of_timeout, told_word, fall, fallen}

module _ (is_router : Bool) (d k : ℕ) (w : World) where
  abbrev pub ended : World
  ended =
      record {
        state = put (put w.state (register_at d) (leave (register w.state d) k)) (timer_at d k) 0;
        told = cond is_router w.told (w.told ++ (told_word of_timeout d k ∷ []));
      }

  -- what is so in each of these cases is so of the timer's fall
  pub fall-cases : (P : World → Type 0) → (timer w.state d k ≡ 0 → P w) → (timer w.state d k ≡ 1 → P ended)
      → ((t : ℕ) → timer w.state d k ≡ suc (suc t) → P (record { state = put w.state (timer_at d k) (suc t); told = w.told })) → P (fall is_router d k w)
  unfolding fall
  fall-cases P still ends falls = by-timer (timer w.state d k) refl
    where
      by-timer : (n : ℕ) → timer w.state d k ≡ n → P (fall is_router d k w)
      by-timer zero e = rw (e, fall) (still e)
      by-timer (suc zero) e = rw (e, fall) (ends e)
      by-timer (suc (suc t)) e = rw (e, fall, eqb-suc-zero) (falls t e)

  -- it changes its register and its timer
  pub fall-other : (i : ℕ) → i ≢ register_at d → i ≢ timer_at d k → word (fall is_router d k w).state i ≡ word w.state i
  fall-other i a b =
      fall-cases (λ v. word v.state i ≡ word w.state i) (λ e. refl)
      (λ e. word-other _ (timer_at d k) 0 i b ∙ word-other w.state (register_at d) _ i a)
      (λ t e. word-other w.state (timer_at d k) (suc t) i b)

module _ (plan : Plan) (held : Held plan) {s : State} (x : Sound plan s) (d : ℕ) (h : d < devices plan) where
  pub fall-step : (is_router : Bool) (k : ℕ) (told : List ℕ) → k < 32 → Sound plan (fall is_router d k (record { state = s; told = told })).state
  fall-step is_router k told l =
      let r = register s d in
      let old : Timed plan s d k = x.timers d k h (omega (arith, few plan held)) l in
      let small = x.fits (register_at d) in
      fall-cases is_router d k (record { state = s; told = told }) (λ v. Sound plan v.state) (λ e. x)
      (λ e. let is = leave_same r k l in
      timer-step plan held x d h k (leave r k) 0 l (leave-lt r k small) (leave-other r k) (omega arith) (λ b. absurd (omega arith)) (λ b. refl))
      (λ t e.
      let two = bit-two r k in
      let off : bit r k ≢ 0 = λ b. absurd (omega (arith, old.off b)) in
      let on = old.on (omega arith) in
      rw (put_word s (register_at d)) at (timer-step plan held x d h k r (suc t) l small (λ j m ne. refl) (omega arith) (λ b. omega arith) (λ b. absurd (off b))))

module _ (plan : Plan) (held : Held plan) where
  pub fallen-sound : (w : World) → Sound plan w.state → Sound plan (fallen plan w).state
  unfolding fallen
  fallen-sound w x =
      keeps (λ i. fall (router plan (i / 32)) (i / 32) (i % 32)) (λ v. Sound plan v.state) (32 * devices plan)
      (λ i v l y. fall-step plan held y (i / 32) (omega arith) (router plan (i / 32)) (i % 32) v.told (omega arith)) w x

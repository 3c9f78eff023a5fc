use mathlib.Core.Path.{◌≡◌, refl, sym, ap, ◌∙◌}
use mathlib.Core.Bool.{Bool}
use mathlib.Core.Logic.{dite}
use Prim.Native.Nat.{ℕ, ◌+◌, ◌^◌, ◌≤◌, ◌<◌}
use native.Mathlib.Decide.{dec_lt}
use native.Mathlib.Omega.{arith}
use lib.Count.{count_trailing_zeros}
use Rattle.lists.specs.Loop.{up_to}
use Rattle.bits.specs.Set.{bit, leave}
use Rattle.bits.proofs.Sets.{bit-zero, leave_same, leave-other, leave-lt, leave-less}
use Rattle.bits.proofs.Trailing.{trailing_below, trailing_at, trailing_lt}
use Rattle.state.specs.State.{State, timer}
use Rattle.bench.specs.Round.{fall}
use Rattle.bench.specs.Inner.Shown.{Leads}
use Rattle.bench.specs.declared.rounds.Told.{Told}
use Rattle.bench.proofs.Following.{turns-more, turns-done}
use Rattle.bench.proofs.Idles.{rests-lead}
use Rattle.bench.proofs.rounds.fall_device.Given as goal

-- the timers before `at` have fallen; of the others only those run that are left in `rest`
pub record Falling (router : Bool) (d : ℕ) (s : State) (told : Told) (rest : ℕ) (t : State) (now : Told) : Type 0 where
  pub at : ℕ
  pub within : at ≤ 32
  pub fits : rest < 2 ^ 32
  pub past : (k : ℕ) → k < at → bit rest k ≡ 0
  pub idle : (k : ℕ) → at ≤ k → k < 32 → bit rest k ≡ 0 → timer s d k ≡ 0
  pub leads : Leads (up_to (fall router d) at) at s told t now

module _ {router : Bool} {d : ℕ} {s : State} {told : Told} {rest : ℕ} {t : State} {now : Told} (v : Falling router d s told rest t now) where
  -- the next timer that runs
  module _ (some : 0 < rest) where
    abbrev pub k : ℕ
    k = count_trailing_zeros 32 rest

    pub low : k < 32
    low = trailing_lt 32 rest some v.fits

    pub ahead : v.at ≤ k
    ahead = dite (dec_lt k v.at) (λ h. absurd (omega (arith, v.past k h, trailing_at 32 rest low))) (λ h. omega arith)

    pub less : leave rest k < rest
    less = leave-less rest k low (trailing_at 32 rest low)

    pub again : {u : State} {after : Told} → Leads (fall router d k) 1 t now u after → Falling router d s told (leave rest k) u after
    again p =
        record {
          at = k + 1;
          within = omega (arith, low);
          fits = leave-lt rest k v.fits;
          past = λ j h. dite (dec_lt j k) (λ l. leave-other rest k j (omega (arith, low)) (omega arith) ∙ trailing_below 32 rest j l)
              (λ l. let e : j ≡ k = omega arith in ap (bit (leave rest k)) e ∙ leave_same rest k low);
          idle = λ j h l z. v.idle j (omega (arith, ahead)) l (sym (leave-other rest k j l (omega arith)) ∙ z);
          leads =
              turns-more (fall router d) k
              (rests-lead router d ahead (λ j h l. v.idle j h (omega (arith, low)) (trailing_below 32 rest j l)) v.leads)
              p (omega (arith, ahead));
        }

  -- none is left
  pub done : rest ≡ 0 → Leads (up_to (fall router d) 32) 32 s told t now
  done e = turns-done (fall router d) 32 (rests-lead router d v.within (λ k h l. v.idle k h l (ap (λ (w : ℕ). bit w k) e ∙ bit-zero k)) v.leads) refl v.within

abbrev pub invariant-loop-rest : goal.invariant-loop-rest
invariant-loop-rest l = Falling l.router l.d l.initial.state l.initial.told l.rest l.state l.told

abbrev pub decreases-loop-rest : goal.decreases-loop-rest
decreases-loop-rest l = l.rest

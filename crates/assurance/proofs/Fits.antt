-- The states in which a code floods, with so many rounds to go.
use mathlib.Core.Path.{◌≡◌, sym, ap, ◌∙◌}
use mathlib.Core.Bool.{Bool}
use Prim.Native.Nat.{ℕ, ◌-◌, ◌<◌}
use native.Mathlib.Decide.{ℕ_discrete}
use native.Mathlib.Omega.{arith}
use Rattle.bits.specs.Set.{bit}
use Rattle.plan.specs.Reading.{Held}
use Rattle.plan.specs.declared.Plan.{Plan}
use Rattle.state.specs.State.{State, register, timer, waiting, running}
use Rattle.state.specs.Network.{devices, load_of}
use Rattle.state.specs.Sound.{Sound}
use Rattle.state.proofs.Plans.{few}
use Rattle.laws.specs.Alike.{Alike}
use Rattle.assurance.proofs.Taking.{Took}

module _ {k : ℕ} where
  pub alike-back : {s t : State} → Alike k s t → Alike k t s
  alike-back x =
      record {
        marks = λ d h. sym (x.marks d h);
        timers = λ d h. sym (x.timers d h);
        waits = λ kind q g h. sym (x.waits kind q g h);
        runs = λ q h. sym (x.runs q h);
      }

module _ (plan : Plan) (kind k : ℕ) (s₀ : State) (takers : ℕ → Type 0) where
  pub record Fit (u : ℕ) (s : State) : Type 0 where
    pub sound : Sound plan s
    -- no link changed
    pub runs : (q : ℕ) → q < 256 → running s q ≡ running s₀ q
    -- k does not wait as the other kind
    pub other : (q : ℕ) → q < 256 → bit (waiting s (1 - kind) q) k ≡ 0
    -- no timer of k ends in the next u rounds
    pub long : (d : ℕ) → d < devices plan → bit (register s d) k ≡ 1 → u < timer s d k
    -- a device that does not hold the code is one that it is new to
    pub still : (d : ℕ) → d < devices plan → bit (register s d) k ≡ kind → takers d

  -- what does not concern k changes nothing of it
  pub fit-alike : Held plan → kind < 2 → (u : ℕ) {s t : State} → Alike k s t → Sound plan t → Fit u s → Fit u t
  fit-alike held g u x y f =
      let n = few plan held in
      record {
        sound = y;
        runs = λ q h. sym (x.runs q h) ∙ f.runs q h;
        other = λ q h. sym (x.waits (1 - kind) q (omega arith) h) ∙ f.other q h;
        long = λ d h b. rw (← x.timers d (omega arith)) (f.long d h (x.marks d (omega arith) ∙ b));
        still = λ d h b. f.still d h (x.marks d (omega arith) ∙ b);
      }

  -- a device that takes the code in stays fit
  pub fit-took : Held plan → kind < 2 → (u : ℕ) → (kind ≡ 0 → (d : ℕ) → d < devices plan → u < load_of plan d k) → {d but : ℕ} {hands : Bool} {v t : State}
      → d < devices plan → Took plan kind k d but hands v t → Sound plan t → Fit u v → Fit u t
  fit-took held g u loads {d} {t = t} h x y f =
      let n = few plan held in
      record {
        sound = y;
        runs = λ q b. x.runs q ∙ f.runs q b;
        other = λ q b. x.other q b (f.other q b);
        long = λ e b o. elim (ℕ_discrete e d) [
          | yes is ↦
              let zero : kind ≡ 0 = omega (arith, x.held, ap (λ i. bit (register t i) k) is) in
              rw is (rw (x.timed, zero) (loads zero d h))
          | no ne ↦
              let same = x.others e (omega arith) ne in
              rw same.1 (f.long e b (ap (λ r. bit r k) (sym same.0) ∙ o))
        ];
        still = λ e b o. elim (ℕ_discrete e d) [
          | yes is ↦ absurd (omega (arith, x.held, ap (λ i. bit (register t i) k) is))
          | no ne ↦ f.still e b (ap (λ r. bit r k) (sym (x.others e (omega arith) ne).0) ∙ o)
        ];
      }

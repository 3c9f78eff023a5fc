-- What a call's conditions come to at its returns.
use mathlib.Core.Path.{◌≡◌, refl}
use mathlib.Core.List.{List, ◌∷◌}
use mathlib.Core.Logic.{inl, inr}
use Prim.Native.Nat.{ℕ, ◌<◌}
use native.Mathlib.Omega.{arith}
use lib.ListN.{length}
use Rattle.std.specs.Prelude.{Result, Ok, Err, IsErrAnd}
use Rattle.answers.specs.Ordered.{ask, Ordered, Tells}
use Rattle.answers.specs.Refusals.{number_of, number_in, value_in}
use Rattle.answers.specs.declared.Refusal.{Refusal}
use Rattle.answers.proofs.Outcomes.{holds, passed, stopped}
use Rattle.answers.proofs.Refusals.{positive}
use Rattle.plan.specs.Reading.{Held}
use Rattle.plan.specs.declared.Plan.{Plan}
use Rattle.state.specs.State.{State}
use Rattle.state.specs.Sound.{Sound, state_asks}
use Rattle.state.specs.Network.{devices}
use Rattle.state.proofs.Plans.{few}
use Rattle.ways.specs.Calls.{question_asks, way_asks}

nonzero : (r : Refusal) → number_of r ≡ 0 → ⊥
nonzero r z = omega (arith, positive r)

module _ (plan : Plan) (s : State) (d k e : ℕ) where
  -- what holds where it is refused by none
  pub record Ready : Type 0 where
    pub held : Held plan
    pub sound : Sound plan s
    pub device : e < devices plan
    pub source : d < devices plan
    -- a plan has no more than 32 of them
    pub device-small : e < 32
    pub source-small : d < 32

  pub ready : Ordered (state_asks plan s) 0 → Ordered (question_asks plan d k e) 0 → Ready
  ready o q =
      let plain = holds (state_asks plan s) refl o refl in
      let asked = holds (question_asks plan d k e) refl q refl in
      let most = few plan plain.0 in
      record {
        held = plain.0;
        sound = plain.1.0;
        device = asked.0;
        source = asked.1.0;
        device-small = omega (arith, asked.0, most);
        source-small = omega (arith, asked.1.0, most);
      }

module _ (plan : Plan) (s : State) (d k e size : ℕ) (before : List ℕ) where
  abbrev Asked : ℕ → Type 0
  Asked n = Ordered (way_asks plan s (length before ≡ size) d k e) n

  -- refused by the plan or the state
  pub by-state : (r : Refusal) → Ordered (state_asks plan s) (number_of r) → Asked (number_of r)
  by-state r o = stopped (state_asks plan s) (ask 3 (length before ≡ size) ∷ question_asks plan d k e) o (nonzero r)

  -- behind them
  module _ (o : Ordered (state_asks plan s) 0) where
    -- refused by the area
    pub by-area : (length before ≡ size → ⊥) → Asked 3
    by-area n = passed (state_asks plan s) (ask 3 (length before ≡ size) ∷ question_asks plan d k e) 3 (holds (state_asks plan s) refl o refl) (inl (n, refl))

    module _ (fits : length before ≡ size) where
      -- by what is asked
      pub by-question : {n : ℕ} → Ordered (question_asks plan d k e) n → Asked n
      by-question {n} q = passed (state_asks plan s) (ask 3 (length before ≡ size) ∷ question_asks plan d k e) n (holds (state_asks plan s) refl o refl) (inr (fits, q))

  module _ (Right : ℕ → List ℕ → Type 0) where
    abbrev Answers : ℕ → ℕ → List ℕ → Type 0
    Answers = Tells (way_asks plan s (length before ≡ size) d k e) Right before

    -- a refusal that is passed on
    pub answer-refused : (r : Result ℕ Refusal) (x : Refusal) → IsErrAnd r (λ y. y ≡ x) → Asked (number_of x) → Answers (number_in r) (value_in r) before
    answer-refused (Ok v) x w o = absurd w
    answer-refused (Err y) x w o = record { answers = rw w o; made = λ z. absurd (nonzero y z); kept = λ _. (refl, refl) }

    pub answer-done : (value : ℕ) (after : List ℕ) → Asked 0 → Right value after → Answers 0 value after
    answer-done value after o r = record { answers = o; made = λ _. r; kept = λ y. absurd (y refl) }

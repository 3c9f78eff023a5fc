-- Settling: whether a port waits, what the loop over the rounds knows, and the promise at each return.
use mathlib.Core.Path.{◌≡◌, refl, sym, ap, subst, ◌∙◌}
use mathlib.Core.Bool.{true, false, cond}
use mathlib.Core.List.{List}
use mathlib.Core.Logic.{inl, inr, dite}
use Prim.Native.Nat.{ℕ, ◌+◌, ◌*◌, ◌%◌, ◌≤◌, ◌<◌}
use Rattle.std.specs.Prelude.{Result, Ok, Err, eqb}
use Rattle.std.specs.Result.{IsErrAnd}
use native.Mathlib.Decide.{dec_lt, ℕ_discrete}
use native.Mathlib.Omega.{arith}
use lib.ListN.{length, drop, replicate}
use borrow.Author.Tests.{eq-eqb, ne_eqb}
use borrow.Author.Count.{below_none, below_more}
use Rattle.answers.specs.Decides.{Decides}
use Rattle.answers.specs.Ordered.{Condition, Ordered}
use Rattle.answers.proofs.Outcomes.{fails, Holds, holds, passed, stopped}
use Rattle.answers.proofs.Refusals.{positive}
use Rattle.answers.specs.Refusals.{number_of, number_in}
use Rattle.answers.specs.declared.Refusal.{Refusal}
use Rattle.answers.specs.declared.Refusal.TheVariants.{TooManyRounds}
use Rattle.lists.specs.Loop.{up_to}
use Rattle.lists.specs.Table.{table}
use Rattle.lists.proofs.Loops.{up_to-step}
use Rattle.plan.specs.declared.Plan.{Plan}
use Rattle.state.specs.State.{State, words, port_at, waiting, time_at, time_waits}
use Rattle.state.specs.Sound.{state_asks}
use Rattle.state.proofs.Keeping.{both-kinds}
use Rattle.bench.specs.Round.{round}
use Rattle.bench.specs.Inner.Idle.{Blank}
use Rattle.bench.specs.Settling.{rounds, Quiet, Pair, most_rounds, settle_asks, rounds_in, Settles}
use Rattle.bench.specs.Inner.Ends.{Ends}
use Rattle.bench.proofs.Idles.{filled}

-- ---- whether a port waits

-- nothing waits at port q
abbrev pub Still : State → ℕ → Type 0
Still s q = (waiting s 0 q ≡ 0) × (waiting s 1 q ≡ 0) × (time_waits s q ≡ 0)

-- where there are n devices
module _ {n : ℕ} {s : State} where
  pub none-waits : n ≤ 32 → Blank n s → ((q : ℕ) → q < 8 * n → Still s q) → Decides (Quiet s) true
  unfolding Quiet
  none-waits few b h =
      record {
        only = λ _. (
          λ q kind l k. dite (dec_lt q (8 * n)) (λ g. both-kinds (λ j. waiting s j q ≡ 0) (h q g).0 (h q g).1 kind k)
              (λ g. b.blank (port_at q kind) (omega arith) (λ _. omega arith) (λ o. absurd (omega arith), λ o. absurd (omega arith), λ o. absurd (omega arith))),
          λ q l. dite (dec_lt q (8 * n)) (λ g. (h q g).2)
              (λ g. rw (b.blank (time_at q) (omega arith) (λ _. omega arith) (λ _. omega arith, λ _. omega arith, λ o. absurd (omega arith)))),
        );
        all = λ _. refl;
      }

  pub one-waits : n ≤ 32 → Blank n s → (q : ℕ) → q < 8 * n → (Still s q → ⊥) → Decides (Quiet s) false
  unfolding Quiet
  one-waits few b q l x = fails (λ h. x (h.0 q 0 (omega arith) (omega arith), h.0 q 1 (omega arith) (omega arith), h.1 q (omega arith)))

-- ---- the two areas

-- past the first two conditions
pub ready : (plan : Plan) (s : State) → Ordered (state_asks plan s) 0 → Holds (state_asks plan s)
ready plan s o = holds (state_asks plan s) refl o refl

-- an area of so many words that was filled with zeros
pub cleared : {m n : ℕ} {after : List ℕ} → m ≡ n → after ≡ replicate m 0 → after ≡ table n (λ _. 0)
cleared {n = n} long e = filled n 0 (e ∙ ap (λ (k : ℕ). replicate k 0) long)

-- after an even number of rounds each is where it was, and after an odd one where the other was
module _ {A : Type 0} (x y : A) where
  abbrev pub place : ℕ → A
  place n = cond (eqb (n % 2) 0) x y

pub turned : {A : Type 0} (x y : A) (n : ℕ) → place y x n ≡ place x y (n + 1)
turned x y n = elim (ℕ_discrete (n % 2) 0) [
  | yes e ↦ rw (e, ne_eqb ((n + 1) % 2) 0 (omega arith))
  | no e ↦ rw (ne_eqb (n % 2) 0 e, eq-eqb ((n + 1) % 2) 0 (omega arith))
]

-- ---- the loop: n rounds, of those allowed, have led from s to t, and before each of them a port waited

pub record Ran (plan : Plan) (s : State) (allowance n : ℕ) (t : State) : Type 0 where
  pub within : n ≤ allowance
  pub is : t ≡ rounds plan n s
  pub busy : (m : ℕ) → m < n → Quiet (rounds plan m s) → ⊥

module _ {plan : Plan} {s : State} {allowance : ℕ} where
  pub ran-none : Ran plan s allowance 0 s
  unfolding up_to
  ran-none = record { within = omega arith; is = refl; busy = below_none _ }

  -- a port waits still
  ran_on : {n : ℕ} {t : State} → Ran plan s allowance n t → (Quiet t → ⊥) → (m : ℕ) → m < n + 1 → Quiet (rounds plan m s) → ⊥
  ran_on {n} v q = below_more _ n v.busy (subst (λ (x : State). Quiet x → ⊥) v.is q)

  pub ran-more : {n : ℕ} {t u : State} → Ran plan s allowance n t → (Quiet t → ⊥) → n + 1 ≤ allowance → u ≡ (round plan t).next → Ran plan s allowance (n + 1) u
  ran-more v q l e = record { within = l; is = rw up_to-step (e ∙ ap (λ (x : State). (round plan x).next) v.is); busy = ran_on v q }

-- ---- the returns

module _ (plan : Plan) (before : Pair) (allowance : ℕ) where
  abbrev more : List Condition
  more = drop 2 (settle_asks plan before allowance)

  refuse : (r : Refusal) → (number_of r ≡ 12 → ⊥) → Ordered (settle_asks plan before allowance) (number_of r)
      → Settles plan before allowance (number_of r) (rounds_in allowance (Err r)) before
  refuse r w o =
      let p = positive r in
      record {
        answers = o;
        made = λ e. absurd (omega arith);
        still = λ e. absurd (w e);
        kept = λ _ _. (rw (ne_eqb (number_of r) 12 w), refl);
      }

  pub not-ready : (x : Result ℕ Refusal) (r : Refusal) → IsErrAnd x (λ e. e ≡ r) → Ordered (state_asks plan before.state) (number_of r)
      → Settles plan before allowance (number_in x) (rounds_in allowance x) before
  not-ready (Ok v) r i o = absurd i
  not-ready (Err e) r i o = rw i (refuse r (below-three o) (stopped (state_asks plan before.state) more o (λ z. let p = positive r in omega arith)))
    where
      below-three : {number : ℕ} → Ordered (state_asks plan before.state) number → number ≡ 12 → ⊥
      below-three (inl x) = omega (arith, x.1)
      below-three (inr (_, inl x)) = omega (arith, x.1)
      below-three (inr (_, inr (_, x))) = omega (arith, x)

  module _ (ready : Holds (state_asks plan before.state)) where
    behind : (number : ℕ) → Ordered more number → Ordered (settle_asks plan before allowance) number
    behind number o = passed (state_asks plan before.state) more number ready o

    module _ (long : length before.second ≡ words) where
      pub too_many : (allowance ≤ most_rounds → ⊥) → Settles plan before allowance 11 0 before
      too_many h = refuse TooManyRounds (omega arith) (behind 11 (inr (long, inl (h, refl))))

      pub ends : allowance ≤ most_rounds → {number value : ℕ} {now : Pair} → Ends plan before.state allowance number value now
          → Settles plan before allowance number value now
      ends few {number} {value} (inl (z, l, least, is)) =
          record {
            answers = subst (Ordered (settle_asks plan before allowance)) (sym z) (behind 0 (inr (long, inr (few, inr ((value, l, least.quiet), refl)))));
            made = λ _. (least, is);
            still = λ e. absurd (omega arith);
            kept = λ n. absurd (n z);
          }
      ends few {number} (inr (z, all, none, is)) =
          record {
            answers = subst (Ordered (settle_asks plan before allowance)) (sym z) (behind 12 (inr (long, inr (few, inl ((λ x. none x.0 x.1 x.2), refl)))));
            made = λ e. absurd (omega arith);
            still = λ _. (all, is);
            kept = λ _ n. absurd (n z);
          }

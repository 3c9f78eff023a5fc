-- The promise of a round, at each of its returns.
use mathlib.Core.Path.{◌≡◌, refl, ap, ◌∙◌}
use mathlib.Core.List.{List, ◌++◌}
use mathlib.Core.Logic.{inl, inr}
use Prim.Native.Nat.{ℕ, ◌≤◌}
use native.Mathlib.Omega.{arith}
use lib.ListN.{length, drop}
use lib.Seq.{take_all}
use Rattle.answers.specs.Ordered.{Condition, Ordered}
use Rattle.answers.proofs.Outcomes.{Holds, passed, stopped}
use Rattle.areas.specs.Put.{over}
use Rattle.lists.specs.Table.{table}
use Rattle.lists.proofs.Tables.{length-table}
use Rattle.plan.specs.Reading.{Held}
use Rattle.plan.specs.declared.Plan.{Plan}
use Rattle.state.specs.State.{State, words}
use Rattle.state.specs.Sound.{state_asks}
use Rattle.bench.specs.Round.{Areas, sent_words, round, areas}
use Rattle.bench.specs.RoundCall.{told_words, round_asks, Plays}
use Rattle.bench.specs.Inner.Shown.{shown, Played}
use Rattle.bench.proofs.ToldRoom.{told-fits}

-- with room for all words
shown-over : (before told : List ℕ) → length told ≤ length before → shown before told ≡ over told before
unfolding shown over
shown-over before told h = ap (λ (l : List ℕ). l ++ drop (length told) before) (take_all (length before) told h)

-- the words told over zeros
abbrev zeros : List ℕ
zeros = table told_words (λ i. 0)

length-zeros : length zeros ≡ told_words
length-zeros = length-table told_words _

-- ---- the returns

module _ (plan : Plan) (old : State) (before : Areas) where
  -- what is asked behind the plan and the state
  abbrev more : List Condition
  more = drop 2 (round_asks plan old before)

  refuse : {number : ℕ} → (number ≡ 0 → ⊥) → Ordered (round_asks plan old before) number → Plays plan old before number 0 before
  refuse z o = record { answers = o; made = λ e. absurd (z e); kept = λ _. (refl, refl) }

  pub not-ready : {number : ℕ} → Ordered (state_asks plan old) number → (number ≡ 0 → ⊥) → Plays plan old before number 0 before
  not-ready o z = refuse z (stopped (state_asks plan old) more o z)

  module _ (ready : Holds (state_asks plan old)) where
    behind : (number : ℕ) → Ordered more number → Ordered (round_asks plan old before) number
    behind number o = passed (state_asks plan old) more number ready o

    module _ (n : length before.next ≡ words) where
      pub sent-long : (length before.sent ≡ sent_words → ⊥) → Plays plan old before 3 0 before
      sent-long h = refuse (omega arith) (behind 3 (inr (n, inl (h, refl))))

      module _ (s : length before.sent ≡ sent_words) where
        pub told-long : (length before.told ≡ told_words → ⊥) → Plays plan old before 3 0 before
        told-long h = refuse (omega arith) (behind 3 (inr (n, inr (s, inl (h, refl)))))

        pub plays : length before.told ≡ told_words → {start : List ℕ} → start ≡ table (length before.told) (λ i. 0)
            → {next : State} {sent told : List ℕ} {count : ℕ} → Played plan old start next sent told count → Plays plan old before 0 count (areas next sent told)
        plays t {start} e {next} {sent} {told} p =
            let z : start ≡ zeros = e ∙ ap (λ (k : ℕ). table k (λ i. 0)) t in
            let w : told ≡ over (round plan old).told zeros =
            p.words ∙ ap (λ (l : List ℕ). shown l (round plan old).told) z
            ∙ shown-over zeros (round plan old).told (omega (arith, told-fits plan old ready.0, length-zeros)) in
            record {
              answers = behind 0 (inr (n, inr (s, inr (t, refl))));
              made = λ _. ((λ i. areas (p.state i) (p.bytes i) (w i)), p.number);
              kept = λ z. absurd (z refl);
            }

-- how many words were told fits 32 bits
pub count_fits : {plan : Plan} {old : State} {before : List ℕ} {next : State} {sent told : List ℕ} {count : ℕ} → Held plan → Played plan old before next sent told count
    → count ≤ told_words
count_fits {plan} {old} h p = omega (arith, p.number, told-fits plan old h)

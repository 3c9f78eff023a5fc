-- Settling and the text with areas of the call's own: it makes no difference what stands in them at first, only how long they are.
use mathlib.Core.Path.{◌≡◌, sym, ap, ◌∙◌}
use mathlib.Core.List.{List}
use mathlib.Core.Logic.{inl, inr}
use Prim.Native.Nat.{ℕ}
use native.Mathlib.Decide.{ℕ_discrete}
use native.Mathlib.Omega.{arith}
use lib.ListN.{length}
use Rattle.lists.proofs.Tables.{length-table}
use Rattle.plan.specs.Refusals.{verdict}
use Rattle.plan.specs.declared.Plan.{Plan}
use Rattle.plan.proofs.Good.{refusal-numbered}
use Rattle.state.specs.State.{State, words}
use Rattle.bench.specs.Settling.{Pair, Settles, pair}
use Rattle.report.specs.Report.{Areas, Reports, lent}
use Rattle.door.specs.OnFile.{Gives}
use Rattle.door.specs.Own.{own, SettlesOwn, ReportsOwn}

own-long : length own ≡ words
own-long = length-table words (λ i. 0)

as_long : (area : List ℕ) → length area ≡ words → length area ≡ length own
as_long area long = long ∙ sym own-long

module _ {plan : Plan} {before after : State} {allowance number value : ℕ} where
  pub settles-own : (first last : List ℕ) → length first ≡ words → Settles plan (pair before first) allowance number value (pair after last)
      → SettlesOwn plan before allowance number value after
  settles-own first last long s =
      record {
        answers = rw (as_long first long) at s.answers;
        made = λ z. ((s.made z).0, alone (s.made z).1);
        still = λ z. ((s.still z).0, alone (s.still z).1);
        kept = λ z t. ((s.kept z t).0, alone (s.kept z t).1);
      }
    where
      alone : {a b : Pair} → a ≡ b → pair a.state own ≡ pair b.state own
      alone e = ap (λ (p : Pair). pair p.state own) e

  no-3 : SettlesOwn plan before allowance number value after → number ≡ 3 → ⊥
  no-3 s e =
      elim s.answers [
        | inl p ↦ omega (arith, p.1)
        | inr p ↦ elim p.1 [
          | inl q ↦ omega (arith, q.1)
          | inr q ↦ elim q.1 [
            | inl r ↦ r.0 own-long
            | inr r ↦ elim r.1 [ inl t ↦ omega (arith, t.1) | inr t ↦ elim t.1 [ inl u ↦ omega (arith, u.1) | inr u ↦ omega (arith, u.1) ] ]
          ]
        ]
      ]

-- C lends no second area, so none is too short
pub never-3 : (file : List ℕ) (before after : State) (allowance number value : ℕ)
    → Gives file (λ p s. SettlesOwn p s allowance) before number value after → number ≡ 3 → ⊥
never-3 file before after allowance number value g e =
    elim (ℕ_discrete (verdict file).number 0) [
      | yes z ↦ no-3 (g.accepted z) e
      | no h ↦ omega (arith, (g.refused h).0, refusal-numbered file h)
    ]

module _ {file before after : List ℕ} {number value : ℕ} where
  pub reports-own : (one other then last : List ℕ) → length one ≡ words → length other ≡ words
      → Reports file (lent one other before) number value (lent then last after) → ReportsOwn file before number value after
  reports-own one other then last p q r =
      record {
        answers = rw (as_long one p) at (rw (as_long other q) at r.answers);
        made = λ z. let m = r.made z in (m.0, m.1, m.2, alone m.3);
        kept = λ z. ((r.kept z).0, alone (r.kept z).1);
      }
    where
      alone : {a b : Areas} → a ≡ b → lent own own a.text ≡ lent own own b.text
      alone e = ap (λ (x : Areas). lent own own x.text) e

-- What an answer tells C: its number, and the value beside it, which is 0 where it is refused.
use mathlib.Core.Path.{◌≡◌, refl, sym, ap}
use mathlib.Core.List.{List}
use Prim.Native.Nat.{ℕ}
use native.Mathlib.Omega.{arith}
use borrow.Author.Tests.{ne_eqb}
use Rattle.std.specs.Prelude.{Result, Ok, Err, MatchResult, Bool, true, false}
use Rattle.std.specs.Borrow.{Bor}
use Rattle.std.specs.Bool.{then_some}
use Rattle.reasons.specs.Why.{is_given, bytes_of, Prints, bad-file, refused as refused-why, explained, TellsWhy}
use Rattle.std.specs.Result.{IsErr, IsErrAnd}
use Rattle.answers.specs.Answer.{refused}
use Rattle.answers.specs.Refusals.{number_of, number_in, value_in, answer_of}
use Rattle.answers.proofs.Refusals.{positive}
use Rattle.answers.specs.declared.Refusal.{Refusal}
use Rattle.plan.specs.Refusals.{verdict, verdict_in}
use Rattle.plan.specs.Reading.{Read, plan_of, reads, read_in}
use Rattle.plan.specs.declared.Fault.{Fault}
use Rattle.plan.specs.declared.Plan.{Plan}
use Rattle.plan.proofs.Good.{refusal-numbered}
use Rattle.bench.specs.Settling.{rounds_in}

-- both together
pub parts : (r : Result ℕ Refusal) → record { number = number_in r; value = value_in r } ≡ answer_of r
parts (Ok v) = refl
parts (Err r) = refl

-- a refusal that a `?` hands on
pub handed_on : (r : Result ℕ Refusal) (e : Refusal) → IsErr r × IsErrAnd r (λ d. d ≡ e) → answer_of r ≡ refused (number_of e)
handed_on (Ok v) e h = absurd h.1
handed_on (Err d) e h = ap (λ (x : Refusal). refused (number_of x)) h.1

-- what the reader answers says what is wrong with the file
pub verdict-loaded : (file : List ℕ) (plan before : Plan) (r : Result (Unit {0}) Fault)
    → MatchResult r (λ _. read_in (Ok plan) ≡ reads file) (λ fault. (read_in (Err fault) ≡ reads file) × (plan ≡ before)) → verdict_in r ≡ verdict file
unfolding reads
verdict-loaded file plan before (Ok v) e = ap (λ (x : Read). record { number = x.number; at = x.block }) e
verdict-loaded file plan before (Err f) e = ap (λ (x : Read). record { number = x.number; at = x.block }) e.0

-- a plan that is read is that of an accepted file
pub held : (file : List ℕ) (plan : Plan) → read_in (Ok plan) ≡ reads file → ((verdict file).number ≡ 0) × (plan ≡ plan_of file)
unfolding reads
held file plan e =
    let z : (verdict file).number ≡ 0 = sym (ap (λ (x : Read). x.number) e) in
    (z, rw z at (ap (λ (x : Read). x.plan) e))

-- and what is said of any other is its number
pub said : (file : List ℕ) (fault : Fault) → read_in (Err fault) ≡ reads file → number_of fault.refusal ≡ (verdict file).number
unfolding reads
said file fault e = ap (λ (x : Read). x.number) e

pub wrong : (file : List ℕ) (fault : Fault) → read_in (Err fault) ≡ reads file → (verdict file).number ≡ 0 → ⊥
wrong file fault e z = omega (arith, said file fault e, positive fault.refusal)

-- a file is refused by another number than what still waits, so no rounds stand beside it
pub refused_rounds : (file : List ℕ) (allowance : ℕ) (r : Result ℕ Refusal) → number_in r ≡ (verdict file).number → ((verdict file).number ≡ 0 → ⊥)
    → rounds_in allowance r ≡ 0
refused_rounds file allowance (Ok v) e h = absurd (h (omega arith))
refused_rounds file allowance (Err r) e h = rw (ne_eqb (number_of r) 12 (λ w. omega (arith, refusal-numbered file h)))

-- ---- a state's bytes, or none

-- where none are given it makes no difference which they would be
prints-none : {file a b : List ℕ} {d k e : ℕ} {text : List ℕ} → Prints file false a d k e text → Prints file false b d k e text
prints-none (bad-file h) = bad-file h
prints-none (refused-why z o n) = refused-why z o n
prints-none (explained z o x) = explained z o x

module _ {file : List ℕ} {d k e : ℕ} {before after : List ℕ} {number value : ℕ} where
  pub given_or_none : (given : Bool) (bytes : Bor (List ℕ))
      → TellsWhy file (is_given (then_some given bytes)) (bytes_of (then_some given bytes)) d k e before number value after
      → TellsWhy file given bytes.now d k e before number value after
  given_or_none true bytes w = w
  given_or_none false bytes w =
      record {
        answers = w.answers;
        made = λ z. let m = w.made z in (m.0, prints-none m.1, m.2, m.3);
        kept = w.kept;
      }

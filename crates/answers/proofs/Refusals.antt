-- A refusal has a number of its own, which is not 0; so an answer's number says which it is.
use mathlib.Core.Path.{◌≡◌, refl, sym, ap, ◌∙◌}
use Prim.Native.Nat.{ℕ, ◌<◌}
use native.Mathlib.Omega.{arith}
use Rattle.std.specs.Prelude.{Result, Ok, Err, cond, eqb}
use Rattle.answers.specs.Answer.{Answer}
use Rattle.answers.specs.Refusals.{number_of, number_in, answer_of}
use Rattle.answers.specs.declared.Refusal.{Refusal}
use Rattle.answers.specs.declared.Refusal.TheVariants.{NotHeld, Unsound, WrongArea, NoSuchDevice, NoSuchIdentifier, NotItsOwn, NothingRuns, NotPermitted, BitStands, LinkStands, TooManyRounds, StillWaits, NotAcknowledged, NotTheMaster, WrongLength, WrongCheck, WrongKind, WrongField, NotZero, WrongCount, WrongConnection, TwoSources, TwoClaims}

pub positive : (r : Refusal) → 0 < number_of r
positive NotHeld = omega arith
positive Unsound = omega arith
positive WrongArea = omega arith
positive NoSuchDevice = omega arith
positive NoSuchIdentifier = omega arith
positive NotItsOwn = omega arith
positive NothingRuns = omega arith
positive NotPermitted = omega arith
positive BitStands = omega arith
positive LinkStands = omega arith
positive TooManyRounds = omega arith
positive StillWaits = omega arith
positive NotAcknowledged = omega arith
positive NotTheMaster = omega arith
positive WrongLength = omega arith
positive WrongCheck = omega arith
positive WrongKind = omega arith
positive WrongField = omega arith
positive NotZero = omega arith
positive WrongCount = omega arith
positive WrongConnection = omega arith
positive TwoSources = omega arith
positive TwoClaims = omega arith

-- the refusal of a number
named : ℕ → Refusal
named n =
    cond (eqb n 1) NotHeld (
    cond (eqb n 2) Unsound (
    cond (eqb n 3) WrongArea (
    cond (eqb n 4) NoSuchDevice (
    cond (eqb n 5) NoSuchIdentifier (
    cond (eqb n 6) NotItsOwn (
    cond (eqb n 7) NothingRuns (
    cond (eqb n 8) NotPermitted (
    cond (eqb n 9) BitStands (
    cond (eqb n 10) LinkStands (
    cond (eqb n 11) TooManyRounds (
    cond (eqb n 12) StillWaits (
    cond (eqb n 13) NotAcknowledged (
    cond (eqb n 14) NotTheMaster (
    cond (eqb n 20) WrongLength (
    cond (eqb n 21) WrongCheck (
    cond (eqb n 22) WrongKind (
    cond (eqb n 23) WrongField (
    cond (eqb n 24) NotZero (
    cond (eqb n 25) WrongCount (
    cond (eqb n 26) WrongConnection (
    cond (eqb n 27) TwoSources (TwoClaims))))))))))))))))))))))

back : (r : Refusal) → named (number_of r) ≡ r
unfolding named
back NotHeld = refl
back Unsound = refl
back WrongArea = refl
back NoSuchDevice = refl
back NoSuchIdentifier = refl
back NotItsOwn = refl
back NothingRuns = refl
back NotPermitted = refl
back BitStands = refl
back LinkStands = refl
back TooManyRounds = refl
back StillWaits = refl
back NotAcknowledged = refl
back NotTheMaster = refl
back WrongLength = refl
back WrongCheck = refl
back WrongKind = refl
back WrongField = refl
back NotZero = refl
back WrongCount = refl
back WrongConnection = refl
back TwoSources = refl
back TwoClaims = refl

pub refusal-once : (r s : Refusal) → number_of r ≡ number_of s → r ≡ s
refusal-once r s e = sym (back r) ∙ ap named e ∙ back s

-- two answers with the same number, of which neither has a value beside it
pub done-once : (r s : Result (Unit {0}) Refusal) → number_in r ≡ number_in s → r ≡ s
done-once (Ok v) (Ok w) e = ap Ok refl
done-once (Ok v) (Err s) e = let p = positive s in absurd (omega arith)
done-once (Err r) (Ok w) e = let p = positive r in absurd (omega arith)
done-once (Err r) (Err s) e = ap Err (refusal-once r s e)

-- two answers with the same number and value
pub answer-once : (r s : Result ℕ Refusal) → answer_of r ≡ answer_of s → r ≡ s
answer-once (Ok v) (Ok w) e = ap Ok (ap (λ (a : Answer). a.value) e)
answer-once (Ok v) (Err s) e = let p = positive s in let z : 0 ≡ number_of s = ap (λ (a : Answer). a.number) e in absurd (omega arith)
answer-once (Err r) (Ok w) e = let p = positive r in let z : number_of r ≡ 0 = ap (λ (a : Answer). a.number) e in absurd (omega arith)
answer-once (Err r) (Err s) e = ap Err (refusal-once r s (ap (λ (a : Answer). a.number) e))

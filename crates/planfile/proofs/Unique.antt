-- Each public function's promise allows one result, and one exit of the area.
use mathlib.Core.Path.{◌≡◌, refl, sym, ap, ◌∙◌}
use mathlib.Core.List.{List}
use Prim.Native.Nat.{ℕ}
use native.Mathlib.Decide.{ℕ_discrete}
use native.Mathlib.Omega.{arith}
use Rattle.std.specs.Prelude.{Result, Ok, Err, MatchResult}
use Rattle.answers.specs.Refusals.{number_of, number_in}
use Rattle.answers.specs.declared.Refusal.{Refusal}
use Rattle.answers.proofs.Refusals.{positive, refusal-once, done-once}
use Rattle.answers.proofs.Unique.{ordered-once}
use Rattle.plan.specs.Reading.{Read, read_in, reads}
use Rattle.plan.specs.Refusals.{Verdict, verdict_in, first}
use Rattle.plan.specs.Writing.{write_asks, Writes}
use Rattle.plan.specs.declared.Core.{Core}
use Rattle.plan.specs.declared.Fault.{Fault}
use Rattle.plan.specs.declared.Plan.{Plan}
use Rattle.plan.proofs.BothWays.{one-file}
use Rattle.planfile.specs.Parts.{front_tests, refusal_in, peer_read, device_put}

-- one answer is said so
fault-once : (f g : Fault) → number_of f.refusal ≡ number_of g.refusal → f.block ≡ g.block → f ≡ g
fault-once f g e b = λ i. record { refusal = refusal-once f.refusal g.refusal e i; block = b i }

verdict-once : (r s : Result (Unit {0}) Fault) → verdict_in r ≡ verdict_in s → r ≡ s
verdict-once (Ok v) (Ok w) e = ap Ok refl
verdict-once (Ok v) (Err g) e = let p = positive g.refusal in let z : 0 ≡ number_of g.refusal = ap (λ (v : Verdict). v.number) e in absurd (omega arith)
verdict-once (Err f) (Ok w) e = let p = positive f.refusal in let z : number_of f.refusal ≡ 0 = ap (λ (v : Verdict). v.number) e in absurd (omega arith)
verdict-once (Err f) (Err g) e = ap Err (fault-once f g (ap (λ (v : Verdict). v.number) e) (ap (λ (v : Verdict). v.at) e))

read-once : (r s : Result Plan Fault) → read_in r ≡ read_in s → r ≡ s
read-once (Ok v) (Ok w) e = ap Ok (ap (λ (r : Read). r.plan) e)
read-once (Ok v) (Err g) e = let p = positive g.refusal in let z : 0 ≡ number_of g.refusal = ap (λ (r : Read). r.number) e in absurd (omega arith)
read-once (Err f) (Ok w) e = let p = positive f.refusal in let z : number_of f.refusal ≡ 0 = ap (λ (r : Read). r.number) e in absurd (omega arith)
read-once (Err f) (Err g) e = ap Err (fault-once f g (ap (λ (r : Read). r.number) e) (ap (λ (r : Read). r.block) e))

pub read-unique : (file : List ℕ) (r s : Result Plan Fault) → read_in r ≡ reads file → read_in s ≡ reads file → r ≡ s
read-unique file r s p q = read-once r s (p ∙ sym q)

-- what is lent holds the plan that was read, or else what it held
abbrev loads : List ℕ → Plan → Result (Unit {0}) Fault → Plan → Type 0
loads file before r after = MatchResult r (λ _. read_in (Ok after) ≡ reads file) (λ fault. (read_in (Err fault) ≡ reads file) × (after ≡ before))

pub load-unique : (file : List ℕ) (before a b : Plan) (r s : Result (Unit {0}) Fault) → loads file before r a → loads file before s b → (r ≡ s) × (a ≡ b)
load-unique file before a b (Ok v) (Ok w) p q = (ap Ok refl, ap (λ (r : Read). r.plan) (p ∙ sym q))
load-unique file before a b (Ok v) (Err g) p q =
    let n = positive g.refusal in let z : 0 ≡ number_of g.refusal = ap (λ (r : Read). r.number) (p ∙ sym q.0) in absurd (omega arith)
load-unique file before a b (Err f) (Ok w) p q =
    let n = positive f.refusal in let z : number_of f.refusal ≡ 0 = ap (λ (r : Read). r.number) (p.0 ∙ sym q) in absurd (omega arith)
load-unique file before a b (Err f) (Err g) p q =
    let e = p.0 ∙ sym q.0 in (ap Err (fault-once f g (ap (λ (r : Read). r.number) e) (ap (λ (r : Read). r.block) e)), p.1 ∙ sym q.1)

pub front-unique : (file : List ℕ) (r s : Result (Unit {0}) Fault) → verdict_in r ≡ first (front_tests file) → verdict_in s ≡ first (front_tests file) → r ≡ s
front-unique file r s p q = verdict-once r s (p ∙ sym q)

pub refusal-at-unique : (file : List ℕ) (b : ℕ) (r s : Result (Unit {0}) Refusal) → number_in r ≡ refusal_in file b → number_in s ≡ refusal_in file b → r ≡ s
refusal-at-unique file b r s p q = done-once r s (p ∙ sym q)

pub peer-at-unique : (file : List ℕ) (d p r s : ℕ) → r ≡ peer_read file d p → s ≡ peer_read file d p → r ≡ s
peer-at-unique file d p r s e f = e ∙ sym f

pub put-device-unique : (core : Core) (peers : List (List ℕ)) (barred : List ℕ) (d : ℕ) (before a b : List ℕ)
    → a ≡ device_put core peers barred d before → b ≡ device_put core peers barred d before → a ≡ b
put-device-unique core peers barred d before a b p q = p ∙ sym q

-- a plan has one accepted file
pub write-unique : (plan : Plan) (before a b : List ℕ) (r s : Result (Unit {0}) Refusal) → Writes plan before (number_in r) a → Writes plan before (number_in s) b
    → (r ≡ s) × (a ≡ b)
write-unique plan before a b r s p q =
    let e = ordered-once (write_asks plan before) (number_in r) (number_in s) p.answers q.answers in (
      done-once r s e,
      elim (ℕ_discrete (number_in r) 0) [
        | yes z ↦ one-file a b plan (p.made z) (q.made (sym e ∙ z))
        | no z ↦ p.kept z ∙ sym (q.kept (λ w. z (e ∙ w)))
      ],
    )

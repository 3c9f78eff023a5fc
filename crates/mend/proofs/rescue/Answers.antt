-- `mend::rescue` meets its contract: each refusal by its exit. Assumes nothing.
use mathlib.Core.Path.{◌≡◌, refl, sym, ap, ◌∙◌}
use native.Mathlib.Omega.{arith}
use Rattle.answers.proofs.Refusals.{positive}
use Rattle.std.proofs.lemmas.Result.{err_from_is_err_and}
use Rattle.plan.specs.Refusals.{Verdict}
use Rattle.planfile.proofs.Scans.{front-passes}
use Rattle.mend.proofs.Ends.{rescues-misfit, rescues-front, rescues-good, rescues-rest}
use Rattle.mend.proofs.Passing.{good-passes}
use Rattle.mend.proofs.Result.{fronted}
use Rattle.mend.proofs.rescue.Goals.{then-area-file-via-then-area-file, then-area-file-via-else-area-file+then-text-lt-LONGEST}
use Rattle.mend.proofs.rescue.Goals as goal

-- a number of 0 is that of what the answer equals
none : {v w : Verdict} → v ≡ w → v.number ≡ 0 → w.number ≡ 0
none e z = ap (λ (v : Verdict). v.number) (sym e) ∙ z

pub returns-then-area-file : goal.returns-then-area-file
returns-then-area-file c =
    rescues-misfit _ _
    (λ f. elim c.then-area-file.branch [
      | then-area-file-via-then-area-file w ↦ w.if-area-file.true f.0
      | then-area-file-via-else-area-file+then-text-lt-LONGEST w ↦ omega (arith, f.1, w.if-text-lt-LONGEST.true)
    ])

pub returns-in_err-front : goal.returns-in_err-front
returns-in_err-front c =
    let p = err_from_is_err_and c.from_residual.result c.from_residual.ensures.1 in
    rw (p.1, p.2)
    (rescues-front _ _ (omega arith) (omega arith) c.in_err-front.ensures (λ z. omega (arith, positive c.in_err-front.field-0.0.refusal, z)))

pub invariant_of-blocks : goal.invariant_of-blocks
invariant_of-blocks c = record { fronted = fronted _ (front-passes _ c.in_ok-front.ensures refl) }

pub returns-in_err-damaged : goal.returns-in_err-damaged
returns-in_err-damaged c =
    let p = err_from_is_err_and c.from_residual-in_err-damaged.result c.from_residual-in_err-damaged.ensures.1 in
    rw (p.1, p.2)
    (rescues-good _ _ (omega arith) (omega arith) (front-passes _ c.in_ok-front.ensures refl) c.in_err-damaged.ensures.answers
    (λ z. omega (arith, positive c.in_err-damaged.field-0.0.refusal, z)))

pub mend-requires : goal.mend-requires
mend-requires c =
    let s = c.in_ok-damaged.ensures in
    record {
      ready = record { front = none c.in_ok-front.ensures refl; good = none s.answers refl; same = s.marked };
      area_len = (omega arith, omega arith);
    }

pub returns : goal.returns
returns c =
    rescues-rest _ _ (omega arith) (omega arith) (front-passes _ c.in_ok-front.ensures refl) (good-passes _ (none c.in_ok-damaged.ensures.answers refl)) c.mend.ensures

use mathlib.Core.Path.{◌≡◌, refl, ap, ap₂, ◌∙◌}
use mathlib.Core.Bool.{Bool}
use mathlib.Core.List.{List}
use Prim.Native.Nat.{ℕ, min}
use lib.ListN.{get_or}
use Rattle.plan.specs.Fields.{sources_fit}
use Rattle.std.specs.Prelude.{Result, Ok, Err, MatchResult}
use Rattle.std.specs.Result.{IsErr, IsErrAnd}
use Rattle.plan.specs.Reading.{plan_of, reads, read_in}
use Rattle.plan.specs.declared.Fault.{Fault}
use Rattle.plan.specs.declared.Plan.{Plan}
use Rattle.plan.specs.declared.Core.{Core}
use Rattle.planfile.proofs.ReaderAnswers.{bad_in, scan-refuses, scan-passes, search-refuses, sources-refuse, sources-accept}
use Rattle.planfile.proofs.Plans.{same-plan}
use Rattle.answers.proofs.Refusals.{positive}
use Rattle.std.proofs.Common.{rules}
use native.Mathlib.Omega.{arith}
use Rattle.planfile.proofs.reader.load.Goals as goal

-- the search was of the plan's parts
searched : (file : List ℕ) {core : Core} {peers : List (List ℕ)} {bad : ℕ} → bad ≡ (bad_in core peers).at → core ≡ (plan_of file).core → peers ≡ (plan_of file).peers →
    bad ≡ (bad_in (plan_of file).core (plan_of file).peers).at
searched file b e f = b ∙ ap₂ (λ core peers. (bad_in core peers).at) e f

-- the sources were tested in the plan
tested : (file : List ℕ) {core : Core} {fit : Bool} → fit ≡ sources_fit core.events (λ d. get_or core.source d 0) (min core.devices 32) → core ≡ (plan_of file).core →
    let p = plan_of file in
    fit ≡ sources_fit p.core.events (λ d. get_or p.core.source d 0) (min p.core.devices 32)
tested file f e = f ∙ ap (λ (core : Core). sources_fit core.events (λ d. get_or core.source d 0) (min core.devices 32)) e

-- a refusal of the scan is handed on, and leaves the plan as it was
failed : (file : List ℕ) (plan : Plan) (r : Result (Unit {0}) Fault) (fault : Fault) → IsErr r × IsErrAnd r (λ d. d ≡ fault) → read_in (Err fault) ≡ reads file
    → MatchResult r (λ _. read_in (Ok plan) ≡ reads file) (λ d. (read_in (Err d) ≡ reads file) × (plan ≡ plan))
failed file plan (Ok v) fault h e = absurd h.1
failed file plan (Err d) fault h e = (rw h.1 e, refl)

pub returns-in_err-blocks : goal.returns-in_err-blocks
returns-in_err-blocks c =
    failed _ _ _ _ c.from_residual.ensures (scan-refuses _ c.in_err-blocks.ensures.refusal (λ z. let p = positive c.in_err-blocks.field-0.0.refusal in omega arith))

pub returns-then-bad-ne0 : goal.returns-then-bad-ne0
returns-then-bad-ne0 c =
    let p = scan-passes _ c.in_ok-blocks.ensures.refusal refl in
    let same = c.in_ok-blocks.ensures.same in
    let core = rw same at c.core-core.ensures in
    let peers = rw same at c.peers-peers.ensures in
    let s = searched _ c.bad_block-bad.ensures core peers in
    (search-refuses _ p s c.if-bad-ne0.true, refl)

pub returns-then-not-sources_fit : goal.returns-then-not-sources_fit
returns-then-not-sources_fit c =
    let p = scan-passes _ c.in_ok-blocks.ensures.refusal refl in
    let same = c.in_ok-blocks.ensures.same in
    let core = rw same at c.core-core.ensures in
    let peers = rw same at c.peers-peers.ensures in
    let s = searched _ c.bad_block-bad.ensures core peers in
    let t = tested _ c.sources_fit.ensures core in
    (sources-refuse _ p s c.if-bad-ne0.false t c.if-not-sources_fit.true, refl)

pub returns : goal.returns
returns c =
    let p = scan-passes _ c.in_ok-blocks.ensures.refusal refl in
    let same = c.in_ok-blocks.ensures.same in
    let core = rw same at c.core-core.ensures in
    let peers = rw same at c.peers-peers.ensures in
    let s = searched _ c.bad_block-bad.ensures core peers in
    let t = tested _ c.sources_fit.ensures core in
    sources-accept _ p s c.if-bad-ne0.false t c.if-not-sources_fit.false (same-plan core peers (rw same at c.barred-plan.ensures))

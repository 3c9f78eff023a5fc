-- The promise of `report` allows one answer, one text, and one exit of each area.
use mathlib.Core.Path.{◌≡◌, refl, sym, ap, ◌∙◌}
use mathlib.Core.List.{List, ◌++◌}
use Prim.Native.Nat.{ℕ, ◌/◌, ◌%◌}
use native.Mathlib.Decide.{ℕ_discrete}
use lib.ListN.{length}
use Rattle.answers.proofs.Unique.{ordered-once}
use Rattle.areas.specs.Put.{over}
use Rattle.lists.specs.Table.{table}
use Rattle.plan.specs.Reading.{plan_of}
use Rattle.plan.specs.declared.Plan.{Plan}
use Rattle.state.specs.State.{words}
use Rattle.state.specs.Network.{devices}
use Rattle.bench.proofs.Unique.{tries-once}
use Rattle.report.specs.Report.{line, Lines, none, pass, more, heading, Prints, refused, network, Areas, report_asks, Reports}

-- ---- the text

pub lines-once : (plan : Plan) {i : ℕ} {a b : List ℕ} → Lines plan i a → Lines plan i b → a ≡ b
lines-once plan none none = refl
lines-once plan (pass l n) (pass m o) = lines-once plan l m
lines-once plan (pass l n) (more m e t) = absurd (n e)
lines-once plan (more l e t) (pass m n) = absurd (n e)
lines-once plan (more {i} l e t) (more m f u) =
    let same = tries-once plan (i / 32) (i % 32) t u in
    λ j. lines-once plan l m j ++ line (i / 32) (i % 32) (same.0 j) (same.1 j) (same.2 j)

pub prints-once : (file : List ℕ) {a b : List ℕ} → Prints file a → Prints file b → a ≡ b
prints-once file (refused n) (refused o) = refl
prints-once file (refused n) (network e l) = absurd (n e)
prints-once file (network e l) (refused n) = absurd (n e)
prints-once file (network e l) (network f m) = ap (λ t. heading (devices (plan_of file)) ++ t) (lines-once (plan_of file) l m)

-- ---- the call

module _ (file : List ℕ) (before : Areas) where
  -- done, the areas are as the text has them
  abbrev exit : List ℕ → Areas
  exit text = record { state = table words (λ i. 0); second = table words (λ i. 0); text = over text before.text }

  pub report-unique : (m n v w : ℕ) (a b : Areas) → Reports file before m v a → Reports file before n w b → (m ≡ n) × (v ≡ w) × (a ≡ b)
  report-unique m n v w a b r s =
      let e = ordered-once (report_asks before) m n r.answers s.answers in
      elim (ℕ_discrete m 0) [
        | yes z ↦
            let x = r.made z in
            let y = s.made (sym e ∙ z) in
            let t = prints-once file x.1 y.1 in
            (e, x.2 ∙ ap length t ∙ sym y.2, x.3 ∙ ap exit t ∙ sym y.3)
        | no z ↦
            let x = r.kept z in
            let y = s.kept (λ q. z (e ∙ q)) in
            (e, x.0 ∙ sym y.0, x.1 ∙ sym y.1)
      ]

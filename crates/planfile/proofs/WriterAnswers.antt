-- What the writer answers: the three answers, each from what leads to it.
use mathlib.Core.Path.{◌≡◌, refl, sym, ◌∙◌}
use mathlib.Core.Bool.{Bool, true, false, false≢true}
use mathlib.Core.List.{List}
use mathlib.Core.Logic.{inl, inr}
use Prim.Native.Nat.{ℕ, ◌+◌, ◌*◌}
use native.Mathlib.Omega.{arith}
use lib.ListN.{length}
use Rattle.answers.specs.Decides.{Decides}
use Rattle.plan.specs.Reading.{Accepted, Held}
use Rattle.plan.specs.Inner.File.{file_of}
use Rattle.plan.specs.Writing.{Writes}
use Rattle.plan.specs.declared.Plan.{Plan}

module _ {plan : Plan} {before : List ℕ} {r : Bool} (d : Decides (Held plan) r) where
  pub refused : r ≡ false → Writes plan before 1 before
  refused e = record { answers = inl (λ held. false≢true (sym e ∙ d.all held), refl); made = λ z. absurd (omega arith); kept = λ z. refl }

  pub misfit : r ≡ true → (length before ≡ 512 * (1 + plan.core.devices) → ⊥) → Writes plan before 3 before
  misfit e wrong = record { answers = inr (d.only e, inl (wrong, refl)); made = λ z. absurd (omega arith); kept = λ z. refl }

pub done : (plan : Plan) {before after : List ℕ} → Held plan → Accepted (file_of plan) plan → length before ≡ 512 * (1 + plan.core.devices)
    → after ≡ file_of plan → Writes plan before 0 after
done plan held accepted fits e = record { answers = inr (held, inr (fits, refl)); made = λ z. rw e accepted; kept = λ z. absurd (z refl) }

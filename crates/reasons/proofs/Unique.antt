-- The promise of `why` allows one number, one value and one exit of the area.
use mathlib.Core.Path.{◌≡◌, refl, sym, ap, ◌∙◌}
use mathlib.Core.Bool.{Bool}
use mathlib.Core.List.{List, [], ◌∷◌, ◌++◌}
use Prim.Native.Nat.{ℕ, ◌≤◌}
use lib.ListN.{length, get_or}
use Rattle.answers.specs.Ordered.{ask}
use Rattle.answers.proofs.Unique.{ordered-once, tells-once}
use Rattle.areas.specs.Put.{over}
use Rattle.lists.specs.Table.{joined}
use Rattle.text.specs.Text.{ascii, headed}
use Rattle.plan.specs.Reading.{plan_of}
use Rattle.plan.specs.declared.Plan.{Plan}
use Rattle.state.specs.State.{State}
use Rattle.ways.proofs.Unique.{shown-once, causes-once}
use Rattle.reasons.specs.Why.{crossings_of, outward, Explains, reached, cut, why_asks, state_for, Prints, bad-file, refused, explained, longest, TellsWhy}

pub explains-once : (plan : Plan) (s : State) (d k e : ℕ) {a b : List ℕ} → Explains plan s d k e a → Explains plan s d k e b → a ≡ b
explains-once plan s d k e (reached {ports = p} x) (reached {ports = q} y) =
    ap (λ (ports : List ℕ). headed (ascii "reached ") (length ports) ++ crossings_of plan ports) (shown-once plan s k d e p q x y)
explains-once plan s d k e (reached {ports = p} x) (cut none y) = absurd (none p x.real)
explains-once plan s d k e (cut none x) (reached {ports = q} y) = absurd (none q y.real)
explains-once plan s d k e (cut {n = v} {causes = a} none x) (cut {n = w} {causes = b} _ y) =
    let same = causes-once plan s d k v w a b x y in
    λ i. headed (ascii "cut ") (same.0 i) ++ joined 256 (λ q. outward q (get_or (same.1 i) q 0))

module _ (file : List ℕ) (given : Bool) (bytes : List ℕ) (d k e : ℕ) where
  abbrev state : State
  state = state_for (plan_of file) given bytes

  pub prints-once : {a b : List ℕ} → Prints file given bytes d k e a → Prints file given bytes d k e b → a ≡ b
  prints-once (bad-file n) (bad-file o) = refl
  prints-once (bad-file n) (refused z _ _) = absurd (n z)
  prints-once (bad-file n) (explained z _ _) = absurd (n z)
  prints-once (refused z _ _) (bad-file n) = absurd (n z)
  prints-once (explained z _ _) (bad-file n) = absurd (n z)
  prints-once (refused {number = m} _ o _) (refused {number = n} _ p _) = ap (headed (ascii "r")) (ordered-once (why_asks (plan_of file) state d k e) m n o p)
  prints-once (refused {number = m} _ o n) (explained _ p _) = absurd (n (ordered-once (why_asks (plan_of file) state d k e) m 0 o p))
  prints-once (explained _ p _) (refused {number = m} _ o n) = absurd (n (ordered-once (why_asks (plan_of file) state d k e) m 0 o p))
  prints-once (explained _ _ x) (explained _ _ y) = explains-once (plan_of file) state d k e x y

  pub why-unique : (before : List ℕ) (m n v w : ℕ) (a b : List ℕ) → TellsWhy file given bytes d k e before m v a → TellsWhy file given bytes d k e before n w b
      → (m ≡ n) × (v ≡ w) × (a ≡ b)
  why-unique before =
      tells-once (ask 3 (longest ≤ length before) ∷ [])
      (λ value after. (text : List ℕ) × Prints file given bytes d k e text × (value ≡ length text) × (after ≡ over text before))
      (λ v w a b x y.
      let same = prints-once x.1 y.1 in
      (x.2 ∙ ap length same ∙ sym y.2, x.3 ∙ ap (λ (t : List ℕ). over t before) same ∙ sym y.3))
      before

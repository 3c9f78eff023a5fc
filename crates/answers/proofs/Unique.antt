-- A check has one answer, conditions in order have one number, and a call on an area has one outcome, with or without a value.
use mathlib.Core.Path.{◌≡◌, refl, sym, ◌∙◌}
use mathlib.Core.Bool.{Bool, true, false, false≢true}
use mathlib.Core.List.{List, [], ◌∷◌}
use mathlib.Core.Logic.{inl, inr}
use Prim.Native.Nat.{ℕ}
use native.Mathlib.Decide.{ℕ_discrete}
use Rattle.answers.specs.Decides.{Decides}
use Rattle.answers.specs.Ordered.{Condition, Ordered, Outcome, Tells}

pub decides-once : {A : Type 0} (r s : Bool) → Decides A r → Decides A s → r ≡ s
decides-once true s d e = sym (e.all (d.only refl))
decides-once false true d e = absurd (false≢true (d.all (e.only refl)))
decides-once false false d e = refl

pub ordered-once : (cs : List Condition) (m n : ℕ) → Ordered cs m → Ordered cs n → m ≡ n
ordered-once [] m n p q = p ∙ sym q
ordered-once (c ∷ cs) m n (inl p) (inl q) = p.1 ∙ sym q.1
ordered-once (c ∷ cs) m n (inl p) (inr q) = absurd (p.0 q.0)
ordered-once (c ∷ cs) m n (inr p) (inl q) = absurd (q.0 p.0)
ordered-once (c ∷ cs) m n (inr p) (inr q) = ordered-once cs m n p.1 q.1

pub outcome-once : {S : Type 0} (cs : List Condition) (before done : S) (m n : ℕ) (a b : S)
    → Outcome cs before done m a → Outcome cs before done n b → (m ≡ n) × (a ≡ b)
outcome-once cs before done m n a b p q =
    let e = ordered-once cs m n p.answers q.answers in
    (e, elim (ℕ_discrete m 0) [ yes z ↦ p.made z ∙ sym (q.made (sym e ∙ z)) | no z ↦ p.kept z ∙ sym (q.kept (λ w. z (e ∙ w))) ])

-- and one that gives a value has one, where only one value and area is right
pub tells-once : {S : Type 0} (cs : List Condition) (Right : ℕ → S → Type 0) → ((v w : ℕ) (a b : S) → Right v a → Right w b → (v ≡ w) × (a ≡ b))
    → (before : S) (m n v w : ℕ) (a b : S) → Tells cs Right before m v a → Tells cs Right before n w b → (m ≡ n) × (v ≡ w) × (a ≡ b)
tells-once cs Right once before m n v w a b p q =
    let e = ordered-once cs m n p.answers q.answers in
    elim (ℕ_discrete m 0) [
      | yes z ↦ let r = once v w a b (p.made z) (q.made (sym e ∙ z)) in (e, r.0, r.1)
      | no z ↦
          let x = p.kept z in
          let y = q.kept (λ f. z (e ∙ f)) in
          (e, x.0 ∙ sym y.0, x.1 ∙ sym y.1)
    ]

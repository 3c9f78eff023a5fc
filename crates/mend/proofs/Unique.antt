-- Each public function's promise allows one result, and one exit of each area.
use mathlib.Core.Path.{◌≡◌, sym, ap, ◌∙◌}
use mathlib.Core.List.{List}
use mathlib.Core.Logic.{dite}
use Prim.Native.Nat.{ℕ}
use native.Mathlib.Decide.{ℕ_discrete, dec_le}
use lib.ListN.{length}
use Rattle.plan.specs.Refusals.{Verdict}
use Rattle.mend.specs.Rescue.{longest, Lent, Rescues}
use Rattle.mend.specs.Told.{Prints}

same-lent : {a b : Lent} → a.area ≡ b.area → a.text ≡ b.text → a ≡ b
same-lent e f = λ i. record { area = e i; text = f i }

module _ (file : List ℕ) (before : Lent) where
  pub rescue-unique : (n m b c u v : ℕ) (x y : Lent) → Rescues file before n b u x → Rescues file before m c v y → (n ≡ m) × (b ≡ c) × (u ≡ v) × (x ≡ y)
  rescue-unique n m b c u v x y p q =
      let e = p.answers ∙ sym q.answers in
      let number : n ≡ m = ap (λ (w : Verdict). w.number) e in
      let block : b ≡ c = ap (λ (w : Verdict). w.at) e in
      elim (ℕ_discrete n 0) [
        | yes z ↦
            let d = p.made z in
            let f = q.made (sym number ∙ z) in
            (number, block, d.1 ∙ sym f.1, same-lent (d.0 ∙ sym f.0) (d.2 ∙ sym f.2))
        | no z ↦
            let d = p.kept z in
            let f = q.kept (λ w. z (number ∙ w)) in
            (number, block, d.0 ∙ sym f.0, d.1 ∙ sym f.1)
      ]

  pub print-unique : (n m u v : ℕ) (x y : Lent) → Prints file before n u x → Prints file before m v y → (n ≡ m) × (u ≡ v) × (x ≡ y)
  print-unique n m u v x y p q =
      elim (ℕ_discrete n 0) [
        | yes z ↦
            let d = p.made z in
            let f = q.made (sym number ∙ z) in
            (number, d.1 ∙ sym f.1, same-lent (d.0 ∙ sym f.0) (d.2 ∙ sym f.2))
        | no z ↦
            let other : m ≡ 0 → ⊥ = λ w. z (number ∙ w) in
            dite (dec_le longest (length before.text))
            (λ room.
            let d = rw number at (p.kept z room) in
            let f = q.kept other room in
            (number, d.1 ∙ sym f.1, same-lent (d.0 ∙ sym f.0) (d.2 ∙ sym f.2)))
            (λ none.
            let d = p.silent z none in
            let f = q.silent other none in
            (number, d.0 ∙ sym f.0, d.1 ∙ sym f.1))
      ]
    where
      number : n ≡ m
      number = p.answers ∙ sym q.answers

-- The lines of a cut are those of the ports that lead out, one behind the other in the order of that list.
use mathlib.Core.Path.{◌≡◌, refl, sym, ap, ap₂, ◌∙◌}
use mathlib.Core.Bool.{Bool, true, false, cond}
use mathlib.Core.List.{List, [], ◌∷◌, ◌++◌, append_assoc, append-nil}
use Prim.Native.Nat.{ℕ, zero, suc}
use lib.Dec.{eqb}
use Rattle.lists.specs.Table.{joined}
use Rattle.text.specs.Text.{ascii}
use Rattle.ways.proofs.Listed.{outs}
use Rattle.reasons.specs.Why.{port, called, outward}

module _ (f : ℕ → ℕ) where
  -- the line of a port, by what f has for its cause
  abbrev pub line_of : ℕ → List ℕ
  line_of q = port q ++ ascii " " ++ called (f q) ++ ascii "\n"

  pub lines_of : List ℕ → List ℕ
  lines_of [] = []
  lines_of (q ∷ rest) = line_of q ++ lines_of rest

  behind : (a b : List ℕ) → lines_of (a ++ b) ≡ lines_of a ++ lines_of b
  unfolding lines_of
  behind [] b = refl
  behind (q ∷ a) b = ap (λ (l : List ℕ). line_of q ++ l) (behind a b) ∙ sym (append_assoc (line_of q) (lines_of a) (lines_of b))

  -- one port more: it has a line where it has a cause
  one_more_lem : (q : ℕ) (b : Bool) → cond b [] (line_of q) ≡ lines_of (cond b [] (q ∷ []))
  unfolding lines_of
  one_more_lem q true = refl
  one_more_lem q false = sym (append-nil (line_of q))

  pub cut-lines : (n : ℕ) → joined n (λ q. outward q (f q)) ≡ lines_of (outs n f)
  unfolding joined outs outward lines_of
  cut-lines zero = refl
  cut-lines (suc n) = ap₂ (λ (a b : List ℕ). a ++ b) (cut-lines n) (one_more_lem n (eqb (f n) 0)) ∙ sym (behind (outs n f) (cond (eqb (f n) 0) [] (n ∷ [])))

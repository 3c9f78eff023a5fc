-- The lines of a rescue, in their parts; and all of them are the text of the rules.
use mathlib.Core.Path.{◌≡◌, sym, ap, ◌∙◌}
use mathlib.Core.Bool.{Bool, true, false, cond}
use mathlib.Core.List.{List, [], ◌++◌, append-nil}
use Prim.Native.Nat.{ℕ, zero, suc, ◌+◌, ◌*◌, ◌≤◌, ◌<◌}
use native.Mathlib.Decide.{ℕ_discrete}
use native.Mathlib.Omega.{arith}
use lib.ListN.{length}
use borrow.Author.Tests.{lt-ltb, le-ltb, eq-eqb, ne_eqb}
use Rattle.lists.specs.Table.{table, joined}
use Rattle.lists.proofs.Tables.{get_d-table, same-joined}
use Rattle.text.specs.Text.{ascii, headed, joint}
use Rattle.text.proofs.Parts.{headed-short}
use Rattle.text.proofs.Within.{none-joined, one-joined}
use Rattle.plan.specs.Fields.{nobody}
use Rattle.plan.specs.Inner.Memory.{at}
use Rattle.plan.specs.Refusals.{count_in}
use Rattle.mend.specs.Claims.{damaged, claimant}
use Rattle.mend.specs.Rescue.{restored, rebuilt_lines, rescue_text}
use Rattle.mend.proofs.Marked.{marks-at}
use Rattle.mend.specs.Inner.Steps.{Fronted, marks, marked_at, restored_in, restored_lines, router_lines, marked_lines, lines_in}

-- ---- the line of a port

module _ (t claimant : ℕ) where
  pub restored-none : claimant ≡ nobody → [] ≡ restored_in t claimant
  unfolding restored_in
  restored-none e = rw (eq-eqb claimant nobody e)

  pub restored-some : (claimant ≡ nobody → ⊥) → joint t claimant ≡ restored_in t claimant
  unfolding restored_in
  restored-some n = rw (ne_eqb claimant nobody n)

-- ---- those of a device

pub block-short : (d : ℕ) → d < 32 → length (headed (ascii "block ") (1 + d)) ≤ 9
unfolding ascii
block-short d h = headed-short (ascii "block ") 1 (1 + d) (omega arith)

module _ (mark : Bool) (claimants : List ℕ) (d : ℕ) where
  pub marked-none : mark ≡ false → [] ≡ marked_lines mark claimants d
  unfolding marked_lines
  marked-none e = rw e

  pub marked-some : mark ≡ true → headed (ascii "block ") (1 + d) ++ restored_lines claimants d 8 ≡ marked_lines mark claimants d
  unfolding marked_lines router_lines
  marked-some e = rw e

-- ---- those of all devices

module _ (claimants : List ℕ) (damaged : List Bool) where
  pub none_in : [] ≡ lines_in claimants damaged 0
  unfolding lines_in
  none_in = none-joined _

  pub one_in : (d : ℕ) → lines_in claimants damaged d ++ marked_lines (marked_at damaged d) claimants d ≡ lines_in claimants damaged (d + 1)
  unfolding lines_in
  one_in d = one-joined _ d

-- ---- the text of the rules

-- empty lists behind the first n add nothing
rest-joined : (n k : ℕ) (f : ℕ → List ℕ) → n ≤ k → ((d : ℕ) → n ≤ d → d < k → f d ≡ []) → joined k f ≡ joined n f
unfolding joined
rest-joined n zero f h e = let q : 0 ≡ n = omega arith in ap (λ (i : ℕ). joined i f) q
rest-joined n (suc k) f h e =
    elim (ℕ_discrete n (suc k)) [
      | yes q ↦ ap (λ (i : ℕ). joined i f) (sym q)
      | no q ↦
          ap (λ (l : List ℕ). joined k f ++ l) (e k (omega arith) (omega arith)) ∙ append-nil (joined k f)
          ∙ rest-joined n k f (omega arith) (λ d a b. e d a (omega arith))
    ]

module _ (file : List ℕ) where
  -- the mark of a device that is there, and of one that is not
  pub mark-there : (d : ℕ) → d < 32 → d < count_in file → marked_at (marks file) d ≡ damaged file d
  mark-there d h l = marks-at file d h ∙ rw (lt-ltb d (count_in file) l)

  pub mark-gone : (d : ℕ) → d < 32 → count_in file ≤ d → marked_at (marks file) d ≡ false
  mark-gone d h l = marks-at file d h ∙ rw (le-ltb d (count_in file) l)

  abbrev claimants : List ℕ
  claimants = table 256 (claimant file)

  same-restored : (t : ℕ) → t < 256 → restored_in t (at claimants t) ≡ restored file t
  unfolding restored_in restored
  same-restored t h = rw (get_d-table 256 (claimant file) t 0 h)

  same-router : (d : ℕ) → d < 32 → router_lines claimants d ≡ rebuilt_lines file d
  unfolding router_lines rebuilt_lines
  same-router d h = ap (λ (l : List ℕ). headed (ascii "block ") (1 + d) ++ l) (same-joined 8 _ _ (λ p l. same-restored (8 * d + p) (omega arith)))

  pub lines-text : Fronted file → lines_in claimants (marks file) 32 ≡ rescue_text file
  unfolding lines_in rescue_text marked_lines
  lines-text f =
      rest-joined (count_in file) 32 _ f.few (λ d h l. sym (marked-none _ claimants d (mark-gone d l h)))
      ∙ same-joined (count_in file) _ _
      (λ d l. let h : d < 32 = omega (arith, f.few) in
      rw (mark-there d h l) (ap (λ (x : List ℕ). cond (damaged file d) x []) (same-router d h)))

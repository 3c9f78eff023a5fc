-- How long lines are, and the lines of one place more.
use mathlib.Core.Path.{◌≡◌, refl, subst}
use mathlib.Core.Logic.{inl, inr}
use mathlib.Core.List.{[], ◌++◌, append-nil}
use Prim.Native.Nat.{ℕ, ◌+◌, ◌/◌, ◌%◌, ◌≤◌, ◌<◌}
use native.Mathlib.Numerals.{add-one}
use native.Mathlib.Omega.{arith}
use lib.ListN.{length, length-append}
use Rattle.bits.specs.Set.{bit}
use Rattle.device.specs.Reaction.{is_used}
use Rattle.plan.specs.Reading.{Held}
use Rattle.plan.specs.declared.Plan.{Plan}
use Rattle.plan.proofs.BothWays.{held-devices}
use Rattle.text.specs.Page.{Writes}
use Rattle.text.specs.Text.{ascii}
use Rattle.text.specs.declared.page.Page.{Page}
use Rattle.text.proofs.Decimal.{decimal-short}
use Rattle.text.proofs.Within.{nothing, looser, room-behind, both, within}
use Rattle.state.specs.Network.{devices, source}
use Rattle.bench.specs.Settling.{rounds, most_rounds}
use Rattle.bench.specs.Trials.{requested, Answered, Tries, refused, settled, waiting}
use Rattle.bench.proofs.Tried.{holders-few}
use Rattle.report.specs.Report.{field, line, none, pass, more}
use Rattle.report.specs.Inner.Pieces.{longest_line, longest_lines, PutsPlace, PutsLines}
use Rattle.report.proofs.Parts.{field-refused}

-- no request is refused by a number above 9: 13 is for acknowledges
number-few : (plan : Plan) (d k : ℕ) {n : ℕ} → Answered plan d k n → n ≤ 9
unfolding is_used
number-few plan d k (inl p) = omega (arith, p.1)
number-few plan d k (inr (_, inl p)) = omega (arith, p.1)
number-few plan d k (inr (_, inr (_, inl p))) = omega (arith, p.1)
number-few plan d k (inr (_, inr (_, inr (_, inl p)))) = omega (arith, p.1)
number-few plan d k (inr (_, inr (_, inr (_, inr (_, inl p))))) = omega (arith, p.1)
number-few plan d k (inr (_, inr (_, inr (_, inr (_, inr (_, inl p)))))) = absurd (p.0 refl)
number-few plan d k (inr (_, inr (_, inr (_, inr (_, inr (_, inr (_, inl p))))))) = omega (arith, p.1)
number-few plan d k (inr (_, inr (_, inr (_, inr (_, inr (_, inr (_, inr (_, inl p)))))))) = omega (arith, p.1)
number-few plan d k (inr (_, inr (_, inr (_, inr (_, inr (_, inr (_, inr (_, inr (_, inl p))))))))) = omega (arith, p.1)
number-few plan d k (inr (_, inr (_, inr (_, inr (_, inr (_, inr (_, inr (_, inr (_, inr p))))))))) = omega (arith, p.1)

module _ (plan : Plan) (held : Held plan) (d k : ℕ) where
  field-short : {number n count : ℕ} → Tries plan d k number n count → (length (field number n) ≤ 4) × (count ≤ 32)
  unfolding field ascii
  field-short (refused {number} o z) =
      let few = number-few plan d k o in
      (rw (field-refused number 0 z (λ e. omega arith)) (omega (arith, decimal-short 0 number (omega arith))), omega arith)
  field-short (settled {n} o l _) = (decimal-short 3 n (omega (arith, l)), omega (arith, holders-few (devices plan) k (rounds plan n (requested plan d k)), (held-devices plan held).1))
  field-short (waiting o _) = (omega arith, omega (arith, holders-few (devices plan) k (rounds plan most_rounds (requested plan d k)), (held-devices plan held).1))

  pub line-short : {number n count : ℕ} → d < 32 → k < 32 → Tries plan d k number n count → length (line d k number n count) ≤ longest_line
  unfolding line ascii
  line-short {count = count} h l t =
      let f = field-short t in
      simp length-append
      (omega (arith, f.0, decimal-short 1 d (omega (arith, h)), decimal-short 1 k (omega (arith, l)), decimal-short 1 count (omega (arith, f.1))))

-- ---- one place more

module _ (plan : Plan) (i : ℕ) where
  -- it has no line
  pub place-passed : (p : Page) → (bit (source plan (i / 32)) (i % 32) ≡ 1 → ⊥) → PutsPlace plan i p p
  place-passed p h =
      record {
        added = [];
        right = λ lines l. rw (append-nil lines, add-one i) (pass l h);
        within = looser (nothing p) (omega arith);
      }

  -- it has one
  pub place-put : Held plan → i < 1024 → {number n count : ℕ} {p q : Page} → bit (source plan (i / 32)) (i % 32) ≡ 1
      → Tries plan (i / 32) (i % 32) number n count → Writes (line (i / 32) (i % 32) number n count) p q → PutsPlace plan i p q
  place-put held h {number} {n} {count} e t w =
      record {
        added = line (i / 32) (i % 32) number n count;
        right = λ lines l. rw (add-one i) (more l e t);
        within = within (line-short plan held (i / 32) (i % 32) (omega arith) (omega arith) t) w;
      }

module _ {plan : Plan} {p : Page} where
  pub lines_none : PutsLines plan 0 p p
  lines_none = record { lines = []; right = none; within = looser (nothing p) (omega arith) }

  module _ {i : ℕ} {q : Page} (v : PutsLines plan i p q) where
    module _ (room : p.at + longest_lines ≤ length p.area.now) (h : i < 1024) where
      -- there is room for a line more
      pub lines-room : q.at + longest_line ≤ length q.area.now
      lines-room = room-behind v.within longest_line (omega (arith, room, h))

      -- the lines of one place more
      pub lines_more : {r : Page} → PutsPlace plan i q r → PutsLines plan (i + 1) p r
      lines_more a =
          record {
            lines = v.lines ++ a.added;
            right = a.right v.lines v.right;
            within = looser (both v.within longest_line (omega (arith, room, h)) a.within) (omega arith);
          }

    pub lines-done : {n : ℕ} → i ≡ n → PutsLines plan n p q
    lines-done e = subst (λ n. PutsLines plan n p q) e v

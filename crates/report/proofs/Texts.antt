-- The whole text of a file, and what the call answers.
use mathlib.Core.Path.{◌≡◌, refl, sym, ap, subst, ◌∙◌}
use mathlib.Core.Logic.{inl, inr}
use mathlib.Core.List.{List, ◌++◌}
use Prim.Native.Nat.{ℕ, ◌+◌, ◌*◌, ◌^◌, ◌≤◌, ◌<◌}
use native.Mathlib.Omega.{arith}
use lib.ListN.{length, length-append}
use Rattle.areas.specs.Put.{over}
use Rattle.lists.specs.Table.{table}
use Rattle.plan.specs.Reading.{Held, reads}
use Rattle.plan.specs.declared.Plan.{Plan}
use Rattle.plan.specs.Reading.{Read}
use Rattle.plan.proofs.BothWays.{held-devices}
use Rattle.planfile.proofs.WasRead.{number_is, accepts, plan-is}
use Rattle.text.specs.Page.{Writes}
use Rattle.text.specs.Text.{ascii, bad}
use Rattle.text.specs.declared.page.Page.{Page}
use Rattle.text.proofs.Decimal.{decimal-short}
use Rattle.text.proofs.Pages.{then, at-front}
use Rattle.text.proofs.Parts.{length-headed, bad-short, over-room}
use Rattle.text.proofs.Within.{within}
use Rattle.state.specs.State.{words, BothFit}
use Rattle.state.specs.Network.{devices}
use Rattle.std.specs.Prelude.{Result, Ok, Err}
use Rattle.std.specs.Result.{IsOk}
use Rattle.answers.specs.Refusals.{number_in}
use Rattle.answers.specs.declared.Refusal.{Refusal}
use Rattle.bench.proofs.Tried.{not-done}
use Rattle.bench.specs.Trials.{Finds, Lent, Fits as Trials-as-Fits, TriesAll}
use Rattle.report.specs.Report.{Lines, heading, Prints, refused, network, Areas, longest, Fits, Reports, lent}
use Rattle.report.specs.Inner.Pieces.{PutsLines, PutsText}

-- ---- how long the first line is

pub heading-short : (n : ℕ) → n ≤ 32 → length (heading n) ≤ 11
unfolding ascii
heading-short n h = omega (arith, length-headed (ascii "network ") n, decimal-short 1 n (omega (arith, h)))

-- ---- what was read

module _ (file : List ℕ) {read : Read} (e : read ≡ reads file) where
  module _ (z : read.number ≡ 0) where
    -- the first line and all others
    pub network-text : {p q r : Page} → Held read.plan → p.at + longest ≤ length p.area.now → Writes (heading (devices read.plan)) p q
        → PutsLines read.plan (32 * devices read.plan) q r → PutsText file p r
    network-text held room a b =
        let few = (held-devices read.plan held).1 in
        let size = length-append (heading (devices read.plan)) b.lines in
        let fits : length (heading (devices read.plan) ++ b.lines) ≤ longest = omega (arith, size, heading-short (devices read.plan) few, few, b.within.short) in
        record {
          text = heading (devices read.plan) ++ b.lines;
          right =
              subst (λ (plan : Plan). Lines plan (32 * devices plan) b.lines → Prints file (heading (devices plan) ++ b.lines)) (sym (plan-is file e z)) (λ l. network (accepts file e z) l)
              b.right;
          within = within fits (then a (omega (arith, fits, room)) b.within.writes);
        }

  pub refused-text : {p q : Page} → (read.number ≡ 0 → ⊥) → read.number < 2 ^ 32 → read.block < 2 ^ 32
      → Writes (bad read.number read.block) p q → PutsText file p q
  refused-text n h l a =
      record {
        text = bad read.number read.block;
        right = subst (λ (x : Read). Prints file (bad x.number x.block)) (sym e) (unfold reads in (refused (λ z. n (number_is file e ∙ z))));
        within = within (omega (arith, bad-short read.number read.block h l)) a;
      }

-- ---- what was found, in areas that fit

pub was-found : {plan : Plan} {before after : Lent} {number : ℕ} → TriesAll plan before number after
    → Held plan → Trials-as-Fits (length before.state) (length before.second) (length before.found) → Finds plan after.found
was-found r held fits = elim r.answers [
  | inl p ↦ absurd (p.0 held)
  | inr p ↦ elim p.1 [ inl q ↦ absurd (q.0 fits) | inr q ↦ (r.made q.1).0 ]
]

-- and they were found
pub was-done : {plan : Plan} {before after : Lent} (x : Result (Unit {0}) Refusal) → TriesAll plan before (number_in x) after
    → Held plan → Trials-as-Fits (length before.state) (length before.second) (length before.found) → IsOk x
was-done (Ok v) r held fits = refl
was-done (Err e) r held fits = elim r.answers [
  | inl p ↦ absurd (p.0 held)
  | inr p ↦ elim p.1 [ inl q ↦ absurd (q.0 fits) | inr q ↦ absurd (not-done e q.1) ]
]

-- ---- what the call answers

module _ (file state second text : List ℕ) where
  pub misfits : (Fits (length state) (length second) (length text) → ⊥) → Reports file (lent state second text) 3 0 (lent state second text)
  misfits m = record { answers = inl (m, refl); made = λ z. absurd (omega (arith, z)); kept = λ _. (refl, refl) }

-- the text was made on a page that goes on at its front
module _ (file : List ℕ) {p q : Page} (z : p.at ≡ 0) (room : longest ≤ length p.area.now) (v : PutsText file p q) where
  in-front : (q.at ≡ length v.text) × (q.area.now ≡ over v.text p.area.now)
  in-front = at-front v.within.writes z (omega (arith, v.within.short, room))

  -- its length is small
  pub small : q.at ≤ longest
  small = omega (arith, v.within.short, in-front.0)

  pub reports : {state second s u t : List ℕ} → BothFit (length state) (length second) → s ≡ table words (λ i. 0) → u ≡ table words (λ i. 0) → t ≡ q.area.now
      → Reports file (lent state second p.area.now) 0 q.at (lent s u t)
  reports fits e f same =
      record {
        answers = inr ((fits, room), refl);
        made = λ _. (v.text, v.right, in-front.0, λ i. lent (e i) (f i) ((same ∙ in-front.1) i));
        kept = λ z. absurd (z refl);
      }

-- what a caller wants to know, who lends areas that fit
module _ {file : List ℕ} {before after : Areas} {number value : ℕ} (r : Reports file before number value after) where
  zero_number : Fits (length before.state) (length before.second) (length before.text) → number ≡ 0
  zero_number fits = elim r.answers [ inl p ↦ absurd (p.0 fits) | inr p ↦ p.1 ]

  pub not-refused : Fits (length before.state) (length before.second) (length before.text) → Reports file before 0 value after
  not-refused fits = subst (λ (n : ℕ). Reports file before n value after) (zero_number fits) r

-- the text that was made is no longer than its area
pub made-room : {file : List ℕ} {before after : Areas} {value : ℕ} → Reports file before 0 value after → value ≤ length after.text
made-room {before = before} r = let x = r.made refl in omega (arith, x.2, over-room x.0 before.text (ap (λ (a : Areas). a.text) x.3))

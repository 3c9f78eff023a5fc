-- The whole texts, and what the call answers.
use mathlib.Core.Path.{◌≡◌, refl, sym, subst, ◌∙◌}
use mathlib.Core.Bool.{Bool, false}
use mathlib.Core.Logic.{inl, inr}
use mathlib.Core.List.{List, [], ◌∷◌, ◌++◌}
use Prim.Native.Nat.{ℕ, suc, ◌+◌, ◌^◌, ◌≤◌, ◌<◌}
use native.Mathlib.Omega.{arith}
use lib.ListN.{length}
use Rattle.std.specs.Prelude.{Result, Err}
use Rattle.answers.specs.Ordered.{ask, Ordered}
use Rattle.answers.specs.Refusals.{number_of}
use Rattle.answers.specs.declared.Refusal.{Refusal}
use Rattle.answers.proofs.Unique.{ordered-once}
use Rattle.text.specs.Inner.Within.{WritesWithin}
use Rattle.text.specs.Page.{Writes}
use Rattle.text.specs.Text.{ascii, headed, bad}
use Rattle.text.specs.declared.page.Page.{Page}
use Rattle.text.proofs.Decimal.{decimal-short}
use Rattle.text.proofs.Pages.{at-front}
use Rattle.text.proofs.Parts.{length-headed, bad-short, over-room}
use Rattle.text.proofs.Within.{looser, both, within}
use Rattle.plan.specs.Reading.{Held, reads}
use Rattle.plan.specs.declared.Plan.{Plan}
use Rattle.plan.specs.Reading.{Read}
use Rattle.planfile.proofs.WasRead.{number_is, accepts, plan-is}
use Rattle.state.specs.State.{State, words}
use Rattle.ways.specs.Chain.{Chain, Shown}
use Rattle.ways.specs.Cut.{AllCauses}
use Rattle.reasons.specs.Why.{crossings_of, Explains, reached, cut, why_asks, state_for, Prints, bad-file, refused, explained, longest, TellsWhy}
use Rattle.reasons.specs.Inner.Pieces.{longest_reached, longest_cut, Answers, CutText, cut-text, outwards, WritesSome}

-- ---- the first lines

head-short : (word : List ℕ) (j n : ℕ) → n < 10 ^ suc j → length (headed word n) ≤ length word + suc j + 1
head-short word j n h = omega (arith, length-headed word n, decimal-short j n h)

module _ {p q : Page} where
  pub reached-head : (n : ℕ) → n < 32 → Writes (headed (ascii "reached ") n) p q → WritesWithin longest_reached (headed (ascii "reached ") n) p q
  unfolding ascii
  reached-head n h w = within (head-short (ascii "reached ") 1 n (omega (arith, h))) w

  pub cut-head : (n : ℕ) → n ≤ 256 → Writes (headed (ascii "cut ") n) p q → WritesWithin longest_cut (headed (ascii "cut ") n) p q
  unfolding ascii
  cut-head n h w = within (head-short (ascii "cut ") 2 n (omega (arith, h))) w

  refused-head : (n : ℕ) → n < 2 ^ 32 → Writes (headed (ascii "r") n) p q → WritesWithin longest (headed (ascii "r") n) p q
  unfolding ascii
  refused-head n h w = looser (within (head-short (ascii "r") 9 n (omega (arith, h))) w) (omega arith)

  -- and the others behind it
  pub behind : {m k : ℕ} {w v : List ℕ} {r : Page} → m + k ≤ longest → p.at + longest ≤ length p.area.now → WritesWithin m w p q → WritesWithin k v q r
      → WritesWithin longest (w ++ v) p r
  behind {k = k} h room a b = looser (both a k (omega (arith, h, room)) b) h

  -- ---- what is said of a plan and a state

  pub writes-causes : {plan : Plan} {s : State} {d k n : ℕ} {causes : List ℕ} → AllCauses plan s d k n causes
      → WritesWithin longest (headed (ascii "cut ") n ++ outwards 256 causes) p q → WritesSome (CutText plan s d k) p q
  writes-causes {n = n} {causes} a w = record { text = headed (ascii "cut ") n ++ outwards 256 causes; right = cut-text a; within = w }

  module _ {plan : Plan} {s : State} {d k e : ℕ} where
    pub writes-chain : (ports : List ℕ) → Shown plan s k d e ports → WritesWithin longest (headed (ascii "reached ") (length ports) ++ crossings_of plan ports) p q
        → WritesSome (Explains plan s d k e) p q
    writes-chain ports x w = record { text = headed (ascii "reached ") (length ports) ++ crossings_of plan ports; right = reached x; within = w }

    pub writes-cut : ((ports : List ℕ) → Chain plan s k d ports e → ⊥) → WritesSome (CutText plan s d k) p q → WritesSome (Explains plan s d k e) p q
    writes-cut none w = record { text = w.text; right = explains w.right; within = w.within }
      where
        explains : {text : List ℕ} → CutText plan s d k text → Explains plan s d k e text
        explains (cut-text a) = cut none a

-- a refusal puts nothing
module _ {plan : Plan} {s : State} {d k e : ℕ} where
  pub answers-refused : {r : Result (Unit {0}) Refusal} {x : Refusal} (before : Page) → r ≡ Err x → Ordered (why_asks plan s d k e) (number_of x) → Answers plan s d k e before r before
  answers-refused before q o = rw q (o, refl)

  -- a state that has not as many words as one is refused
  pub too-long : Held plan → {n : ℕ} → n ≡ 2 → (length s ≡ words → ⊥) → Ordered (why_asks plan s d k e) n
  too-long held e none = inr (held, inl (λ sound. none sound.size, e))

-- of a state that is the one asked about
pub by-state : {plan : Plan} {s t : State} {d k e : ℕ} {p q : Page} → s ≡ t → Ordered (why_asks plan s d k e) 0 → WritesSome (Explains plan s d k e) p q
    → Ordered (why_asks plan t d k e) 0 × WritesSome (Explains plan t d k e) p q
by-state {plan} {d = d} {k} {e} {p} {q} same o w =
    subst (λ (s : State). Ordered (why_asks plan s d k e) 0 × WritesSome (Explains plan s d k e) p q) same (o, w)

-- ---- what is said of a file

-- what is asked, of the same plan
same-asks : {p q : Plan} (given : Bool) (bytes : List ℕ) (d k e : ℕ) {n : ℕ} → p ≡ q → Ordered (why_asks p (state_for p given bytes) d k e) n
    → Ordered (why_asks q (state_for q given bytes) d k e) n
same-asks given bytes d k e {n} same o = subst (λ (plan : Plan). Ordered (why_asks plan (state_for plan given bytes) d k e) n) same o

module _ {file : List ℕ} {given : Bool} {bytes : List ℕ} {d k e : ℕ} {read : Read} (r : read ≡ reads file) where
  pub writes-bad : {p q : Page} → (read.number ≡ 0 → ⊥) → read.number < 2 ^ 32 → read.block < 2 ^ 32 → Writes (bad read.number read.block) p q
      → WritesSome (Prints file given bytes d k e) p q
  writes-bad n h l w =
      record {
        text = bad read.number read.block;
        right = subst (λ (x : Read). Prints file given bytes d k e (bad x.number x.block)) (sym r) (unfold reads in (bad-file (λ z. n (number_is file r ∙ z))));
        within = within (omega (arith, bad-short read.number read.block h l)) w;
      }

  -- by the plan that was read
  module _ (z : read.number ≡ 0) {p q : Page} where
    pub writes-answer : Ordered (why_asks read.plan (state_for read.plan given bytes) d k e) 0
        → WritesSome (Explains read.plan (state_for read.plan given bytes) d k e) p q → WritesSome (Prints file given bytes d k e) p q
    writes-answer o w =
        record {
          text = w.text;
          right = explained (accepts file r z) (same-asks given bytes d k e (plan-is file r z) o) (subst (λ (plan : Plan). Explains plan (state_for plan given bytes) d k e w.text) (plan-is file r z) w.right);
          within = w.within;
        }

    pub writes-refusal : {number : ℕ} → Ordered (why_asks read.plan (state_for read.plan given bytes) d k e) number → (number ≡ 0 → ⊥) → number < 2 ^ 32
        → Writes (headed (ascii "r") number) p q → WritesSome (Prints file given bytes d k e) p q
    writes-refusal {number} o n h w =
        record { text = headed (ascii "r") number; right = refused (accepts file r z) (same-asks given bytes d k e (plan-is file r z) o) n; within = refused-head number h w }

-- ---- what the call answers

module _ {file : List ℕ} {given : Bool} {bytes : List ℕ} {d k e : ℕ} where
  pub misfits : {before : List ℕ} → length before < longest → TellsWhy file given bytes d k e before 3 0 before
  misfits m = record { answers = inl (λ h. omega (arith, h), refl); made = λ z. absurd (omega (arith, z)); kept = λ _. (refl, refl) }

  -- the text was made on a page that goes on at its front
  module _ {p q : Page} (z : p.at ≡ 0) (fits : longest ≤ length p.area.now) (w : WritesSome (Prints file given bytes d k e) p q) where
    pub tells : {after : List ℕ} → after ≡ q.area.now → TellsWhy file given bytes d k e p.area.now 0 q.at after
    tells same =
        let f = at-front w.within.writes z (omega (arith, w.within.short, fits)) in
        record {
          answers = inr (fits, refl);
          made = λ _. (w.text, w.right, f.0, same ∙ f.1);
          kept = λ n. absurd (n refl);
        }

    -- the length of a text is small
    pub small : q.at ≤ longest
    small = omega (arith, w.within.short, (at-front w.within.writes z (omega (arith, w.within.short, fits))).0)

-- what a caller wants to know, who lends an area that fits: it is not refused, and the text that was made is no longer than its area
module _ {file : List ℕ} {given : Bool} {bytes : List ℕ} {d k e : ℕ} {before after : List ℕ} {value : ℕ} where
  pub not-refused : {number : ℕ} → longest ≤ length before → TellsWhy file given bytes d k e before number value after → TellsWhy file given bytes d k e before 0 value after
  not-refused {number} fits r = subst (λ (n : ℕ). TellsWhy file given bytes d k e before n value after) (ordered-once (ask 3 (longest ≤ length before) ∷ []) number 0 r.answers (inr (fits, refl))) r

  pub made-room : TellsWhy file given bytes d k e before 0 value after → value ≤ length after
  made-room r = let x = r.made refl in omega (arith, x.2, over-room x.0 before x.3)

-- without a state file, what bytes stand beside does not count
not-given : {file bytes : List ℕ} {d k e : ℕ} {text : List ℕ} (other : List ℕ) → Prints file false bytes d k e text → Prints file false other d k e text
not-given other (bad-file n) = bad-file n
not-given other (refused z o n) = refused z o n
not-given other (explained z o x) = explained z o x

pub bytes-unused : {file bytes : List ℕ} {d k e : ℕ} {before after : List ℕ} {number value : ℕ} (other : List ℕ) → TellsWhy file false bytes d k e before number value after
    → TellsWhy file false other d k e before number value after
bytes-unused other r = record { answers = r.answers; made = λ z. let x = r.made z in (x.0, not-given other x.1, x.2, x.3); kept = r.kept }

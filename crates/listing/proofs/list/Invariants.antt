use mathlib.Core.Path.{◌≡◌, sym, ap, ◌∙◌}
use mathlib.Core.List.{List}
use Prim.Native.Nat.{ℕ, ◌+◌, ◌≤◌, ◌<◌}
use native.Mathlib.Omega.{arith}
use lib.ListN.{length, take, get_or, length-append}
use borrow.Author.Count.{below_more}
use Rattle.areas.specs.Put.{Puts, over}
use Rattle.areas.proofs.Puts.{same_size, next_place, put-over}
use Rattle.listing.specs.Listing.{line, lines, longest, Lists}
use Rattle.listing.proofs.Laws.{lines_more}
use Rattle.listing.proofs.list.Given as goal

-- the promise, but for where it stops
pub record Listing (bytes before page : List ℕ) (taken at : ℕ) : Type 0 where
  pub within : taken ≤ length bytes
  pub size : at ≡ length (lines (take taken bytes))
  pub room : at ≤ length before
  pub long : length page ≡ length before
  pub text : page ≡ over (lines (take taken bytes)) before
  pub went_on : (i : ℕ) → i < taken → length (lines (take i bytes)) + longest ≤ length before

module _ {bytes before page : List ℕ} {taken at : ℕ} (v : Listing bytes before page taken at) where
  pub turn : {after : List ℕ} {next : ℕ} → taken < length bytes → length (line (get_or bytes taken 0)) ≤ longest → at + longest ≤ length before
      → Puts page at (line (get_or bytes taken 0)) after next → Listing bytes before after (taken + 1) next
  turn {after} {next} l short fits p =
      let b = get_or bytes taken 0 in
      let e : lines (take (taken + 1) bytes) ≡ _ = lines_more bytes taken l in
      let n : next ≡ at + length (line b) = next_place p (omega (arith, v.long)) in
      record {
        within = omega arith;
        size = n ∙ omega (arith, v.size, ap length e ∙ length-append (lines (take taken bytes)) (line b));
        room = omega arith;
        long = same_size p ∙ v.long;
        text =
            p.exit
            ∙ rw (v.text, v.size) (put-over (lines (take taken bytes)) (line b) before (omega (arith, v.size)))
            ∙ ap (λ w. over w before) (sym e);
        went_on = below_more (λ k. length (lines (take k bytes)) + longest ≤ length before) taken v.went_on (omega (arith, v.size));
      }

  pub done : (taken < length bytes → length before < at + longest) → Lists bytes before taken at page
  done h = record { within = v.within; size = v.size; room = v.room; text = v.text; went_on = v.went_on; stopped = h }

abbrev pub invariant-loop-taken : goal.invariant-loop-taken
invariant-loop-taken l =
    Listing l.bytes l.initial.page.area.now l.page.area.now l.taken l.page.at × (l.page.area.ghost_name ≡ l.initial.page.area.ghost_name)

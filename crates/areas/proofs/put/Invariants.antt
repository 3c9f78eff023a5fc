use mathlib.Core.Path.{◌≡◌, ap, ◌∙◌}
use mathlib.Core.List.{List}
use Prim.Native.Nat.{ℕ, ◌+◌, ◌-◌, ◌≤◌, ◌<◌}
use native.Mathlib.Numerals.{add-one}
use native.Mathlib.Omega.{arith}
use lib.ListN.{length, get_or, set}
use lib.Seq.{paste, paste-suc, length-paste}
use Rattle.areas.proofs.put.Given as goal

-- the word has room, and its first i bytes stand in the area
pub record Copied (area₀ : List ℕ) (at : ℕ) (word area : List ℕ) (i : ℕ) : Type 0 where
  pub room : at + length word ≤ length area₀
  pub within : i ≤ length word
  pub long : length area ≡ length area₀
  pub same : area ≡ paste area₀ at word i

pub turn : {area₀ : List ℕ} {at : ℕ} {word area : List ℕ} {i : ℕ} → Copied area₀ at word area i → i < length word
    → Copied area₀ at word (set area (at + i) (get_or word i 0)) (i + 1)
turn {area₀} {at} {word} {area} {i} v h =
    let e : set area (at + i) (get_or word i 0) ≡ paste area₀ at word (i + 1) = rw (v.same, paste-suc area₀ at word i 0 (omega arith) h, add-one) in
    record {
      room = v.room;
      within = omega arith;
      long = ap length e ∙ length-paste area₀ at word (i + 1) (omega arith) (omega arith);
      same = e;
    }

abbrev pub invariant-loop-i : goal.invariant-loop-i
invariant-loop-i l = Copied l.initial.area l.at l.word l.area l.i

abbrev pub decreases-loop-i : goal.decreases-loop-i
decreases-loop-i l = length l.word - l.i

-- The bytes between the fields: where each run of them is zero, every byte is that lies in no field.
use mathlib.Core.Path.{◌≡◌, refl, sym, ap, ◌∙◌}
use mathlib.Core.Bool.{Bool, true, false, cond, ◌&&◌, ◌||◌, false≢true}
use mathlib.Core.List.{List, [], ◌∷◌}
use mathlib.Core.Logic.{dite}
use Prim.Native.Nat.{ℕ, ◌+◌, ◌-◌, ◌≤◌, ◌<◌}
use native.Mathlib.Decide.{dec_lt}
use native.Mathlib.Omega.{arith}
use lib.Bits.{bit_or}
use lib.Dec.{eqb, ltb, leb}
use lib.ListN.{length, get_or, take, drop, length-drop}
use lib.Seq.{length-take-le, get_or-take, get_or-drop}
use borrow.Author.Tests.{lt-ltb, le-ltb, lt-leb, le-leb}
use Rattle.lists.proofs.Facts.{facts}
use Rattle.std.specs.List.{fold}
use Rattle.areas.proofs.Below.{merged_zero}
use Rattle.lists.specs.Table.{every}
use Rattle.lists.proofs.Tests.{and_left, and_right, both, same_truth, every-same}
use Rattle.plan.specs.Block.{byte, Field, lies, lies_in, rest_zero}
use Rattle.plan.proofs.Holdings.{ascends, Ascends, ascending, in_block, before-all, or-false, rest_at, rest_all}
use Rattle.planfile.specs.Inner.Zeros.{zeros_in}

-- the runs between fields, from a place on up to byte 510, are zero; fields that touch have none between them
abbrev pub gaps_zero : ℕ → List Field → List ℕ → Bool
gaps_zero from [] s = zeros_in from 510 s
gaps_zero from (f ∷ fields) s = cond (ltb from f.place) (zeros_in from f.place s && gaps_zero (f.place + f.width) fields s) (gaps_zero (f.place + f.width) fields s)

pub zeros-at : (from to : ℕ) (s : List ℕ) → zeros_in from to s ≡ true → (i : ℕ) → from ≤ i → i < to → byte s i ≡ 0
unfolding zeros_in
zeros-at from to s z i a b =
    let e : from + (i - from) ≡ i = omega arith in
    ap (byte s) (sym e) ∙ (simp facts at z) (i - from) (omega arith)

pub zeros-all : (from to : ℕ) (s : List ℕ) → ((i : ℕ) → from ≤ i → i < to → byte s i ≡ 0) → zeros_in from to s ≡ true
unfolding zeros_in
zeros-all from to s h = simp facts (λ i l. h (from + i) (omega arith) (omega arith))

-- such a run is zero where what its bytes are merged into is
pub merged-zeros : (from to : ℕ) (s : List ℕ) → to ≤ length s → eqb (fold bit_or 0 (take (to - from) (drop from s))) 0 ≡ zeros_in from to s
unfolding zeros_in
merged-zeros from to s h =
    let run = take (to - from) (drop from s) in
    let long : length run ≡ to - from = length-take-le (to - from) (drop from s) (omega (arith, length-drop from s)) in
    merged_zero run ∙ ap (λ n. every n (λ i. eqb (get_or run i 0) 0)) long
    ∙ every-same (to - from) _ _ (λ i l. ap (λ x. eqb x 0) (get_or-take (to - from) (drop from s) i 0 l ∙ get_or-drop from s i 0))

-- every byte from a place on that lies in no field
abbrev Rest : ℕ → List Field → List ℕ → Type 0
Rest from fields s = (i : ℕ) → from ≤ i → i < 510 → lies_in i fields ≡ false → byte s i ≡ 0

module _ (s : List ℕ) where
  -- behind a field, the rest is that of the other fields; before it, it is the gap
  behind : (from : ℕ) (f : Field) (fields : List Field) → from ≤ f.place + f.width → Rest from (f ∷ fields) s → Rest (f.place + f.width) fields s
  unfolding lies_in lies
  behind from f fields l r i a b e = r i (omega arith) b (rw (le-ltb i (f.place + f.width) a) (by-test (leb f.place i)))
    where
      by-test : (t : Bool) → ((t && false) || lies_in i fields) ≡ false
      by-test true = e
      by-test false = e

  gaps-rest : (from : ℕ) (fields : List Field) → Ascends from fields → gaps_zero from fields s ≡ true → Rest from fields s
  unfolding lies_in lies
  gaps-rest from [] o z i a b e = zeros-at from 510 s z i a b
  gaps-rest from (f ∷ fields) o z i a b e =
      let other = gaps-rest (f.place + f.width) fields o.1 in
      dite (dec_lt i f.place)
      (λ l. zeros-at from f.place s (and_left _ _ (rw (lt-ltb from f.place (omega arith)) at z)) i a l)
      (λ l. dite (dec_lt i (f.place + f.width))
      (λ g. absurd (clash (rw (le-leb f.place i (omega arith), lt-ltb i (f.place + f.width) g) at e)))
      (λ g. other (gaps-behind (ltb from f.place) z) i (omega arith) b (or-false (lies i f) (lies_in i fields) e).1))
    where
      clash : true ≡ false → ⊥
      clash q = false≢true (sym q)

      gaps-behind : (t : Bool) → cond t (zeros_in from f.place s && gaps_zero (f.place + f.width) fields s) (gaps_zero (f.place + f.width) fields s) ≡ true
          → gaps_zero (f.place + f.width) fields s ≡ true
      gaps-behind true q = and_right (zeros_in from f.place s) (gaps_zero (f.place + f.width) fields s) q
      gaps-behind false q = q

  rest-gaps : (from : ℕ) (fields : List Field) → Ascends from fields → Rest from fields s → gaps_zero from fields s ≡ true
  unfolding lies_in lies
  rest-gaps from [] o r = zeros-all from 510 s (λ i a b. r i a b refl)
  rest-gaps from (f ∷ fields) o r =
      let end = in_block (f.place + f.width) fields o.1 in
      let other = rest-gaps (f.place + f.width) fields o.1 (behind from f fields (omega arith) r) in
      by-test (ltb from f.place) other
      (both _ _ (zeros-all from f.place s (λ i a b. r i a (omega arith) (rw (lt-leb f.place i b) (before-all (f.place + f.width) fields o.1 i (omega arith))))) other)
    where
      by-test : (t : Bool) → gaps_zero (f.place + f.width) fields s ≡ true → (zeros_in from f.place s && gaps_zero (f.place + f.width) fields s) ≡ true
          → cond t (zeros_in from f.place s && gaps_zero (f.place + f.width) fields s) (gaps_zero (f.place + f.width) fields s) ≡ true
      by-test true p q = q
      by-test false p q = p

  -- one test says what the other says
  pub gaps : (fields : List Field) → ascends 0 fields ≡ true → gaps_zero 0 fields s ≡ rest_zero fields s
  gaps fields e =
      let o = ascending 0 fields e in
      same_truth (gaps_zero 0 fields s) (rest_zero fields s)
      (λ z. rest_all fields s (λ i l. gaps-rest 0 fields o z i (omega arith) l))
      (λ z. rest-gaps 0 fields o (λ i a. rest_at fields s z i))

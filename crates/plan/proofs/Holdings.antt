-- A block made of numbers, each at its field: its fields hold them, all else is zero, its check is right; and a block of which this is so is that block.
use mathlib.Core.Path.{◌≡◌, refl, sym, ap, ap₂, ◌∙◌}
use mathlib.Core.Bool.{Bool, true, false, ◌&&◌, ◌||◌, false≢true}
use mathlib.Core.List.{List, [], ◌∷◌, ◌++◌}
use mathlib.Core.Logic.{◌⊎◌, inl, inr, dite}
use Prim.Native.Nat.{ℕ, zero, suc, ◌+◌, ◌-◌, ◌*◌, ◌%◌, ◌^◌, ◌≤◌, ◌<◌}
use native.Mathlib.Decide.{dec_lt}
use native.Mathlib.Omega.{arith}
use lib.Dec.{eqb, leb}
use lib.ListN.{length, get_or-eq_default}
use lib.Seq.{ext_get_or}
use borrow.Author.Tests.{leb-true, lt-leb, eqb-true, eq-eqb}
use Rattle.lists.specs.Table.{joined}
use Rattle.lists.proofs.Facts.{facts}
use Rattle.lists.proofs.Tables.{length-table, get_d-table}
use Rattle.plan.specs.Block.{byte, Field, number_in, lies, lies_in, rest_zero, weighted, check, check_field, checked}
use Rattle.plan.specs.Inner.File.{put_number, Holding, filled, cleared, sealed, block_of}
use Rattle.plan.proofs.Bytes.{Bytes, number_same, number_small, same_bytes, length-put, put-bytes, put-before, put-behind, put-read}

-- ---- fields

abbrev pub fields_of : List Holding → List Field
fields_of [] = []
fields_of (h ∷ hs) = h.into ∷ fields_of hs

-- one behind the other, from a place on and below byte 510
abbrev pub ascends : ℕ → List Field → Bool
ascends from [] = leb from 510
ascends from (f ∷ fields) = leb from f.place && ascends (f.place + f.width) fields

abbrev pub Ascends : ℕ → List Field → Type 0
Ascends from [] = from ≤ 510
Ascends from (f ∷ fields) = (from ≤ f.place) × Ascends (f.place + f.width) fields

pub ascending : (from : ℕ) (fields : List Field) → ascends from fields ≡ true → Ascends from fields
ascending from [] e = leb-true from 510 e
ascending from (f ∷ fields) e = let g = simp facts at e in (g.0, ascending (f.place + f.width) fields g.1)

pub in_block : (from : ℕ) (fields : List Field) → Ascends from fields → from ≤ 510
in_block from [] a = a
in_block from (f ∷ fields) a = let l = in_block (f.place + f.width) fields a.1 in omega arith

-- a byte outside a field, and inside
pub apart : (i : ℕ) (f : Field) → lies i f ≡ false → (i < f.place) ⊎ (f.place + f.width ≤ i)
unfolding lies
apart i f e =
    dite (dec_lt i f.place) (λ l. inl l)
    (λ l. dite (dec_lt i (f.place + f.width)) (λ g. absurd (false≢true (sym e ∙ simp facts (omega arith, g)))) (λ g. inr (omega arith)))

pub inside : (i : ℕ) (f : Field) → lies i f ≡ true → (f.place ≤ i) × (i < f.place + f.width)
unfolding lies
inside i f e = simp facts at e

pub before-all : (from : ℕ) (fields : List Field) → Ascends from fields → (i : ℕ) → i < from → lies_in i fields ≡ false
unfolding lies_in lies
before-all from [] a i l = refl
before-all from (f ∷ fields) a i l = rw (lt-leb f.place i (omega arith)) (before-all (f.place + f.width) fields a.1 i (omega arith))

-- ---- zeros in all other bytes

module _ (fields : List Field) (s : List ℕ) where
  pub rest_at : rest_zero fields s ≡ true → (i : ℕ) → i < 510 → lies_in i fields ≡ false → byte s i ≡ 0
  unfolding rest_zero
  rest_at z i l e = eqb-true (byte s i) 0 (rw e at ((simp facts at z) i l))

  pub rest_all : ((i : ℕ) → i < 510 → lies_in i fields ≡ false → byte s i ≡ 0) → rest_zero fields s ≡ true
  unfolding rest_zero
  rest_all h = simp facts (λ i l. by-test i l (lies_in i fields) refl)
    where
      by-test : (i : ℕ) → i < 510 → (t : Bool) → lies_in i fields ≡ t → (t || eqb (byte s i) 0) ≡ true
      by-test i l true e = refl
      by-test i l false e = eq-eqb (byte s i) 0 (h i l e)

-- ---- what fields hold

abbrev pub All : (Holding → Type 0) → List Holding → Type 0
All P [] = Unit {0}
All P (h ∷ hs) = P h × All P hs

-- each field holds its number; each number fits its field
abbrev pub Holds : List ℕ → List Holding → Type 0
Holds s = All (λ h. number_in s h.into ≡ h.number)

abbrev pub Fit : List Holding → Type 0
Fit = All (λ h. h.number < 256 ^ h.into.width)

module _ (P : Holding → Type 0) where
  pub all_append : (xs ys : List Holding) → All P xs → All P ys → All P (xs ++ ys)
  all_append [] ys p q = q
  all_append (h ∷ xs) ys p q = (p.0, all_append xs ys p.1 q)

  pub all-parts : (xs ys : List Holding) → All P (xs ++ ys) → All P xs × All P ys
  all-parts [] ys p = (tt, p)
  all-parts (h ∷ xs) ys p = let q = all-parts xs ys p.1 in ((p.0, q.0), q.1)

  pub all-joined : (f : ℕ → List Holding) (n : ℕ) → ((p : ℕ) → p < n → All P (f p)) → All P (joined n f)
  unfolding joined
  all-joined f zero h = tt
  all-joined f (suc n) h = all_append (joined n f) (f n) (all-joined f n (λ p l. h p (omega arith))) (h n (omega arith))

  pub all-at : (f : ℕ → List Holding) (n : ℕ) → All P (joined n f) → (p : ℕ) → p < n → All P (f p)
  unfolding joined
  all-at f zero h p l = absurd (omega arith)
  all-at f (suc n) h p l =
      let q = all-parts (joined n f) (f n) h in
      dite (dec_lt p n) (λ g. all-at f n q.0 p g) (λ g. let e : p ≡ n = omega arith in rw e q.1)

-- what bytes hold fits
fit_of : (s : List ℕ) (hs : List Holding) → Bytes s → Holds s hs → Fit hs
fit_of s [] b p = tt
fit_of s (h ∷ hs) b p = (rw (← p.0) (number_small s h.into.place h.into.width b), fit_of s hs b p.1)

-- the same bytes below 510 hold the same
holds_same : (s t : List ℕ) → ((k : ℕ) → k < 510 → byte s k ≡ byte t k) → (from : ℕ) (hs : List Holding) → Ascends from (fields_of hs) → Holds s hs → Holds t hs
holds_same s t e from [] a p = tt
holds_same s t e from (h ∷ hs) a p =
    let end = in_block (h.into.place + h.into.width) (fields_of hs) a.1 in (
      sym (number_same s t h.into.place h.into.place h.into.width (λ k l. e (h.into.place + k) (omega arith))) ∙ p.0,
      holds_same s t e (h.into.place + h.into.width) hs a.1 p.1,
    )

-- two blocks of bytes that hold the same have the same bytes there
held_bytes : (s t : List ℕ) → Bytes s → Bytes t → (hs : List Holding) → Holds s hs → Holds t hs → (i : ℕ) → lies_in i (fields_of hs) ≡ true → byte s i ≡ byte t i
unfolding lies_in
held_bytes s t b c [] p q i e = absurd (false≢true e)
held_bytes s t b c (h ∷ hs) p q i e = by-test (lies i h.into) refl e (held_bytes s t b c hs p.1 q.1 i)
  where
    by-test : (u : Bool) → lies i h.into ≡ u → (u || lies_in i (fields_of hs)) ≡ true → (lies_in i (fields_of hs) ≡ true → byte s i ≡ byte t i) → byte s i ≡ byte t i
    by-test false f e other = other e
    by-test true f e other =
        let g = inside i h.into f in
        let k : i ≡ h.into.place + (i - h.into.place) = omega arith in
        ap (byte s) k ∙ same_bytes s t h.into.place h.into.width b c (p.0 ∙ sym q.0) (i - h.into.place) (omega arith) ∙ ap (byte t) (sym k)

-- ---- numbers put one after the other

pub length-filled : (s : List ℕ) (hs : List Holding) → length (filled s hs) ≡ length s
length-filled s [] = refl
length-filled s (h ∷ hs) = length-filled (put_number s h.into.place h.into.width h.number) hs ∙ length-put s h.into.place h.into.width h.number

pub filled-append : (s : List ℕ) (xs ys : List Holding) → filled s (xs ++ ys) ≡ filled (filled s xs) ys
filled-append s [] ys = refl
filled-append s (h ∷ xs) ys = filled-append (put_number s h.into.place h.into.width h.number) xs ys

filled-bytes : (s : List ℕ) (hs : List Holding) → Bytes s → Bytes (filled s hs)
filled-bytes s [] b = b
filled-bytes s (h ∷ hs) b = filled-bytes (put_number s h.into.place h.into.width h.number) hs (put-bytes s h.into.place h.into.width h.number b)

pub or-false : (a b : Bool) → (a || b) ≡ false → (a ≡ false) × (b ≡ false)
or-false true b e = absurd (false≢true (sym e))
or-false false b e = (refl, e)

-- bytes in none of the fields stay
filled-rest : (s : List ℕ) (hs : List Holding) (i : ℕ) → lies_in i (fields_of hs) ≡ false → byte (filled s hs) i ≡ byte s i
unfolding lies_in
filled-rest s [] i e = refl
filled-rest s (h ∷ hs) i e =
    let t = put_number s h.into.place h.into.width h.number in
    let f = or-false (lies i h.into) (lies_in i (fields_of hs)) e in
    filled-rest t hs i f.1
    ∙ elim (apart i h.into f.0) [
      | inl l ↦ put-before s h.into.place h.into.width h.number i l
      | inr l ↦ put-behind s h.into.place h.into.width h.number i l
    ]

-- each field holds its number
filled-holds : (s : List ℕ) → 510 ≤ length s → (from : ℕ) (hs : List Holding) → Ascends from (fields_of hs) → Fit hs → Holds (filled s hs) hs
filled-holds s long from [] a f = tt
filled-holds s long from (h ∷ hs) a f =
    let i = h.into.place in
    let w = h.into.width in
    let n = h.number in
    let t = put_number s i w n in
    let end = in_block (i + w) (fields_of hs) a.1 in (
      number_same (filled t hs) t i i w (λ k l. filled-rest t hs (i + k) (before-all (i + w) (fields_of hs) a.1 (i + k) (omega arith)))
          ∙ put-read s i w n (omega arith) f.0,
      filled-holds t (omega (arith, length-put s i w n)) (i + w) hs a.1 f.1,
    )

-- ---- the check

-- it counts the bytes before it, and no others
weighted-same : (s t : List ℕ) (n : ℕ) → ((i : ℕ) → i < n → byte s i ≡ byte t i) → weighted s n ≡ weighted t n
unfolding weighted
weighted-same s t zero h = refl
weighted-same s t (suc n) h =
    ap₂ (λ a b. a + suc n * b) (weighted-same s t n (λ i l. h i (omega arith))) (h n (omega arith))

check-same : (s t : List ℕ) → ((i : ℕ) → i < 510 → byte s i ≡ byte t i) → check s ≡ check t
unfolding check
check-same s t h = ap (λ k. k % 65521) (weighted-same s t 510 h)

-- two bytes hold it
pub check-small : (s : List ℕ) → check s < 65521
unfolding check
check-small s = omega arith

module _ (s : List ℕ) (long : length s ≡ 512) where
  sealed-byte : (i : ℕ) → i < 510 → byte (sealed s) i ≡ byte s i
  unfolding sealed
  sealed-byte i h = put-before s 510 2 (check s) i h

  sealed-checked : checked (sealed s) ≡ true
  unfolding sealed checked
  sealed-checked =
      eq-eqb _ _ (put-read s 510 2 (check s) (omega arith) (omega (arith, check-small s)) ∙ check-same s (sealed s) (λ i h. sym (sealed-byte i h)))

-- ---- the block

length-cleared : length cleared ≡ 512
unfolding cleared
length-cleared = length-table 512 _

cleared-byte : (i : ℕ) → byte cleared i ≡ 0
unfolding cleared
cleared-byte i = dite (dec_lt i 512) (λ l. get_d-table 512 _ i 0 l) (λ l. get_or-eq_default cleared 0 (omega (arith, length-cleared)))

module _ (hs : List Holding) where
  filled-long : length (filled cleared hs) ≡ 512
  filled-long = length-filled cleared hs ∙ length-cleared

  pub length-made : length (block_of hs) ≡ 512
  unfolding sealed
  length-made = length-put (filled cleared hs) 510 2 (check (filled cleared hs)) ∙ filled-long

  pub made_bytes : Bytes (block_of hs)
  unfolding sealed
  made_bytes = put-bytes (filled cleared hs) 510 2 (check (filled cleared hs)) (filled-bytes cleared hs (λ i. omega (arith, cleared-byte i)))

  pub made-checked : checked (block_of hs) ≡ true
  made-checked = sealed-checked (filled cleared hs) filled-long

  pub made-rest : rest_zero (fields_of hs) (block_of hs) ≡ true
  made-rest = rest_all (fields_of hs) (block_of hs) (λ i l e. sealed-byte (filled cleared hs) filled-long i l ∙ filled-rest cleared hs i e ∙ cleared-byte i)

  module _ (a : Ascends 0 (fields_of hs)) where
    pub made_holds : Fit hs → Holds (block_of hs) hs
    made_holds f =
        holds_same (filled cleared hs) (block_of hs) (λ k l. sym (sealed-byte (filled cleared hs) filled-long k l)) 0 hs a
        (filled-holds cleared (omega (arith, length-cleared)) 0 hs a f)

    -- a block of bytes that holds the same, has zeros besides, and passes its check
    pub is_made : (s : List ℕ) → length s ≡ 512 → Bytes s → Holds s hs → rest_zero (fields_of hs) s ≡ true → checked s ≡ true → block_of hs ≡ s
    unfolding checked
    is_made s e b p z c =
        let t = block_of hs in
        let same : (i : ℕ) → i < 510 → byte t i ≡ byte s i = λ i l. by-test i l (lies_in i (fields_of hs)) refl in
        let sum : number_in t check_field ≡ number_in s check_field =
        eqb-true _ _ made-checked ∙ check-same t s same ∙ sym (eqb-true _ _ c) in
        ext_get_or 0 t s (length-made ∙ sym e)
        (λ i h. dite (dec_lt i 510) (λ l. same i l)
        (λ l.
        let k : i ≡ 510 + (i - 510) = omega arith in
        ap (byte t) k ∙ same_bytes t s 510 2 made_bytes b sum (i - 510) (omega (arith, length-made)) ∙ ap (byte s) (sym k)))
      where
        by-test : (i : ℕ) → i < 510 → (u : Bool) → lies_in i (fields_of hs) ≡ u → byte (block_of hs) i ≡ byte s i
        by-test i l true f = held_bytes (block_of hs) s made_bytes b hs (made_holds (fit_of s hs b p)) p i f
        by-test i l false f = rest_at (fields_of hs) (block_of hs) made-rest i l f ∙ sym (rest_at (fields_of hs) s z i l f)

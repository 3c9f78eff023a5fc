-- Demand 2 on codes: "Every time, interrupt or acknowledge code has its one byte, and every byte reads as that code or as reserved."
-- Each byte has one reading, and comes back from it, a reserved one too (T-06).
use mathlib.Core.Path.{◌≡◌, refl, sym, ap, subst, ◌∙◌}
use mathlib.Core.Bool.{Bool, true, false, cond}
use mathlib.Core.Logic.{◌⊎◌, inl, inr}
use Prim.Native.Nat.{ℕ, ◌+◌, ◌-◌, ◌*◌, ◌≤◌, ◌<◌}
use native.Mathlib.Omega.{arith}
use lib.Dec.{ltb, leb}
use borrow.Author.Tests.{ltb-true, ltb-false, leb-true, lt-ltb, le-ltb, le-leb}
use Rattle.answers.specs.Answer.{Answer, done, refused}
use Rattle.codes.specs.Codes.{byte_of, top_bits, low_six, reads, Readable, came_as, writes, at_most}
use Rattle.codes.specs.declared.Code.{Code}
use Rattle.codes.specs.declared.Code.TheVariants.{Time, Interrupt, Acknowledge, Reserved}

-- the two top bits of a reserved byte; `reads` answers for numbers that are no byte too, and these have 4 or more
abbrev pub OfReserved : ℕ → Type 0
OfReserved top = (top ≡ 1) ⊎ (3 ≤ top)

-- where a byte stands, by the code that it reads as
pub data Stands (b : ℕ) : Code → Type 0 where
  time : b ≤ 63 → Stands b (Time b)
  interrupt : {k : ℕ} → k ≤ 31 → byte_of 0 k ≡ b → Stands b (Interrupt k)
  acknowledge : {k : ℕ} → k ≤ 31 → byte_of 1 k ≡ b → Stands b (Acknowledge k)
  reserved : {top low : ℕ} → OfReserved top → low ≤ 63 → 64 * top + low ≡ b → Stands b (Reserved top low)

pub stands : (b : ℕ) → Stands b (reads b)
unfolding reads
stands b = by_tests (ltb b 64) (ltb b 128) (ltb b 160) (ltb b 192) refl refl refl refl
  where
    by_tests : (t u v w : Bool) → ltb b 64 ≡ t → ltb b 128 ≡ u → ltb b 160 ≡ v → ltb b 192 ≡ w
        → Stands b
        (cond t (Time b)
        (cond u (Reserved (top_bits b) (low_six b)) (cond v (Interrupt (b - 128)) (cond w (Acknowledge (b - 160)) (Reserved (top_bits b) (low_six b))))))
    by_tests true u v w p q r s = time (omega (arith, ltb-true b 64 p))
    by_tests false true v w p q r s =
        reserved {top = top_bits b} {low = low_six b} (inl (omega (arith, ltb-false b 64 p, ltb-true b 128 q))) (omega arith) (omega arith)
    by_tests false false true w p q r s = interrupt {k = b - 128} (omega (arith, ltb-true b 160 r)) (omega (arith, ltb-false b 128 q))
    by_tests false false false true p q r s = acknowledge {k = b - 160} (omega (arith, ltb-true b 192 s)) (omega (arith, ltb-false b 160 r))
    by_tests false false false false p q r s =
        reserved {top = top_bits b} {low = low_six b} (inr (omega (arith, ltb-false b 192 s))) (omega arith) (omega arith)

-- two parts that give a byte are its own
pub parts : (b top low : ℕ) → low ≤ 63 → 64 * top + low ≡ b → Reserved (top_bits b) (low_six b) ≡ Reserved top low
parts b top low l e =
    let t : top_bits b ≡ top = omega arith in
    let s : low_six b ≡ low = omega arith in
    rw (t, s) refl

-- a byte reads as the code at which it stands
reads_as : (b : ℕ) (c : Code) → Stands b c → reads b ≡ c
unfolding reads
reads_as b _ (time l) = simp (lt-ltb b 64 (omega arith))
reads_as b _ (interrupt {k} l e) =
    let q : b - 128 ≡ k = omega arith in
    simp (le-ltb b 64 (omega arith), le-ltb b 128 (omega arith), lt-ltb b 160 (omega arith), q)
reads_as b _ (acknowledge {k} l e) =
    let q : b - 160 ≡ k = omega arith in
    simp (le-ltb b 64 (omega arith), le-ltb b 128 (omega arith), le-ltb b 160 (omega arith), lt-ltb b 192 (omega arith), q)
reads_as b _ (reserved {top} {low} (inl u) l e) = simp (le-ltb b 64 (omega arith), lt-ltb b 128 (omega arith)) (parts b top low l e)
reads_as b _ (reserved {top} {low} (inr u) l e) =
    simp (le-ltb b 64 (omega arith), le-ltb b 128 (omega arith), le-ltb b 160 (omega arith), le-ltb b 192 (omega arith)) (parts b top low l e)

-- a reserved byte is no interrupt and no acknowledge
pub reserved-apart : {b top low : ℕ} (kind k : ℕ) → Stands b (Reserved top low) → kind < 2 → k < 32 → b ≡ byte_of kind k → ⊥
reserved-apart kind k (reserved (inl u) l e) g h is = omega arith
reserved-apart kind k (reserved (inr u) l e) g h is = omega arith

-- from what was read the byte comes back
pub byte-comes-back : (b : ℕ) → came_as (reads b) ≡ b
unfolding came_as
byte-comes-back b = back (reads b) (stands b)
  where
    back : (c : Code) → Stands b c → came_as c ≡ b
    back _ (time l) = refl
    back _ (interrupt l e) = e
    back _ (acknowledge l e) = e
    back _ (reserved u l e) = e

-- so two bytes have two readings
pub reads-one-to-one : (a b : ℕ) → reads a ≡ reads b → a ≡ b
reads-one-to-one a b e = sym (byte-comes-back a) ∙ ap came_as e ∙ byte-comes-back b

-- every byte has a reading that a byte can have
pub readable : (b : ℕ) → b < 256 → Readable (reads b)
unfolding Readable
readable b h = of (reads b) (stands b)
  where
    of : (c : Code) → Stands b c → Readable c
    of _ (time l) = omega arith
    of _ (interrupt l e) = omega arith
    of _ (acknowledge l e) = omega arith
    of _ (reserved (inl u) l e) = (inl u, omega arith)
    of _ (reserved (inr u) l e) = (inr (omega arith), omega arith)

-- each of those is read from a byte, the one that it came as
pub is_read : (c : Code) → Readable c → (came_as c < 256) × (reads (came_as c) ≡ c)
unfolding Readable came_as
is_read (Time v) h = (omega arith, reads_as v (Time v) (time (omega arith)))
is_read (Interrupt k) h = (omega arith, reads_as (byte_of 0 k) (Interrupt k) (interrupt (omega arith) refl))
is_read (Acknowledge k) h = (omega arith, reads_as (byte_of 1 k) (Acknowledge k) (acknowledge (omega arith) refl))
is_read (Reserved top low) (inl u, h) = (omega arith, reads_as (64 * top + low) (Reserved top low) (reserved (inl u) (omega arith) refl))
is_read (Reserved top low) (inr u, h) =
    (omega arith, reads_as (64 * top + low) (Reserved top low) (reserved (inr (omega arith)) (omega arith) refl))

-- and a byte has one reading only: whatever can be read, and came as this byte, is what it reads as
pub one-reading : (b : ℕ) (c : Code) → Readable c → came_as c ≡ b → c ≡ reads b
one-reading b c r e = sym (is_read c r).1 ∙ ap reads e

-- what a reserved reading can be
pub reserved-reading : (b top low : ℕ) → b < 256 → reads b ≡ Reserved top low → ((top ≡ 1) ⊎ (top ≡ 3)) × (low < 64)
unfolding Readable
reserved-reading b top low h is = subst Readable is (readable b h)

-- a value that is small enough has its byte
has : (most : ℕ) {v b : ℕ} → v ≤ most → at_most most v b ≡ done b
unfolding at_most
has most {v} h = simp (le-leb v most h)

-- no answer is both refused and done
refused-or-done : (b : ℕ) → refused 5 ≡ done b → ⊥
refused-or-done b e = let z : ◌≡◌ {A = ℕ} 5 0 = ap (λ (a : Answer). a.number) e in omega arith

-- and only such a value has one
fits : (most v byte b : ℕ) → at_most most v byte ≡ done b → (v ≤ most) × (byte ≡ b)
unfolding at_most
fits most v byte b e = by-test (leb v most) refl e
  where
    by-test : (t : Bool) → leb v most ≡ t → cond t (done byte) (refused 5) ≡ done b → (v ≤ most) × (byte ≡ b)
    by-test true p e = (leb-true v most p, ap (λ (a : Answer). a.value) e)
    by-test false p e = absurd (refused-or-done b e)

-- reading what was written gives the code
pub reading-what-was-written : (c : Code) (b : ℕ) → writes c ≡ done b → reads b ≡ c
unfolding writes
reading-what-was-written (Time v) b e =
    let f = fits 63 v v b e in
    rw (← f.1) (reads_as v (Time v) (time f.0))
reading-what-was-written (Interrupt k) b e = let f = fits 31 k (byte_of 0 k) b e in reads_as b (Interrupt k) (interrupt f.0 f.1)
reading-what-was-written (Acknowledge k) b e = let f = fits 31 k (byte_of 1 k) b e in reads_as b (Acknowledge k) (acknowledge f.0 f.1)
reading-what-was-written (Reserved top low) b e = absurd (refused-or-done b e)

-- the byte that is written is the one that the code came as
pub came-as-written : (c : Code) (b : ℕ) → writes c ≡ done b → came_as c ≡ b
came-as-written c b e = sym (ap came_as (reading-what-was-written c b e)) ∙ byte-comes-back b

-- writing what was read gives the byte, for every byte that is not reserved
pub writing-what-was-read : (b : ℕ) → ((top low : ℕ) → reads b ≡ Reserved top low → ⊥) → writes (reads b) ≡ done b
unfolding writes
writing-what-was-read b h = back (reads b) (stands b) h
  where
    back : (c : Code) → Stands b c → ((top low : ℕ) → c ≡ Reserved top low → ⊥) → writes c ≡ done b
    back _ (time l) n = has 63 l
    back _ (interrupt l e) n = has 31 l ∙ ap done e
    back _ (acknowledge l e) n = has 31 l ∙ ap done e
    back _ (reserved {top} {low} u l e) n = absurd (n top low refl)

-- two codes have two bytes
pub two-codes-two-bytes : (c e : Code) (b : ℕ) → writes c ≡ done b → writes e ≡ done b → c ≡ e
two-codes-two-bytes c e b p q = sym (reading-what-was-written c b p) ∙ reading-what-was-written e b q

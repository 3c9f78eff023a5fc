-- Words put one behind the other: whether there is room, and a text of parts put where the one before it ends.
use mathlib.Core.Path.{◌≡◌, refl, sym, ap, ◌∙◌}
use mathlib.Core.Bool.{Bool, true, false, not}
use mathlib.Core.Logic.{dite}
use mathlib.Core.List.{List, [], ◌++◌, append_assoc, append-nil}
use Prim.Native.Nat.{ℕ, suc, ◌+◌, ◌/◌, ◌%◌, ◌^◌, ◌≤◌, ◌<◌}
use native.Mathlib.Decide.{dec_le}
use native.Mathlib.Nat.{add-zero, zero-add}
use native.Mathlib.Omega.{arith}
use lib.Dec.{leb}
use lib.ListN.{length, take, drop, length-append, take-append-drop}
use borrow.Author.Tests.{leb-true, leb-false}
use Rattle.lists.proofs.Turns.{failed, passed}
use Rattle.areas.specs.Put.{Puts, over}
use Rattle.areas.proofs.Puts.{put_whole, place_after_lem, puts_none, joined, same_size, next_place, over-put}
use Rattle.text.specs.Text.{ascii, decimal, headed, bad, port, joint}
use Rattle.text.proofs.Decimal.{decimal-short}

-- ---- what a test of room says

module _ (at size n : ℕ) {r : Bool} (e : r ≡ leb (at + size) n) where
  pub no_room : not r ≡ true → n < at + size
  no_room h = leb-false _ _ (failed e h)

  pub has_room : not r ≡ false → at + size ≤ n
  has_room h = leb-true _ _ (passed e h)

-- ---- parts

-- nothing was put
pub puts-nothing : (t : List ℕ) (at : ℕ) → Puts t at [] t at
puts-nothing t at =
    dite (dec_le at (length t))
    (λ h. record {
      exit = sym (put_whole t at [] (omega arith) ∙ rw (add-zero at, append-nil (take at t)) (take-append-drop at t));
      next = sym (place_after_lem t at [] (omega arith) ∙ add-zero at);
    })
    (λ h. puts_none t at [] (omega arith))

-- one part behind what was put has room where both have, and is then put with it
module _ {t : List ℕ} {at : ℕ} {w t₁ : List ℕ} {p₁ : ℕ} (a : Puts t at w t₁ p₁) (v : List ℕ) (room : at + length w + length v ≤ length t) where
  room-behind : p₁ + length v ≤ length t₁
  room-behind = omega (arith, room, same_size a, next_place a (omega (arith, room)))

  both : {t₂ : List ℕ} {p₂ : ℕ} → Puts t₁ p₁ v t₂ p₂ → Puts t at (w ++ v) t₂ p₂
  both b = joined a (omega (arith, room, length-append w v)) b

-- put at the front of an area with room for it, it stands in front, and the place behind it is its length
pub in-front : {t w after : List ℕ} {place : ℕ} → Puts t 0 w after place → length w ≤ length t → (place ≡ length w) × (after ≡ over w t)
in-front {t} {w} p room = (next_place p (omega arith) ∙ zero-add (length w), p.exit ∙ sym (over-put w t room))

-- what stands in front of an area is no longer than it
pub over-room : (w before : List ℕ) {after : List ℕ} → after ≡ over w before → length w ≤ length after
unfolding over
over-room w before e = omega (arith, ap length e, length-append w (drop (length w) before))

-- a text of three parts
pub record Three (whole a b c : List ℕ) : Type 0 where
  pub is : whole ≡ a ++ b ++ c

module _ {whole a b c : List ℕ} (parts : Three whole a b c) where
  sizes : length whole ≡ length a + length b + length c
  sizes = ap length parts.is ∙ simp length-append

  pub first-room : (t : List ℕ) (at : ℕ) → at + length whole ≤ length t → at + length a ≤ length t
  first-room t at room = omega (arith, room, sizes)

  module _ {t : List ℕ} {at : ℕ} {t₁ : List ℕ} {p₁ : ℕ} (p : Puts t at a t₁ p₁) (room : at + length whole ≤ length t) where
    pub second-room : p₁ + length b ≤ length t₁
    second-room = room-behind p b (omega (arith, room, sizes))

    module _ {t₂ : List ℕ} {p₂ : ℕ} (q : Puts t₁ p₁ b t₂ p₂) where
      two : Puts t at (a ++ b) t₂ p₂
      two = both p b (omega (arith, room, sizes)) q

      two-room : at + length (a ++ b) + length c ≤ length t
      two-room = omega (arith, room, sizes, length-append a b)

      pub third-room : p₂ + length c ≤ length t₂
      third-room = room-behind two c two-room

      pub three : {t₃ : List ℕ} {p₃ : ℕ} → Puts t₂ p₂ c t₃ p₃ → Puts t at whole t₃ p₃
      three r = rw parts.is (both two c two-room r)

-- a text of four parts: three, and one behind them
pub record Four (whole a b c d : List ℕ) : Type 0 where
  pub is : whole ≡ a ++ b ++ c ++ d

pub four : {whole a b c d : List ℕ} → Four whole a b c d → {t : List ℕ} {at : ℕ} {t₁ t₂ t₃ t₄ : List ℕ} {p₁ p₂ p₃ p₄ : ℕ} → Puts t at a t₁ p₁ → at + length whole ≤ length t
    → Puts t₁ p₁ b t₂ p₂ → Puts t₂ p₂ c t₃ p₃ → Puts t₃ p₃ d t₄ p₄ → Puts t at whole t₄ p₄
four {whole} {a} {b} {c} {d} parts p room q r s =
    let size : length whole ≡ length (a ++ b ++ c) + length d = ap length parts.is ∙ length-append (a ++ b ++ c) d in
    let front : Three (a ++ b ++ c) a b c = record { is = refl } in
    rw parts.is (both (three front p (omega (arith, room, size)) q r) d (omega (arith, room, size)) s)

-- ---- lines

-- a number, and a word behind it
abbrev pub part : ℕ → List ℕ → List ℕ
part n word = decimal n ++ word

pub length-headed : (word : List ℕ) (n : ℕ) → length (headed word n) ≡ length word + length (decimal n) + 1
unfolding headed ascii
length-headed word n = simp length-append

pub headed-short : (word : List ℕ) (j n : ℕ) → n < 10 ^ suc j → length (headed word n) ≤ length word + suc j + 1
headed-short word j n h = omega (arith, length-headed word n, decimal-short j n h)

pub headed-parts : (word : List ℕ) (n : ℕ) → headed word n ≡ word ++ part n (ascii "\n")
unfolding headed
headed-parts word n = append_assoc word (decimal n) (ascii "\n")

pub length-bad : (number block : ℕ) → length (bad number block) ≡ 6 + length (decimal number) + length (decimal block)
unfolding bad ascii
length-bad number block = simp length-append (omega arith)

-- by numbers of 32 bits
pub bad-short : (number block : ℕ) → number < 2 ^ 32 → block < 2 ^ 32 → length (bad number block) ≤ 26
bad-short number block h l =
    omega (arith, length-bad number block, decimal-short 9 number (omega (arith, h)), decimal-short 9 block (omega (arith, l)))

pub bad-parts : (number block : ℕ) → Three (bad number block) (ascii "bad ") (part number (ascii " ")) (part block (ascii "\n"))
unfolding bad
bad-parts number block = record { is = simp append_assoc }

pub length-joint : (q p : ℕ) → length (joint q p) ≡ 4 + length (decimal (q / 8)) + length (decimal (q % 8)) + length (decimal (p / 8)) + length (decimal (p % 8))
unfolding joint port ascii
length-joint q p = simp length-append (omega arith)

-- by ports of 32 devices
pub joint-short : (q p : ℕ) → q < 256 → p < 256 → length (joint q p) ≤ 10
joint-short q p h l =
    omega (arith, length-joint q p, decimal-short 1 (q / 8) (omega (arith, h)), decimal-short 0 (q % 8) (omega arith), decimal-short 1 (p / 8) (omega (arith, l)), decimal-short 0 (p % 8) (omega arith))

pub joint-parts : (q p : ℕ) → Four (joint q p) (part (q / 8) (ascii " ")) (part (q % 8) (ascii " ")) (part (p / 8) (ascii " ")) (part (p % 8) (ascii "\n"))
unfolding joint port
joint-parts q p = record { is = simp append_assoc }

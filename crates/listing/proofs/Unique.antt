-- The promise of `list` allows one result and one exit, and takes every byte of an area with room for as many longest lines.
use mathlib.Core.Path.{◌≡◌, sym, ap, ◌∙◌}
use mathlib.Core.Logic.{dite}
use mathlib.Core.List.{List}
use Prim.Native.Nat.{ℕ, zero, suc, ◌*◌, ◌≤◌, ◌<◌}
use native.Mathlib.Decide.{dec_lt}
use native.Mathlib.Numerals.{add-one}
use native.Mathlib.Omega.{arith}
use lib.ListN.{length, take, get_or, length-append}
use Rattle.areas.specs.Put.{over}
use Rattle.areas.proofs.Puts.{length_over}
use Rattle.listing.specs.Listing.{line, lines, longest, Lists}
use Rattle.listing.proofs.Laws.{line-short, lines_more}

module _ {bytes before : List ℕ} where
  -- the area keeps its length
  pub list_length : {t u : ℕ} {a : List ℕ} → Lists bytes before t u a → length a ≡ length before
  list_length {t} l = ap length l.text ∙ length_over (lines (take t bytes)) before (omega (arith, l.size, l.room))

  -- one that stopped took no fewer than one that went on
  not-fewer : {t u s v : ℕ} {a b : List ℕ} → Lists bytes before t u a → Lists bytes before s v b → t < s → ⊥
  not-fewer {t} l m h = omega (arith, l.size, l.stopped (omega arith), m.went_on t h)

  same_taken : {t u s v : ℕ} {a b : List ℕ} → Lists bytes before t u a → Lists bytes before s v b → t ≡ s
  same_taken {t} {u} {s} l m =
      dite (dec_lt t s) (λ h. absurd (not-fewer l m h)) (λ h. dite (dec_lt s t) (λ k. absurd (not-fewer m l k)) (λ k. omega arith))

  pub list-unique : {t u s v : ℕ} {a b : List ℕ} → Lists bytes before t u a → Lists bytes before s v b → (t ≡ s) × (u ≡ v) × (a ≡ b)
  list-unique l m =
      let e = same_taken l m in
      (e, l.size ∙ ap (λ n. length (lines (take n bytes))) e ∙ sym m.size, l.text ∙ ap (λ n. over (lines (take n bytes)) before) e ∙ sym m.text)

module _ (bytes : List ℕ) (small : (i : ℕ) → i < length bytes → get_or bytes i 0 < 256) where
  lines-short : (n : ℕ) → n ≤ length bytes → length (lines (take n bytes)) ≤ longest * n
  unfolding lines
  lines-short zero h = omega arith
  lines-short (suc n) h =
      let e = ap length (lines_more bytes n h) ∙ length-append (lines (take n bytes)) (line (get_or bytes n 0)) in
      rw (← add-one) (omega (arith, e, lines-short n (omega arith), line-short (get_or bytes n 0) (small n h)))

  -- where each byte has room for a longest line, each byte is listed
  pub all_listed : {before : List ℕ} {t u : ℕ} {a : List ℕ} → longest * length bytes ≤ length before → Lists bytes before t u a → t ≡ length bytes
  all_listed {before} {t} h l =
      dite (dec_lt t (length bytes)) (λ k. absurd (omega (arith, l.size, l.stopped k, lines-short t l.within))) (λ k. omega (arith, l.within))

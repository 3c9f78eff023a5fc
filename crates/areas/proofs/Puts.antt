-- What a caller wants to know of a word that was put.
use mathlib.Core.Path.{◌≡◌, sym, ap, ◌∙◌}
use mathlib.Core.Logic.{dite}
use mathlib.Core.List.{List, ◌++◌, append_assoc}
use Prim.Native.Nat.{ℕ, ◌+◌, ◌-◌, ◌≤◌, ◌<◌}
use native.Mathlib.Decide.{dec_le}
use native.Mathlib.Nat.{zero-add, add_assoc}
use native.Mathlib.Omega.{arith}
use lib.ListN.{length, take, drop, length-append, length-take, length-drop}
use lib.Seq.{take_at, drop_at, drop-drop}
use borrow.Rule.Slice.PartMut.{put_mid}
use borrow.Author.Tests.{le-leb, lt-leb}
use Rattle.areas.specs.Put.{put_at, place_after, Puts, over}

module _ (t : List ℕ) (at : ℕ) (w : List ℕ) where
  pub put-none : length t < at + length w → put_at t at w ≡ t
  unfolding put_at
  put-none h = rw (lt-leb (at + length w) (length t) h)

  pub place_none : length t < at + length w → place_after t at w ≡ at
  unfolding place_after
  place_none h = rw (lt-leb (at + length w) (length t) h)

  module _ (room : at + length w ≤ length t) where
    pub put_whole : put_at t at w ≡ take at t ++ w ++ drop (at + length w) t
    unfolding put_at
    put_whole = rw (le-leb (at + length w) (length t) room)

    pub place_after_lem : place_after t at w ≡ at + length w
    unfolding place_after
    place_after_lem = rw (le-leb (at + length w) (length t) room)

    length-head : length (take at t ++ w) ≡ at + length w
    length-head = simp (length-append, length-take) (omega arith)

    -- up to the word's end stands what was before the place, and the word
    pub take_put : take (at + length w) (put_at t at w) ≡ take at t ++ w
    take_put = rw put_whole (take_at (take at t ++ w) (drop (at + length w) t) (at + length w) length-head)

    -- behind the word nothing changes
    pub drop-put : drop (at + length w) (put_at t at w) ≡ drop (at + length w) t
    drop-put = rw put_whole (drop_at (take at t ++ w) (drop (at + length w) t) (at + length w) length-head)

  pub length-put : length (put_at t at w) ≡ length t
  length-put =
      dite (dec_le (at + length w) (length t))
      (λ h. ap length (put_whole h) ∙ simp (length-append, length-take, length-drop) (omega arith))
      (λ h. ap length (put-none (omega arith)))

-- a word, and a word after it
pub put-put : (t : List ℕ) (at : ℕ) (u v : List ℕ) → at + length u + length v ≤ length t
    → put_at (put_at t at u) (at + length u) v ≡ put_at t at (u ++ v)
put-put t at u v h =
    let e : length (u ++ v) ≡ length u + length v = length-append u v in
    put_whole (put_at t at u) (at + length u) v (omega (arith, length-put t at u))
    ∙ rw (take_put t at u (omega arith), ← drop-drop (length v) (at + length u), drop-put t at u (omega arith), drop-drop)
    (sym (put_whole t at (u ++ v) (omega arith) ∙ simp (e, ← append_assoc, ← add_assoc)))

-- a word copied over as many bytes of the area
pub put-mid : (t : List ℕ) (at : ℕ) (w : List ℕ) {part : List ℕ} → at + length w ≤ length t → part ≡ w
    → put_mid at (at + length w - at) t part ≡ put_at t at w
put-mid t at w room e =
    let n : at + length w - at ≡ length w = omega arith in
    rw (n, e, drop-drop) (sym (append_assoc (take at t) w (drop (at + length w) t)) ∙ sym (put_whole t at w room))

-- what the promise of `put` says of a word without room, and of one with room
pub puts_none : (t : List ℕ) (at : ℕ) (w : List ℕ) → length t < at + length w → Puts t at w t at
puts_none t at w h = record { exit = sym (put-none t at w h); next = sym (place_none t at w h) }

pub puts_whole : {t : List ℕ} {at : ℕ} {w after : List ℕ} → at + length w ≤ length t → after ≡ put_at t at w → Puts t at w after (at + length w)
puts_whole {t} {at} {w} h e = record { exit = e; next = sym (place_after_lem t at w h) }

module _ {t : List ℕ} {at : ℕ} {w after : List ℕ} {place : ℕ} (p : Puts t at w after place) where
  pub same_size : length after ≡ length t
  same_size = ap length p.exit ∙ length-put t at w

  pub next_place : at + length w ≤ length t → place ≡ at + length w
  next_place h = p.next ∙ place_after_lem t at w h

  -- two words put one after the other are the joined word put
  pub joined : {v last : List ℕ} {end : ℕ} → at + length (w ++ v) ≤ length t → Puts after place v last end → Puts t at (w ++ v) last end
  joined {v} {last} {end} h q =
      let s : length (w ++ v) ≡ length w + length v = length-append w v in
      let r : place ≡ at + length w = next_place (omega arith) in
      let z : length after ≡ length t = same_size in
      record {
        exit = q.exit ∙ rw (r, p.exit) (put-put t at w v (omega arith));
        next = q.next ∙ place_after_lem after place v (omega arith) ∙ omega arith ∙ sym (place_after_lem t at (w ++ v) h);
      }

pub over-put : (w before : List ℕ) → length w ≤ length before → over w before ≡ put_at before 0 w
unfolding over
over-put w before h = sym (put_whole before 0 w (omega arith) ∙ rw zero-add)

-- a word after all that was written
pub put-over : (u v before : List ℕ) → length u + length v ≤ length before → put_at (over u before) (length u) v ≡ over (u ++ v) before
put-over u v before h =
    rw (over-put u before (omega arith), over-put (u ++ v) before (omega (arith, length-append u v)))
    (ap (λ k. put_at (put_at before 0 u) k v) (sym (zero-add (length u))) ∙ put-put before 0 u v (omega arith))

pub length_over : (w before : List ℕ) → length w ≤ length before → length (over w before) ≡ length before
length_over w before h = ap length (over-put w before h) ∙ length-put before 0 w

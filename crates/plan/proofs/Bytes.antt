-- Numbers of bytes, for every place and width: what they are made of, and that what was put is read back.
use mathlib.Core.Path.{◌≡◌, refl, sym, ap, ap₂, ◌∙◌}
use mathlib.Core.List.{List, [], ◌∷◌, ◌++◌}
use mathlib.Core.Logic.{dite}
use Prim.Native.Nat.{ℕ, zero, suc, ◌+◌, ◌*◌, ◌/◌, ◌%◌, ◌^◌, ◌≤◌, ◌<◌}
use native.Mathlib.Decide.{ℕ_discrete, dec_lt}
use native.Mathlib.Omega.{arith}
use lib.ListN.{length, set, length-set, get_or-eq_default}
use lib.Seq.{get_or-set_same, get_or-set_other}
use Rattle.lists.specs.Table.{joined}
use Rattle.plan.specs.Block.{byte, number_at}
use Rattle.plan.specs.Inner.File.{put_number}

-- ---- bytes

abbrev pub Bytes : List ℕ → Type 0
Bytes s = (i : ℕ) → byte s i < 256

pub bytes-append : (s t : List ℕ) → Bytes s → Bytes t → Bytes (s ++ t)
bytes-append [] t h g i = g i
bytes-append (a ∷ s) t h g zero = h 0
bytes-append (a ∷ s) t h g (suc i) = bytes-append s t (λ k. h (suc k)) g i

pub bytes-joined : (n : ℕ) (f : ℕ → List ℕ) → ((d : ℕ) → d < n → Bytes (f d)) → Bytes (joined n f)
unfolding joined
bytes-joined zero f h i = omega arith
bytes-joined (suc n) f h i = bytes-append (joined n f) (f n) (bytes-joined n f (λ d l. h d (omega arith))) (h n (omega arith)) i

bytes-set : (s : List ℕ) (i v : ℕ) → Bytes s → v < 256 → Bytes (set s i v)
bytes-set s i v h l k =
    elim (ℕ_discrete k i) [
      | no q ↦ rw (get_or-set_other s i k v 0 q) (h k)
      | yes q ↦
          dite (dec_lt i (length s))
          (λ g. rw (q, get_or-set_same s i v 0 g) l)
          (λ g. rw (get_or-eq_default (set s i v) 0 {n = k} (omega (arith, length-set s i v))) (omega arith))
    ]

-- ---- a number

-- its low byte, and 256 x the rest
number_more : (s : List ℕ) (i w : ℕ) → number_at s i (suc w) ≡ byte s i + 256 * number_at s (i + 1) w
number_more s i zero = omega arith
number_more s i (suc w) = refl

-- its bytes alone make it
pub number_same : (s t : List ℕ) (i j w : ℕ) → ((k : ℕ) → k < w → byte s (i + k) ≡ byte t (j + k)) → number_at s i w ≡ number_at t j w
number_same s t i j zero h = refl
number_same s t i j (suc w) h =
    let low : byte s i ≡ byte t j = ap (byte s) (omega arith) ∙ h 0 (omega arith) ∙ ap (byte t) (omega arith) in
    let rest = number_same s t (i + 1) (j + 1) w (λ k l. ap (byte s) (omega arith) ∙ h (suc k) (omega arith) ∙ ap (byte t) (omega arith)) in
    number_more s i w ∙ ap₂ (λ a b. a + 256 * b) low rest ∙ sym (number_more t j w)

pub number_small : (s : List ℕ) (i w : ℕ) → Bytes s → number_at s i w < 256 ^ w
number_small s i zero h = omega arith
number_small s i (suc w) h = omega (arith, number_more s i w, h i, number_small s (i + 1) w h)

-- and it alone makes them
pub same_bytes : (s t : List ℕ) (i w : ℕ) → Bytes s → Bytes t → number_at s i w ≡ number_at t i w → (k : ℕ) → k < w → byte s (i + k) ≡ byte t (i + k)
same_bytes s t i zero h g e k l = absurd (omega arith)
same_bytes s t i (suc w) h g e zero l =
    let low : byte s i ≡ byte t i = omega (arith, number_more s i w, number_more t i w, h i, g i) in
    ap (byte s) (omega arith) ∙ low ∙ ap (byte t) (omega arith)
same_bytes s t i (suc w) h g e (suc k) l =
    let rest : number_at s (i + 1) w ≡ number_at t (i + 1) w = omega (arith, number_more s i w, number_more t i w, h i, g i) in
    ap (byte s) (omega arith) ∙ same_bytes s t (i + 1) w h g rest k (omega arith) ∙ ap (byte t) (omega arith)

-- ---- a number that is put

pub length-put : (s : List ℕ) (i w n : ℕ) → length (put_number s i w n) ≡ length s
unfolding put_number
length-put s i zero n = refl
length-put s i (suc w) n = length-put (set s i (n % 256)) (i + 1) w (n / 256) ∙ length-set s i (n % 256)

pub put-bytes : (s : List ℕ) (i w n : ℕ) → Bytes s → Bytes (put_number s i w n)
unfolding put_number
put-bytes s i zero n h = h
put-bytes s i (suc w) n h = put-bytes (set s i (n % 256)) (i + 1) w (n / 256) (bytes-set s i (n % 256) h (omega arith))

-- the bytes before it and behind it stay
pub put-before : (s : List ℕ) (i w n k : ℕ) → k < i → byte (put_number s i w n) k ≡ byte s k
unfolding put_number
put-before s i zero n k h = refl
put-before s i (suc w) n k h = put-before (set s i (n % 256)) (i + 1) w (n / 256) k (omega arith) ∙ get_or-set_other s i k (n % 256) 0 (omega arith)

pub put-behind : (s : List ℕ) (i w n k : ℕ) → i + w ≤ k → byte (put_number s i w n) k ≡ byte s k
unfolding put_number
put-behind s i zero n k h = refl
put-behind s i (suc w) n k h = put-behind (set s i (n % 256)) (i + 1) w (n / 256) k (omega arith) ∙ get_or-set_other s i k (n % 256) 0 (omega arith)

-- it is read back
pub put-read : (s : List ℕ) (i w n : ℕ) → i + w ≤ length s → n < 256 ^ w → number_at (put_number s i w n) i w ≡ n
unfolding put_number
put-read s i zero n h l = omega arith
put-read s i (suc w) n h l =
    let t = set s i (n % 256) in
    let low : byte (put_number t (i + 1) w (n / 256)) i ≡ n % 256 =
    put-before t (i + 1) w (n / 256) i (omega arith) ∙ get_or-set_same s i (n % 256) 0 (omega arith) in
    let rest = put-read t (i + 1) w (n / 256) (omega (arith, length-set s i (n % 256))) (omega arith) in
    number_more (put_number t (i + 1) w (n / 256)) i w ∙ omega arith

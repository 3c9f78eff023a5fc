-- A number of four bytes, byte by byte, and where it is 0; and a number that is put as its lowest bytes.
use mathlib.Core.Path.{◌≡◌, refl, sym, ap, ap₂, ◌∙◌}
use mathlib.Core.List.{List, [], ◌∷◌, ◌++◌, append_assoc}
use Prim.Native.Nat.{ℕ, zero, suc, ◌+◌, ◌*◌, ◌/◌, ◌%◌, ◌≤◌, ◌<◌}
use native.Mathlib.Nat.{add-zero}
use native.Mathlib.Numerals.{add-one}
use native.Mathlib.Omega.{arith}
use lib.ListN.{length, get_or, set, take, drop, length-set}
use lib.Seq.{take-suc-set, drop-drop, drop-set-lt, get_or-take, get_or-drop}
use Rattle.std.specs.Int.{w32, to_le_bytes, from_le_bytes, byte_at}
use Rattle.std.proofs.lemmas.List.{take-append-drop}
use Rattle.plan.specs.Block.{byte, number_at}
use Rattle.plan.specs.Inner.File.{put_number}

pub four_bytes : (s : List ℕ) (i : ℕ) → byte s i + 256 * (byte s (i + 1) + 256 * (byte s (i + 2) + 256 * byte s (i + 3))) ≡ number_at s i 4
four_bytes s i =
    let third : byte s (i + 2) ≡ byte s (i + 1 + 1) = ap (byte s) (omega arith) in
    let fourth : byte s (i + 3) ≡ byte s (i + 1 + 1 + 1) = ap (byte s) (omega arith) in
    omega (arith, third, fourth)

pub four-zeros : (s : List ℕ) (i : ℕ) → number_at s i 4 ≡ 0 → (k : ℕ) → k < 4 → byte s (i + k) ≡ 0
four-zeros s i e zero l = let first : byte s (i + 0) ≡ byte s i = ap (byte s) (omega arith) in omega (arith, four_bytes s i)
four-zeros s i e (suc zero) l = omega (arith, four_bytes s i)
four-zeros s i e (suc (suc zero)) l = omega (arith, four_bytes s i)
four-zeros s i e (suc (suc (suc zero))) l = omega (arith, four_bytes s i)
four-zeros s i e (suc (suc (suc (suc k)))) l = absurd (omega arith)

-- a number is put as a word of its lowest bytes
low : ℕ → ℕ → List ℕ
low zero n = []
low (suc w) n = n % 256 ∷ low w (n / 256)

put-low : (s : List ℕ) (i w n : ℕ) → i + w ≤ length s → take i s ++ (low w n ++ drop (i + w) s) ≡ put_number s i w n
unfolding low put_number
put-low s i zero n h = rw add-zero (take-append-drop i s)
put-low s i (suc w) n h =
    let t = set s i (n % 256) in
    let e : i + 1 + w ≡ i + suc w = omega arith in
    let front : take (i + 1) t ≡ take i s ++ n % 256 ∷ [] = rw add-one (take-suc-set s i (n % 256) (omega arith)) in
    let behind : drop (i + 1 + w) t ≡ drop (i + suc w) s = drop-set-lt (i + 1 + w) s i (n % 256) (omega arith) ∙ ap (λ k. drop k s) e in
    sym (append_assoc (take i s) (n % 256 ∷ []) (low w (n / 256) ++ drop (i + suc w) s))
    ∙ ap₂ (λ (k l : List ℕ). k ++ (low w (n / 256) ++ l)) (sym front) (sym behind)
    ∙ put-low t (i + 1) w (n / 256) (omega (arith, length-set s i (n % 256)))

low_bytes : (w n : ℕ) → w ≤ 4 → take w (to_le_bytes w32 n) ≡ low w n
unfolding low
low_bytes w n h =
    let one : byte_at 0 n ≡ n % 256 = omega arith in
    let two : byte_at 1 n ≡ n / 256 % 256 = omega arith in
    let three : byte_at 2 n ≡ n / 256 / 256 % 256 = omega arith in
    let four : byte_at 3 n ≡ n / 256 / 256 / 256 % 256 = omega arith in
    ap (take w) (λ i. one i ∷ two i ∷ three i ∷ four i ∷ []) ∙ cut w n h
  where
    cut : (w n : ℕ) → w ≤ 4 → take w (low 4 n) ≡ low w n
    cut zero n h = refl
    cut (suc zero) n h = refl
    cut (suc (suc zero)) n h = refl
    cut (suc (suc (suc zero))) n h = refl
    cut (suc (suc (suc (suc zero)))) n h = refl
    cut (suc (suc (suc (suc (suc w))))) n h = absurd (omega arith)

pub put-bytes : (s : List ℕ) (i w n : ℕ) → w ≤ 4 → i + w ≤ length s → take i s ++ (take w (to_le_bytes w32 n) ++ drop w (drop i s)) ≡ put_number s i w n
put-bytes s i w n h g = ap₂ (λ (k l : List ℕ). take i s ++ (k ++ l)) (low_bytes w n h) (drop-drop w i s) ∙ put-low s i w n g

-- so is a word of four bytes read
module _ (s : List ℕ) (i : ℕ) where
  abbrev word : List ℕ
  word = take 4 (drop i s)

  in-word : (k : ℕ) → k < 4 → get_or word k 0 ≡ byte s (i + k)
  in-word k h = get_or-take 4 (drop i s) k 0 h ∙ get_or-drop i s k 0

  word-sum : from_le_bytes w32 word ≡ get_or word 0 0 + get_or word 1 0 * 256 + get_or word 2 0 * 65536 + get_or word 3 0 * 16777216
  word-sum = refl

  pub word-number : from_le_bytes w32 (take 4 (drop i s)) ≡ number_at s i 4
  word-number =
      let first : byte s (i + 0) ≡ byte s i = ap (byte s) (omega arith) in
      word-sum ∙ omega (arith, first, in-word 0 (omega arith), in-word 1 (omega arith), in-word 2 (omega arith), in-word 3 (omega arith), four_bytes s i)

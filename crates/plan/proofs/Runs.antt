-- A list in runs of m: what it is made of, and its runs where it is joined of lists of m.
use mathlib.Core.Path.{◌≡◌, sym, ap, ◌∙◌}
use mathlib.Core.List.{List, ◌++◌}
use mathlib.Core.Logic.{dite}
use Prim.Native.Nat.{ℕ, zero, suc, ◌+◌, ◌*◌, ◌≤◌, ◌<◌}
use native.Mathlib.Decide.{ℕ_discrete, dec_lt}
use native.Mathlib.Nat.{mul-suc, mul-zero, mul-le-mul_left}
use native.Mathlib.Omega.{arith}
use lib.ListN.{length, get_or, take, drop, length-drop, length-take, get_or-eq_default}
use lib.Seq.{take-add, take_all, take_at, drop_at, take-append-le, drop-append-le, drop-append-add, drop-drop, get_or-take, get_or-drop, length-take-le}
use Rattle.lists.specs.Table.{joined}
use Rattle.lists.proofs.Tables.{length-joined, same-joined}
use Rattle.plan.specs.Block.{block}

-- n runs of m
pub take_runs : (m n : ℕ) (s : List ℕ) → take (m * n) s ≡ joined n (λ d. take m (drop (m * d) s))
unfolding joined
take_runs m zero s = ap (λ k. take k s) (mul-zero m)
take_runs m (suc n) s =
    ap (λ k. take k s) (mul-suc m n) ∙ take-add (m * n) m s ∙ ap (λ l. l ++ take m (drop (m * n) s)) (take_runs m n s)

-- run d of lists of m joined is the list d
pub run-joined : (m n : ℕ) (f : ℕ → List ℕ) → ((d : ℕ) → d < n → length (f d) ≡ m) → (d : ℕ) → d < n → take m (drop (m * d) (joined n f)) ≡ f d
unfolding joined
run-joined m zero f e d h = absurd (omega arith)
run-joined m (suc n) f e d h =
    let long : length (joined n f) ≡ m * n = length-joined m f n (λ b l. e b (omega arith)) in
    elim (ℕ_discrete d n) [
      | yes q ↦ rw (q, drop_at (joined n f) (f n) (m * n) long) (take_all m (f n) (omega (arith, e n (omega arith))))
      | no q ↦
          let whole : m * suc d ≤ m * n = mul-le-mul_left m (omega arith) in
          let more : m * d + m ≤ length (joined n f) = omega (arith, mul-suc m d) in
          rw (drop-append-le (m * d) (joined n f) (f n) (omega arith), take-append-le m (drop (m * d) (joined n f)) (f n) (omega (arith, length-drop (m * d) (joined n f))))
          (run-joined m n f (λ b l. e b (omega arith)) d (omega arith))
    ]

-- ---- a file: block 0, and n blocks

module _ (head rest : List ℕ) (e : length head ≡ 512) where
  pub first_block : block (head ++ rest) 0 ≡ head
  unfolding block
  first_block = take_at head rest 512 e

  pub later-block : (d : ℕ) → block (head ++ rest) (1 + d) ≡ block rest d
  unfolding block
  later-block d =
      let k : 512 * (1 + d) ≡ length head + 512 * d = omega arith in
      rw (k, drop-append-add)

pub whole-file : (file : List ℕ) (n : ℕ) → length file ≡ 512 * (1 + n) → file ≡ block file 0 ++ joined n (λ d. block file (1 + d))
unfolding block
whole-file file n e =
    let k : 512 * (1 + n) ≡ 512 + 512 * n = omega arith in
    sym (take_all (512 * (1 + n)) file (omega arith)) ∙ ap (λ k. take k file) k ∙ take-add 512 (512 * n) file
    ∙ ap (λ l. take 512 file ++ l) (take_runs 512 n (drop 512 file)
    ∙ same-joined n (λ d. take 512 (drop (512 * d) (drop 512 file))) (λ d. take 512 (drop (512 * (1 + d)) file))
    (λ d h. let j : 512 * (1 + d) ≡ 512 + 512 * d = omega arith in rw (drop-drop, j)))

-- ---- the bytes of a block

module _ (file : List ℕ) (b : ℕ) where
  pub length-block : 512 * (1 + b) ≤ length file → length (block file b) ≡ 512
  unfolding block
  length-block h = length-take-le 512 (drop (512 * b) file) (omega (arith, length-drop (512 * b) file))

  pub block-bytes : ((i : ℕ) → get_or file i 0 < 256) → (i : ℕ) → get_or (block file b) i 0 < 256
  unfolding block
  block-bytes h i =
      dite (dec_lt i 512)
      (λ l. rw (get_or-take 512 (drop (512 * b) file) i 0 l, get_or-drop) (h (512 * b + i)))
      (λ l. rw (get_or-eq_default (take 512 (drop (512 * b) file)) 0 {n = i} (omega (arith, length-take 512 (drop (512 * b) file)))) (omega arith))

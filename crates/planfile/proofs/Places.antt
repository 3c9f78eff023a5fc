-- A block's bytes and numbers, read in the file itself.
use mathlib.Core.Path.{◌≡◌, sym, ap, ap₂, ◌∙◌}
use mathlib.Core.Bool.{cond}
use mathlib.Core.List.{List, []}
use Prim.Native.Nat.{ℕ, zero, suc, ◌+◌, ◌*◌, ◌/◌, ◌≤◌, ◌<◌}
use native.Mathlib.Nat.{mul-suc, mul-zero}
use native.Mathlib.Omega.{arith}
use lib.Dec.{eqb}
use lib.ListN.{length, get_or, take, drop}
use lib.Seq.{get_or-take, get_or-drop, drop-drop}
use Rattle.std.specs.Simd.{first_chunks}
use Rattle.plan.specs.Block.{block, byte, number_at}
use Rattle.plan.specs.Fields.{entry, bar_in, nobody, peer_number}
use Rattle.plan.specs.Refusals.{device_block, count_in, master_in}
use Rattle.plan.proofs.Bytes.{number_same}

-- the runs of n bytes that stand one behind the other
pub runs : (n k b : ℕ) (xs : List ℕ) → b < k → get_or (first_chunks n k xs) b [] ≡ take n (drop (n * b) xs)
runs n zero b xs h = absurd (omega arith)
runs n (suc k) zero xs h = ap (λ j. take n (drop j xs)) (sym (mul-zero n))
runs n (suc k) (suc b) xs h = runs n k b (drop n xs) (omega arith) ∙ ap (take n) (drop-drop (n * b) n xs ∙ ap (λ j. drop j xs) (omega (arith, mul-suc n b)))

-- block b is one of them
pub run-block : (file : List ℕ) (b : ℕ) → b < length file / 512 → get_or (first_chunks 512 (length file / 512) file) b [] ≡ block file b
unfolding block
run-block file b h = runs 512 (length file / 512) b file h

module _ (file : List ℕ) (b : ℕ) where
  pub byte-in : (i : ℕ) → i < 512 → byte (block file b) i ≡ byte file (512 * b + i)
  unfolding block
  byte-in i h = get_or-take 512 (drop (512 * b) file) i 0 h ∙ get_or-drop (512 * b) file i 0

  pub number_in : (i w : ℕ) → i + w ≤ 512 → number_at (block file b) i w ≡ number_at file (512 * b + i) w
  number_in i w h = number_same (block file b) file i (512 * b + i) w (λ k l. byte-in (i + k) (omega arith) ∙ ap (byte file) (omega arith))

  pub entry_in : (p j : ℕ) → p < 8 → j < 4 → entry (block file b) p j ≡ byte file (512 * b + 12 + 4 * p + j)
  entry_in p j h g = byte-in (12 + 4 * p + j) (omega arith) ∙ ap (byte file) (omega arith)

  pub bar-in : (j : ℕ) → j < 16 → bar_in (block file b) j ≡ number_at file (512 * b + 44 + 4 * j) 4
  bar-in j h = number_in (44 + 4 * j) 4 (omega arith) ∙ ap (λ i. number_at file i 4) (omega arith)

-- the peer of port p of device d, of the two bytes that say it
pub peer-in : (file : List ℕ) (d p x y : ℕ) → p < 8 → x ≡ byte file (512 * (1 + d) + 12 + 4 * p + 0) → y ≡ byte file (512 * (1 + d) + 12 + 4 * p + 1)
    → peer_number (device_block file d) p ≡ cond (eqb x 255) nobody (8 * x + y)
unfolding peer_number
peer-in file d p x y h e g =
    ap₂ (λ (x y : ℕ). cond (eqb x 255) nobody (8 * x + y))
    (entry_in file (1 + d) p 0 h (omega arith) ∙ sym e)
    (entry_in file (1 + d) p 1 h (omega arith) ∙ sym g)

-- the number of devices, and the master
pub count-in : (file : List ℕ) → count_in file ≡ byte file 1
count-in file = byte-in file 0 1 (omega arith)

pub master-in : (file : List ℕ) → master_in file ≡ byte file 10
master-in file = byte-in file 0 10 (omega arith)

-- byte 1 is the number of devices
pub counted : (file : List ℕ) {n : ℕ} → n ≡ byte file 1 → n ≡ count_in file
counted file e = e ∙ sym (byte-in file 0 1 (omega arith))

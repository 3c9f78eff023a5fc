-- From an accepted file to its plan: the plan has the shape of its types, is right in memory, and is written as that file.
use mathlib.Core.Path.{◌≡◌, refl, ap, ◌∙◌}
use mathlib.Core.Bool.{Bool, true, false, cond}
use mathlib.Core.List.{List, [], ◌∷◌}
use mathlib.Core.Logic.{dite}
use Prim.Native.Nat.{ℕ, zero, suc, ◌+◌, ◌*◌, ◌/◌, ◌%◌, ◌<◌}
use native.Mathlib.Decide.{dec_lt}
use native.Mathlib.Omega.{arith}
use lib.Dec.{eqb, ltb}
use lib.ListN.{length, get_or-eq_default}
use Rattle.lists.specs.Table.{table, joined}
use Rattle.lists.proofs.Tables.{length-table, get_d-table, length-joined, get_d-joined}
use Rattle.plan.specs.Block.{block}
use Rattle.plan.specs.Fields.{entry, nobody, peer_number}
use Rattle.plan.specs.Refusals.{device_block, count_in, peer_of, verdict, accepts}
use Rattle.plan.specs.Reading.{column, plan_of}
use Rattle.plan.specs.Inner.Memory.{at, right}
use Rattle.plan.specs.Inner.File.{file_of}
use Rattle.plan.proofs.Shape.{Numbers, Shaped}
use Rattle.plan.proofs.Good.{Good, good}
use Rattle.plan.proofs.Runs.{block-bytes}
use Rattle.plan.proofs.Bytes.{Bytes, number_small}
use Rattle.plan.proofs.Match.{match-of, match-right, match-file}

-- ---- tables of small numbers

small-either : (t : Bool) (a b : ℕ) {k : ℕ} → a < k → b < k → cond t a b < k
small-either true a b h l = h
small-either false a b h l = l

numbers-table : (n : ℕ) (f : ℕ → ℕ) (k : ℕ) → 0 < k → ((i : ℕ) → f i < k) → Numbers (table n f) n k
numbers-table n f k h l =
    record {
      long = length-table n f;
      small = λ i. dite (dec_lt i n)
          (λ g. rw (get_d-table n f i 0 g) (l i))
          (λ g. rw (get_or-eq_default (table n f) 0 {n = i} (omega (arith, length-table n f))) h);
    }

numbers-two : (a b : ℕ) (l : List ℕ) (n k : ℕ) → a < k → b < k → Numbers l n k → Numbers (a ∷ b ∷ l) (2 + n) k
numbers-two a b l n k h g rest = record { long = omega (arith, rest.long); small = small }
  where
    small : (i : ℕ) → at (a ∷ b ∷ l) i < k
    small zero = h
    small (suc zero) = g
    small (suc (suc i)) = rest.small i

numbers-pairs : (n : ℕ) (f g : ℕ → ℕ) (k : ℕ) → ((i : ℕ) → f i < k) → ((i : ℕ) → g i < k) → Numbers (joined n (λ d. f d ∷ g d ∷ [])) (2 * n) k
numbers-pairs n f g k h l =
    let pair : ℕ → List ℕ = λ d. f d ∷ g d ∷ [] in
    let two : (d : ℕ) → Numbers (pair d) 2 k = λ d. numbers-two (f d) (g d) [] 0 k (h d) (l d) (record { long = refl; small = λ i. omega (arith, h d) }) in
    let long : length (joined n pair) ≡ 2 * n = length-joined 2 pair n (λ d j. refl) in
    record {
      long = long;
      small = λ i. dite (dec_lt i (2 * n))
          (λ m. let e : i ≡ 2 * (i / 2) + i % 2 = omega arith in
          rw (ap (at (joined n pair)) e ∙ get_d-joined 2 pair n (λ d j. refl) (i / 2) (i % 2) 0 (omega arith) (omega arith)) ((two (i / 2)).small (i % 2)))
          (λ m. rw (get_or-eq_default (joined n pair) 0 {n = i} (omega (arith, long))) (omega (arith, h 0)));
    }

numbers-column : (n : ℕ) (f : ℕ → ℕ) (k : ℕ) → 0 < k → ((i : ℕ) → f i < k) → Numbers (column n f) 32 k
unfolding column
numbers-column n f k h l = numbers-table 32 _ k h (λ d. small-either (ltb d n) (f d) 0 (l d) h)

small-peer : (s : List ℕ) → Bytes s → (p : ℕ) → peer_number s p < 65536
unfolding peer_number
small-peer s h p =
    small-either (eqb (entry s p 0) 255) nobody (8 * entry s p 0 + entry s p 1) (omega arith) (omega (arith, h (12 + 4 * p + 0), h (12 + 4 * p + 1)))

-- ---- the plan of a file of bytes

module _ (file : List ℕ) (small : Bytes file) where
  pub shaped : Shaped (plan_of file)
  unfolding plan_of
  shaped =
      let head = block-bytes file 0 small in
      let row : (d : ℕ) → Bytes (device_block file d) = λ d. block-bytes file (1 + d) small in
      record {
        events = number_small (block file 0) 6 4 head;
        loads = numbers-two _ _ _ 64 65536 (number_small (block file 0) 4 2 head) (number_small (block file 0) 2 2 head)
            (numbers-pairs 32 _ _ 65536 (λ k. number_small (block file 0) (18 + 4 * k) 2 head) (λ k. number_small (block file 0) (16 + 4 * k) 2 head));
        role = numbers-column _ _ 256 (omega arith) (λ d. row d 2);
        ports = numbers-column _ _ 256 (omega arith) (λ d. row d 3);
        source = numbers-column _ _ 4294967296 (omega arith) (λ d. number_small (device_block file d) 4 4 (row d));
        handler = numbers-column _ _ 4294967296 (omega arith) (λ d. number_small (device_block file d) 8 4 (row d));
        permissions = numbers-table 256 _ 256 (omega arith) (λ q. small-either (ltb (q / 8) (count_in file)) _ 0 (row (q / 8) (12 + 4 * (q % 8) + 2)) (omega arith));
        rows = length-table 32 _;
        row = λ d h. rw (get_d-table 32 (λ e. table 8 (λ p. cond (ltb e (count_in file)) (peer_of file e p) nobody)) d [] h)
            (numbers-table 8 _ 65536 (omega arith) (λ p. small-either (ltb d (count_in file)) _ nobody (small-peer (device_block file d) (row d) p) (omega arith)));
        barred = numbers-table 512 _ 4294967296 (omega arith)
            (λ i. small-either (ltb (i / 16) (count_in file)) _ 0 (number_small (device_block file (i / 16)) (44 + 4 * (i % 16)) 4 (row (i / 16))) (omega arith));
      }

  module _ (e : verdict file ≡ accepts) where
    found : Good file
    found = good file e

    pub read_right : right (plan_of file) ≡ true
    read_right = match-right (plan_of file) file (match-of file) found

    pub read-file : file_of (plan_of file) ≡ file
    read-file = match-file (plan_of file) file (match-of file) found small

-- Damaged blocks rebuilt: the block of a device as a router, and the blocks of an area one after the other.
use mathlib.Core.Path.{◌≡◌, refl, sym, ap, ◌∙◌}
use mathlib.Core.Bool.{Bool, true, false, cond}
use mathlib.Core.List.{List, [], ◌++◌, append-nil, append_assoc}
use Prim.Native.Nat.{ℕ, ◌+◌, ◌*◌, ◌≤◌, ◌<◌}
use native.Mathlib.Numerals.{add-one}
use native.Mathlib.Omega.{arith}
use lib.ListN.{length, take, drop, replicate, get_or-replicate, length-append, length-drop, take-append-drop, drop_of_length-le}
use lib.Seq.{take_at, drop-drop, drop-append-add}
use Rattle.lists.specs.Table.{table, joined}
use Rattle.lists.proofs.Tables.{get_d-table}
use Rattle.plan.specs.Block.{block}
use Rattle.plan.specs.Inner.File.{block_of, device_holdings}
use Rattle.plan.specs.Inner.Memory.{at}
use Rattle.plan.specs.Header.{core_with, no_header}
use Rattle.plan.specs.declared.Core.{Core}
use Rattle.mend.specs.Inner.Steps.{marked_at, ports_in, row_in, router_in, router_of, routers_over}
use Rattle.mend.proofs.Rebuilt.{router-holdings}

-- the numbers and the peers of routers, by who claims each port
abbrev router_core : List ℕ → Core
router_core claimants = core_with no_header (replicate 32 1) (table 32 (ports_in claimants)) (replicate 32 0) (replicate 32 0) (replicate 256 0)

abbrev router_peers : List ℕ → List (List ℕ)
router_peers claimants = table 32 (row_in claimants)

-- the block of a device that is made of them is its block as a router
abbrev router_block : List ℕ → ℕ → List ℕ
router_block claimants d = block_of (device_holdings (router_core claimants) (router_peers claimants) (replicate 512 0) d)

zero-at : (n i : ℕ) → i < n → at (replicate n 0) i ≡ 0
zero-at n i h = get_or-replicate n i 0 0 h

made-router : (claimants : List ℕ) (d : ℕ) → d < 32 → router_block claimants d ≡ router_in claimants d
unfolding router_in row_in
made-router claimants d h =
    ap block_of
    (router-holdings (router_core claimants) (router_peers claimants) (replicate 512 0) d (ports_in claimants d) (λ p. at claimants (8 * d + p)) (get_or-replicate 32 d 1 0 h)
    (get_d-table 32 (ports_in claimants) d 0 h) (zero-at 32 d h) (zero-at 32 d h)
    (λ p l. ap (λ row. at row p) (get_d-table 32 (row_in claimants) d [] h) ∙ get_d-table 8 _ p 0 l)
    (λ p l. zero-at 256 (8 * d + p) (omega arith)) (λ j l. zero-at 512 (16 * d + j) (omega arith)))

-- behind a front of whole blocks the next one stays or is made, and what is behind that stays
module _ (mark : Bool) (core : Core) (peers : List (List ℕ)) (d : ℕ) (front rest : List ℕ) (e : length front ≡ 512 * (1 + d)) where
  abbrev made : List ℕ
  made = block_of (device_holdings core peers (replicate 512 0) d)

  put-behind : router_of mark core peers d (front ++ rest) ≡ front ++ cond mark made (take 512 rest) ++ drop 512 rest
  unfolding router_of
  put-behind = by-test mark
    where
      by-test : (t : Bool) → cond t (take (512 * (1 + d)) (front ++ rest) ++ made ++ drop (512 * (2 + d)) (front ++ rest)) (front ++ rest) ≡ front ++ cond t made (take 512 rest) ++ drop 512 rest
      by-test false = sym (append_assoc front (take 512 rest) (drop 512 rest) ∙ ap (λ l. front ++ l) (take-append-drop 512 rest))
      by-test true =
          let k : 512 * (2 + d) ≡ length front + 512 = omega arith in
          rw (take_at front rest (512 * (1 + d)) e, k, drop-append-add)

-- rebuilt over a block more
more-over : (claimants : List ℕ) (damaged : List Bool) (before : List ℕ) (d : ℕ) → d < 32
    → routers_over claimants damaged (d + 1) before ≡ routers_over claimants damaged d before ++ cond (marked_at damaged d) (router_block claimants d) (take 512 (drop (512 * (1 + d)) before))
unfolding routers_over joined block
more-over claimants damaged before d h =
    rw (add-one, made-router claimants d h) (sym (append_assoc (block before 0) (joined d _) _))

-- the blocks of the first d of n devices are rebuilt where they are marked, and what is behind them is as before
pub record Over (claimants : List ℕ) (damaged : List Bool) (before : List ℕ) (n d : ℕ) (area : List ℕ) : Type 0 where
  pub within : d ≤ n
  pub whole : length before ≡ 512 * (1 + n)
  pub long : length area ≡ length before
  pub same : area ≡ routers_over claimants damaged d before ++ drop (512 * (1 + d)) before

module _ {claimants : List ℕ} {damaged : List Bool} {before : List ℕ} {n : ℕ} where
  pub over_none : length before ≡ 512 * (1 + n) → Over claimants damaged before n 0 before
  unfolding routers_over joined block
  over_none e =
      record {
        within = omega arith;
        whole = e;
        long = refl;
        same = sym (rw (append-nil (take 512 before)) (take-append-drop 512 before));
      }

  -- a device more
  pub over-more : {core : Core} {peers : List (List ℕ)} {d : ℕ} {area after : List ℕ} → Over claimants damaged before n d area
      → d < n → d < 32 → core ≡ router_core claimants → peers ≡ router_peers claimants
      → after ≡ router_of (marked_at damaged d) core peers d area → length after ≡ length area → Over claimants damaged before n (d + 1) after
  over-more {d} v h m e f made long =
      let front = routers_over claimants damaged d before in
      let rest = drop (512 * (1 + d)) before in
      let size : length front ≡ 512 * (1 + d) =
      omega (arith, ap length v.same, length-append front rest, length-drop (512 * (1 + d)) before) in
      let k : 512 * (1 + d) + 512 ≡ 512 * (1 + (d + 1)) = omega arith in
      record {
        within = omega arith;
        whole = v.whole;
        long = long ∙ v.long;
        same =
            rw (made, e, f, v.same) (put-behind (marked_at damaged d) _ _ d front rest size
            ∙ rw (more-over claimants damaged before d m, drop-drop, k));
      }

  -- all of them
  pub over-all : {d : ℕ} {area : List ℕ} → Over claimants damaged before n d area → n ≤ d → area ≡ routers_over claimants damaged n before
  over-all {d} v h =
      let e : d ≡ n = omega arith in
      let l : length before ≤ 512 * (1 + n) = omega arith in
      v.same ∙ rw (e, drop_of_length-le) (append-nil (routers_over claimants damaged n before))

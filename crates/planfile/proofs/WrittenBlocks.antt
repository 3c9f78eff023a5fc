-- What the writer leaves in an area: block after block.
use mathlib.Core.Path.{◌≡◌, sym, ap, ap₂, ◌∙◌}
use mathlib.Core.List.{List, ◌++◌, append-nil, append_assoc}
use Prim.Native.Nat.{ℕ, ◌+◌, ◌*◌, ◌≤◌, ◌<◌}
use native.Mathlib.Numerals.{add-one}
use native.Mathlib.Omega.{arith}
use lib.ListN.{length, take, replicate, length-append, length-replicate, get_or-replicate}
use lib.Seq.{take_at, take_all, length-take-le}
use Rattle.lists.specs.Table.{joined}
use Rattle.lists.proofs.Tables.{is-table}
use Rattle.plan.specs.Header.{header_of}
use Rattle.plan.specs.Inner.File.{Holding, filled, cleared, sealed, block_of, common_holdings, pair_holdings, header_holdings, own_holdings, entry_holdings, bar_holdings, device_holdings, file_of}
use Rattle.plan.specs.Inner.Memory.{at, peer_at}
use Rattle.plan.specs.declared.Core.{Core}
use Rattle.plan.specs.declared.Header.{Header}
use Rattle.plan.proofs.Holdings.{filled-append, length-made}

abbrev header_block : Core → List ℕ
header_block core = block_of (header_holdings (header_of core))

abbrev device_block : Core → List (List ℕ) → List ℕ → ℕ → List ℕ
device_block core peers barred d = block_of (device_holdings core peers barred d)

-- a block of zeros
pub clean : replicate 512 0 ≡ cleared
unfolding cleared
clean = let zero : ℕ = 0 in is-table 512 (λ i. 0) (replicate 512 zero) zero (length-replicate 512 zero) (λ i h. get_or-replicate 512 i zero zero h)

-- a block that is cleared, given the numbers of block 0, those of the pairs behind the others, and sealed
pub header_made : (h : Header) {clean first second after : List ℕ} → clean ≡ cleared → first ≡ filled clean (common_holdings h)
    → second ≡ filled first (joined 32 (pair_holdings h.loads)) → after ≡ sealed second → after ≡ block_of (header_holdings h)
unfolding header_holdings
header_made h z p q s =
    let pairs = joined 32 (pair_holdings h.loads) in
    s ∙ ap sealed (q ∙ ap (λ t. filled t pairs) (p ∙ ap (λ t. filled t (common_holdings h)) z) ∙ sym (filled-append cleared (common_holdings h) pairs))

-- a block that is cleared, given a device's own numbers, its entries and what they bar, and sealed
module _ (core : Core) (peers : List (List ℕ)) (barred : List ℕ) (d : ℕ) where
  abbrev own : List Holding
  own = own_holdings d (at core.role d) (at core.ports d) (at core.source d) (at core.handler d)

  abbrev entries : List Holding
  entries = joined 8 (λ p. entry_holdings p (peer_at peers d p) (at core.permissions (8 * d + p)))

  abbrev bars : List Holding
  bars = joined 16 (λ j. bar_holdings j (at barred (16 * d + j)))

  pub device-made : {clean first second third after : List ℕ} → clean ≡ cleared → first ≡ filled clean own → second ≡ filled first entries → third ≡ filled second bars
      → after ≡ sealed third → after ≡ device_block core peers barred d
  unfolding device_holdings
  device-made z p q r s =
      let entered = q ∙ ap (λ t. filled t entries) (p ∙ ap (λ t. filled t own) z) ∙ sym (filled-append cleared own entries) in
      s ∙ ap sealed (r ∙ ap (λ t. filled t bars) entered ∙ sym (filled-append cleared (own ++ entries) bars))

-- the first d devices' blocks stand behind block 0
pub record Blocks (core : Core) (peers : List (List ℕ)) (barred area : List ℕ) (d : ℕ) : Type 0 where
  pub within : d ≤ core.devices
  pub long : length area ≡ 512 * (1 + core.devices)
  pub same : take (512 * (1 + d)) area ≡ header_block core ++ joined d (λ k. device_block core peers barred k)

module _ {core : Core} {peers : List (List ℕ)} {barred : List ℕ} where
  -- block 0 alone
  pub first_block : {area : List ℕ} (part post : List ℕ) → length area ≡ 512 * (1 + core.devices) → part ≡ header_block core
      → area ≡ part ++ post → Blocks core peers barred area 0
  unfolding joined
  first_block {area} part post long p e =
      record {
        within = omega arith;
        long = long;
        same = ap (λ (l : List ℕ). take 512 l) e ∙ take_at part post 512 (ap length p ∙ length-made (header_holdings (header_of core))) ∙ p ∙ sym (append-nil (header_block core));
      }

  -- a block more
  pub next-block : {area after : List ℕ} {d : ℕ} (part post : List ℕ) → Blocks core peers barred area d → d < core.devices
      → part ≡ device_block core peers barred d → length after ≡ length area → after ≡ take (512 * (1 + d)) area ++ (part ++ post)
      → Blocks core peers barred after (d + 1)
  unfolding joined
  next-block {area} {after} {d} part post v h p long e =
      let front : length (take (512 * (1 + d)) area) ≡ 512 * (1 + d) = length-take-le (512 * (1 + d)) area (omega (arith, v.long)) in
      let size : length (take (512 * (1 + d)) area ++ part) ≡ 512 * (1 + (d + 1)) =
      length-append (take (512 * (1 + d)) area) part ∙ omega (arith, front, ap length p, length-made (device_holdings core peers barred d))
      in
      record {
        within = omega arith;
        long = long ∙ v.long;
        same =
            ap (λ (l : List ℕ). take (512 * (1 + (d + 1))) l) (e ∙ sym (append_assoc (take (512 * (1 + d)) area) part post))
            ∙ take_at (take (512 * (1 + d)) area ++ part) post (512 * (1 + (d + 1))) size
            ∙ ap₂ (λ (k l : List ℕ). k ++ l) v.same p ∙ rw add-one (append_assoc (header_block core) (joined d _) _);
      }

  -- all of them
  pub whole-file : {area : List ℕ} {d : ℕ} → Blocks core peers barred area d → core.devices ≤ d → area ≡ file_of (record { core = core; peers = peers; barred = barred })
  unfolding file_of
  whole-file {area} {d} v h =
      let e : d ≡ core.devices = omega arith in
      sym (take_all (512 * (1 + d)) area (omega (arith, v.long))) ∙ v.same
      ∙ ap (λ (k : ℕ). header_block core ++ joined k (λ i. device_block core peers barred i)) e

-- The blocks of a mended file: block 0 and the good blocks as they were, the others rebuilt.
use mathlib.Core.Path.{◌≡◌, ap, ◌∙◌}
use mathlib.Core.Bool.{Bool, true, false, cond}
use mathlib.Core.List.{List}
use Prim.Native.Nat.{ℕ, ◌+◌, ◌*◌, ◌<◌}
use native.Mathlib.Omega.{arith}
use lib.ListN.{length, length-append}
use Rattle.lists.specs.Table.{joined}
use Rattle.lists.proofs.Tables.{length-joined}
use Rattle.plan.specs.Block.{block, number_in}
use Rattle.plan.specs.Header.{devices_field, master_field, events_field}
use Rattle.plan.specs.Refusals.{device_block, count_in, master_in, events_in}
use Rattle.plan.proofs.Holdings.{length-made}
use Rattle.plan.proofs.Runs.{first_block, later-block, run-joined, length-block}
use Rattle.mend.specs.Claims.{damaged, claimant}
use Rattle.mend.specs.Mended.{router_holdings, ports_for, rebuilt, mended}
use Rattle.mend.specs.Inner.Steps.{Fronted}

module _ (file : List ℕ) (front : Fronted file) where
  -- what stands in the place of a device's block
  abbrev pub piece : ℕ → List ℕ
  piece d = cond (damaged file d) (rebuilt file d) (device_block file d)

  length-head : length (block file 0) ≡ 512
  length-head = length-block file 0 (omega (arith, front.long))

  length-piece : (d : ℕ) → d < count_in file → length (piece d) ≡ 512
  unfolding rebuilt
  length-piece d h = by-test (damaged file d)
    where
      by-test : (b : Bool) → length (cond b (rebuilt file d) (device_block file d)) ≡ 512
      by-test true = length-made (router_holdings d (ports_for file d) (λ p. claimant file (8 * d + p)))
      by-test false = length-block file (1 + d) (omega (arith, front.long))

  abbrev pieces : List ℕ
  pieces = joined (count_in file) piece

  pub mended-long : length (mended file) ≡ length file
  unfolding mended
  mended-long =
      length-append (block file 0) pieces
      ∙ omega (arith, length-head, length-joined 512 piece (count_in file) length-piece, front.long)

  pub mended-header : block (mended file) 0 ≡ block file 0
  unfolding mended
  mended-header = first_block (block file 0) pieces length-head

  pub mended-block : (d : ℕ) → d < count_in file → device_block (mended file) d ≡ piece d
  unfolding mended block
  mended-block d h = later-block (block file 0) pieces length-head d ∙ run-joined 512 (count_in file) piece length-piece d h

  pub mended-good : (d : ℕ) → d < count_in file → damaged file d ≡ false → device_block (mended file) d ≡ device_block file d
  mended-good d h e = mended-block d h ∙ rw e

  pub mended-rebuilt : (d : ℕ) → d < count_in file → damaged file d ≡ true → device_block (mended file) d ≡ rebuilt file d
  mended-rebuilt d h e = mended-block d h ∙ rw e

  -- block 0 says what it said
  pub mended-count : count_in (mended file) ≡ count_in file
  mended-count = ap (λ s. number_in s devices_field) mended-header

  pub mended-master : master_in (mended file) ≡ master_in file
  mended-master = ap (λ s. number_in s master_field) mended-header

  pub mended-events : events_in (mended file) ≡ events_in file
  mended-events = ap (λ s. number_in s events_field) mended-header

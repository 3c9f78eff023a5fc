-- The parts of a plan, as the loops make them.
use mathlib.Core.Path.{◌≡◌, refl, ap, ◌∙◌}
use mathlib.Core.Bool.{Bool, true, false, cond}
use mathlib.Core.List.{List}
use Prim.Native.Nat.{ℕ, ◌*◌, ◌/◌, ◌%◌, ◌<◌}
use native.Mathlib.Nat.{mul_comm, div-lt_iff_lt-mul}
use native.Mathlib.Omega.{arith}
use lib.Dec.{ltb}
use lib.ListN.{replicate, length-replicate, get_or-replicate}
use borrow.Author.Tests.{lt-ltb, ltb-true}
use Rattle.lists.specs.Table.{table}
use Rattle.lists.proofs.Tables.{is-table, same-table}
use Rattle.lists.proofs.Tests.{same_truth}
use Rattle.plan.specs.Block.{block}
use Rattle.plan.specs.Fields.{role_in, source_in, handler_in, entry, bar_in, nobody, peer_number}
use Rattle.plan.specs.Header.{header_in, core_with}
use Rattle.plan.specs.Refusals.{count_in, device_block, ports_of}
use Rattle.plan.specs.Reading.{column, plan_of}
use Rattle.plan.specs.declared.Core.{Core}
use Rattle.plan.specs.declared.Header.{Header}
use Rattle.plan.specs.declared.Plan.{Plan}
use Rattle.lists.proofs.Filled.{filling}

pub same-plan : {p q : Plan} → p.core ≡ q.core → p.peers ≡ q.peers → p.barred ≡ q.barred → p ≡ q
same-plan e g h = λ i. record { core = e i; peers = g i; barred = h i }

-- m places for each device
places-below : (m : ℕ) → 0 < m → (i n : ℕ) → ltb i (m * n) ≡ ltb (i / m) n
places-below m z i n =
    let below = div-lt_iff_lt-mul {k = m} {x = i} {y = n} z in
    same_truth _ _
    (λ e. lt-ltb (i / m) n (below.1 (rw mul_comm at (ltb-true i (m * n) e))))
    (λ e. lt-ltb i (m * n) (rw mul_comm (below.0 (ltb-true (i / m) n e))))

module _ (file : List ℕ) where
  permissions-of : {n : ℕ} → n ≡ count_in file → table 256 (filling 0 (λ k. entry (device_block file (k / 8)) (k % 8) 2) (8 * n)) ≡ (plan_of file).core.permissions
  unfolding plan_of
  permissions-of {n} e = same-table 256 _ _ (λ q h. rw (places-below 8 (omega arith) q n, e))

  -- the numbers, of a header and of what was read for each device that it counts
  pub core-of : {header : Header} {role ports source handler permissions : List ℕ} {core : Core} → header ≡ header_in (block file 0)
      → role ≡ table 32 (filling 0 (λ d. role_in (device_block file d)) header.devices) → ports ≡ table 32 (filling 0 (ports_of file) header.devices)
      → source ≡ table 32 (filling 0 (λ d. source_in (device_block file d)) header.devices) → handler ≡ table 32 (filling 0 (λ d. handler_in (device_block file d)) header.devices)
      → permissions ≡ table 256 (filling 0 (λ q. entry (device_block file (q / 8)) (q % 8) 2) (8 * header.devices))
      → core ≡ core_with header role ports source handler permissions → core ≡ (plan_of file).core
  unfolding plan_of column
  core-of {header} h role ports source handler permissions core =
      let n : header.devices ≡ count_in file = ap (λ (k : Header). k.devices) h in
      let same : (f : ℕ → ℕ) → table 32 (filling 0 f header.devices) ≡ column (count_in file) f = λ f. ap (λ k. column k f) n in
      core ∙ (λ i. core_with (h i) ((role ∙ same _) i) ((ports ∙ same _) i) ((source ∙ same _) i) ((handler ∙ same _) i) ((permissions ∙ permissions-of n) i))

  pub barred-of : {n : ℕ} → n ≡ count_in file → table 512 (filling 0 (λ k. bar_in (device_block file (k / 16)) (k % 16)) (16 * n)) ≡ (plan_of file).barred
  unfolding plan_of
  barred-of {n} e = same-table 512 _ _ (λ i h. rw (places-below 16 (omega arith) i n, e))

  -- a row of a device, or of none
  row : (t : Bool) (f : ℕ → ℕ) → cond t (table 8 f) (replicate 8 nobody) ≡ table 8 (λ p. cond t (f p) nobody)
  row true f = refl
  row false f = is-table 8 (λ p. nobody) (replicate 8 nobody) 0 (length-replicate 8 nobody) (λ i h. get_or-replicate 8 i nobody 0 h)

  pub peers-of : {n : ℕ} → n ≡ count_in file → table 32 (filling (replicate 8 nobody) (λ d. table 8 (peer_number (device_block file d))) n) ≡ (plan_of file).peers
  unfolding plan_of
  peers-of {n} e = same-table 32 _ _ (λ d h. row (ltb d n) (peer_number (device_block file d)) ∙ rw e)

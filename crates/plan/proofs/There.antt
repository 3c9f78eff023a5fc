-- From a plan to its file: the file of a right plan is accepted, and its plan is that plan.
use mathlib.Core.Path.{◌≡◌, ap, ◌∙◌}
use mathlib.Core.Bool.{true}
use mathlib.Core.List.{List}
use mathlib.Core.Logic.{dite}
use Prim.Native.Nat.{ℕ, ◌+◌, ◌*◌, ◌≤◌, ◌<◌}
use native.Mathlib.Decide.{dec_lt}
use native.Mathlib.Omega.{arith}
use lib.ListN.{length, length-append}
use borrow.Author.Tests.{lt-ltb, le-ltb}
use Rattle.lists.specs.Table.{joined}
use Rattle.lists.proofs.Tables.{length-joined}
use Rattle.lists.proofs.Tests.{and_left}
use Rattle.plan.specs.Block.{block}
use Rattle.plan.specs.Fields.{loads_fit, pair_fits, joins, sources_fit}
use Rattle.plan.specs.Header.{header_in, header_of, pair_at, header_fits}
use Rattle.plan.specs.Refusals.{device_block, count_in, master_in}
use Rattle.plan.specs.Reading.{Accepted}
use Rattle.plan.specs.declared.Header.{Header}
use Rattle.plan.specs.declared.Plan.{Plan}
use Rattle.plan.specs.Inner.Memory.{at, peer_at, row_right, right}
use Rattle.plan.specs.Inner.File.{block_of, header_holdings, device_holdings, file_of}
use Rattle.lists.proofs.Facts.{facts}
use Rattle.plan.proofs.Shape.{Shaped}
use Rattle.plan.proofs.Good.{Good, GoodDevice, devices-fit, header-says, accepted}
use Rattle.plan.proofs.Bytes.{Bytes, bytes-append, bytes-joined}
use Rattle.plan.proofs.Holdings.{length-made, made_bytes}
use Rattle.plan.proofs.Runs.{run-joined, first_block, later-block}
use Rattle.plan.proofs.Rows.{written-header, good-header, written_row, written-device, right-absent}
use Rattle.plan.proofs.Match.{Match, is-plan, match-joins, match-sources}

-- what `right` says
pub record Right (plan : Plan) : Type 0 where
  pub header : header_fits (header_of plan.core) ≡ true
  pub loads : loads_fit (at plan.core.loads 1) (at plan.core.loads 0) ≡ true
  pub pairs : (k : ℕ) → k < 32 → pair_fits (at plan.core.loads (pair_at k 1)) (at plan.core.loads (pair_at k 0)) ≡ true
  pub rows : (d : ℕ) → d < 32 → row_right plan.core plan.peers plan.barred d ≡ true
  pub joined : (d : ℕ) → d < plan.core.devices → (p : ℕ) → p < 8 → joins (at plan.core.ports) (peer_at plan.peers) d p ≡ true
  pub sources : sources_fit plan.core.events (at plan.core.source) plan.core.devices ≡ true

pub right-says : (plan : Plan) → right plan ≡ true → Right plan
unfolding right
right-says plan e =
    let header : header_fits (header_of plan.core) ≡ true = and_left _ _ (and_left _ _ (and_left _ _ e)) in
    let f = simp facts at e in
    let h = header-says (header_of plan.core) header in
    record { header = header; loads = h.1; pairs = h.3; rows = f.0.0.1; joined = f.0.1; sources = f.1 }

-- ---- the blocks of the file

module _ (plan : Plan) where
  abbrev head : List ℕ
  head = block_of (header_holdings (header_of plan.core))

  abbrev device : ℕ → List ℕ
  device d = block_of (device_holdings plan.core plan.peers plan.barred d)

  length-head : length head ≡ 512
  length-head = length-made (header_holdings (header_of plan.core))

  length-row : (d : ℕ) → length (device d) ≡ 512
  length-row d = length-made (device_holdings plan.core plan.peers plan.barred d)

  pub length-file : length (file_of plan) ≡ 512 * (1 + plan.core.devices)
  unfolding file_of
  length-file = length-append head (joined plan.core.devices device) ∙ omega (arith, length-head, length-joined 512 device plan.core.devices (λ d h. length-row d))

  head-block : block (file_of plan) 0 ≡ head
  unfolding file_of
  head-block = first_block head (joined plan.core.devices device) length-head

  row_block : (d : ℕ) → d < plan.core.devices → device_block (file_of plan) d ≡ device d
  unfolding file_of block
  row_block d h =
      later-block head (joined plan.core.devices device) length-head d ∙ run-joined 512 plan.core.devices device (λ e k. length-row e) d h

  file-bytes : Bytes (file_of plan)
  unfolding file_of
  file-bytes =
      bytes-append head (joined plan.core.devices device) (made_bytes (header_holdings (header_of plan.core)))
      (bytes-joined plan.core.devices device (λ d h. made_bytes (device_holdings plan.core plan.peers plan.barred d)))

  -- ---- of a right plan

  module _ (r : Right plan) (s : Shaped plan) where
    few : plan.core.devices ≤ 32
    few = (devices-fit plan.core.devices (header-says (header_of plan.core) r.header).0).1

    small : (d : ℕ) → (at plan.core.role d < 256) × (at plan.core.ports d < 256) × (at plan.core.source d < 4294967296) × (at plan.core.handler d < 4294967296) × ((i : ℕ) → at plan.barred i < 4294967296)
    small d = (s.role.small d, s.ports.small d, s.source.small d, s.handler.small d, s.barred.small)

    header_read : header_of plan.core ≡ header_in (block (file_of plan) 0)
    header_read = written-header plan.core s.events s.loads r.header (block (file_of plan) 0) head-block

    count : plan.core.devices ≡ count_in (file_of plan)
    count = ap (λ (h : Header). h.devices) header_read

    same-master : plan.core.master ≡ master_in (file_of plan)
    same-master = ap (λ (h : Header). h.master) header_read

    matches : Match plan (file_of plan)
    matches =
        record {
          header = header_read;
          says = λ d k. dite (dec_lt d plan.core.devices)
              (λ h. rw (lt-ltb d (count_in (file_of plan)) (omega (arith, count))) (written_row plan.core plan.peers plan.barred d few (device_block (file_of plan) d) h (r.rows d k) (small d) (row_block d h)))
              (λ h. rw (le-ltb d (count_in (file_of plan)) (omega (arith, count))) (right-absent plan.core plan.peers plan.barred d few (omega arith) (r.rows d k)));
        }

    devices-good : (d : ℕ) → d < plan.core.devices → GoodDevice plan.core.devices plan.core.master d (device_block (file_of plan) d)
    devices-good d h = written-device plan.core plan.peers plan.barred d few (device_block (file_of plan) d) h (r.rows d (omega (arith, few))) (small d) (row_block d h)

    good-file : Good (file_of plan)
    good-file =
        record {
          long = rw (← count) length-file;
          header = good-header plan.core s.events s.loads r.header (block (file_of plan) 0) head-block;
          device = rw (← count, ← same-master) devices-good;
          joined = rw (← count) (λ d h p l. match-joins plan (file_of plan) matches few devices-good d h p l ∙ r.joined d h p l);
          sources = rw (← count) (match-sources plan (file_of plan) matches few ∙ r.sources);
        }

    pub right-good : Accepted (file_of plan) plan
    right-good =
        record {
          bytes = file-bytes;
          right = accepted (file_of plan) good-file;
          plan-of = is-plan plan (file_of plan) matches s;
        }

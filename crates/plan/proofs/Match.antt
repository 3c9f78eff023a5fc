-- A plan beside a file, block by block: that the file says what the plan says, and what follows.
use mathlib.Core.Path.{◌≡◌, refl, sym, subst, ap, ap₂, ◌∙◌}
use mathlib.Core.Bool.{true, cond}
use mathlib.Core.List.{List, [], ◌++◌}
use mathlib.Core.Logic.{◌⊎◌, inl, inr, dite}
use Prim.Native.Nat.{ℕ, ◌+◌, ◌*◌, ◌/◌, ◌%◌, ◌≤◌, ◌<◌}
use native.Mathlib.Decide.{dec_lt}
use native.Mathlib.Omega.{arith}
use lib.Dec.{ltb}
use lib.ListN.{length, get_or}
use borrow.Author.Tests.{lt-ltb, le-ltb}
use Rattle.lists.specs.Table.{table}
use Rattle.lists.proofs.Tables.{get_d-table, is-table, same-joined}
use Rattle.plan.specs.Block.{block}
use Rattle.plan.specs.Fields.{role_in, ports_in, source_in, handler_in, entry, nobody, peer_number, bar_in, joins, sources_fit}
use Rattle.plan.specs.Refusals.{device_block, count_in, master_in, events_in, source_of, ports_of, peer_of}
use Rattle.plan.specs.Header.{header_in, header_of, header_fits, core_with}
use Rattle.plan.specs.Reading.{column, plan_of}
use Rattle.plan.specs.declared.Header.{Header}
use Rattle.plan.specs.declared.Plan.{Plan}
use Rattle.plan.specs.Inner.Memory.{at, peer_at, row_right, right}
use Rattle.plan.specs.Inner.File.{file_of}
use Rattle.lists.proofs.Facts.{facts}
use Rattle.plan.proofs.Shape.{Shaped}
use Rattle.plan.proofs.Good.{Good, GoodDevice, devices-fit, header-says}
use Rattle.plan.proofs.Rows.{Says, Row, absent-right, row-right, read-header, read-device}
use Rattle.plan.proofs.Entries.{entry-port, port-range}
use Rattle.plan.proofs.Shared.{sources-same}
use Rattle.plan.proofs.Runs.{whole-file, length-block, block-bytes}

-- one value for a device below n, and another for an absent one
abbrev pub of_device : ℕ → ℕ → ℕ → ℕ → ℕ
of_device n d here gone = cond (ltb d n) here gone

-- block 0 says what the plan says, and so does the block of each device, or nothing does where the device is absent
pub record Match (plan : Plan) (file : List ℕ) : Type 0 where
  pub header : header_of plan.core ≡ header_in (block file 0)
  pub says : (d : ℕ) → d < 32 →
      let s = device_block file d in
      let of = of_device (count_in file) d in
      Says plan.core plan.peers plan.barred d (of (role_in s) 0) (of (ports_in s) 0) (of (source_in s) 0) (of (handler_in s) 0) (λ p. of (peer_number s p) nobody)
      (λ p. of (entry s p 2) 0) (λ j. of (bar_in s j) 0)

-- ---- the plan that is read from a file matches it

column-at : (n : ℕ) (f : ℕ → ℕ) (d : ℕ) → d < 32 → at (column n f) d ≡ of_device n d (f d) 0
unfolding column
column-at n f d h = get_d-table 32 _ d 0 h

module _ (n : ℕ) (f : ℕ → ℕ → ℕ) (d : ℕ) (h : d < 32) (p : ℕ) (l : p < 8) where
  permissions-at : at (table 256 (λ q. of_device n (q / 8) (f (q / 8) (q % 8)) 0)) (8 * d + p) ≡ of_device n d (f d p) 0
  permissions-at =
      let a : (8 * d + p) / 8 ≡ d = omega arith in
      let b : (8 * d + p) % 8 ≡ p = omega arith in
      get_d-table 256 _ (8 * d + p) 0 (omega arith) ∙ rw (a, b)

  peers-at : peer_at (table 32 (λ e. table 8 (λ q. of_device n e (f e q) nobody))) d p ≡ of_device n d (f d p) nobody
  peers-at = ap (λ r. at r p) (get_d-table 32 _ d [] h) ∙ get_d-table 8 _ p 0 l

bars-at : (n : ℕ) (f : ℕ → ℕ → ℕ) (d : ℕ) → d < 32 → (j : ℕ) → j < 16 → at (table 512 (λ i. of_device n (i / 16) (f (i / 16) (i % 16)) 0)) (16 * d + j) ≡ of_device n d (f d j) 0
bars-at n f d h j l =
    let a : (16 * d + j) / 16 ≡ d = omega arith in
    let b : (16 * d + j) % 16 ≡ j = omega arith in
    get_d-table 512 _ (16 * d + j) 0 (omega arith) ∙ rw (a, b)

pub match-of : (file : List ℕ) → Match (plan_of file) file
unfolding plan_of
match-of file =
    record {
      header = refl;
      says = λ d h.
          record {
            role = column-at (count_in file) (λ e. role_in (device_block file e)) d h;
            ports = column-at (count_in file) (ports_of file) d h;
            source = column-at (count_in file) (source_of file) d h;
            handler = column-at (count_in file) (λ e. handler_in (device_block file e)) d h;
            peer = peers-at (count_in file) (peer_of file) d h;
            permissions = permissions-at (count_in file) (λ e q. entry (device_block file e) q 2) d h;
            bars = bars-at (count_in file) (λ e j. bar_in (device_block file e) j) d h;
          };
    }

-- ---- connections

-- they say the same of the same ports and peers, among n devices
module _ (n : ℕ) (ports others : ℕ → ℕ) (peer other : ℕ → ℕ → ℕ) (e : (d : ℕ) → d < n → ports d ≡ others d)
    (f : (d : ℕ) → d < n → (p : ℕ) → p < 8 → peer d p ≡ other d p) where
  joins-same : (d : ℕ) → d < n → (p : ℕ) → p < 8 → (peer d p ≡ nobody) ⊎ (peer d p < 8 * n) → joins ports peer d p ≡ joins others other d p
  unfolding joins
  joins-same d h p l (inl q) = rw (← f d h p l, q)
  joins-same d h p l (inr q) =
      rw (← f d h p l, ← e (peer d p / 8) (omega arith), ← f (peer d p / 8) (omega arith) (peer d p % 8) (omega arith))

-- ---- a plan that matches a file

is-column : (n : ℕ) (f : ℕ → ℕ) (l : List ℕ) → length l ≡ 32 → ((d : ℕ) → d < 32 → at l d ≡ of_device n d (f d) 0) → l ≡ column n f
unfolding column
is-column n f l e h = is-table 32 _ l 0 e h

module _ (plan : Plan) (file : List ℕ) (m : Match plan file) where
  abbrev devices : ℕ
  devices = plan.core.devices

  abbrev master : ℕ
  master = plan.core.master

  pub same_count : devices ≡ count_in file
  same_count = ap (λ (h : Header). h.devices) m.header

  same-master : master ≡ master_in file
  same-master = ap (λ (h : Header). h.master) m.header

  same-events : plan.core.events ≡ events_in file
  same-events = ap (λ (h : Header). h.events) m.header

  is-permissions : length plan.core.permissions ≡ 256
      → plan.core.permissions ≡ table 256 (λ q. of_device (count_in file) (q / 8) (entry (device_block file (q / 8)) (q % 8) 2) 0)
  is-permissions e =
      is-table 256 _ plan.core.permissions 0 e
      (λ q h.
      let k : q ≡ 8 * (q / 8) + q % 8 = omega arith in
      ap (at plan.core.permissions) k ∙ (m.says (q / 8) (omega arith)).permissions (q % 8) (omega arith))

  is-barred : length plan.barred ≡ 512 → plan.barred ≡ table 512 (λ i. of_device (count_in file) (i / 16) (bar_in (device_block file (i / 16)) (i % 16)) 0)
  is-barred e =
      is-table 512 _ plan.barred 0 e
      (λ i h.
      let k : i ≡ 16 * (i / 16) + i % 16 = omega arith in
      ap (at plan.barred) k ∙ (m.says (i / 16) (omega arith)).bars (i % 16) (omega arith))

  -- it is the plan that is read from the file
  pub is-plan : Shaped plan → plan ≡ plan_of file
  unfolding plan_of
  is-plan s =
      let n = count_in file in
      let header = m.header in
      let role = is-column n _ plan.core.role s.role.long (λ d h. (m.says d h).role) in
      let ports = is-column n _ plan.core.ports s.ports.long (λ d h. (m.says d h).ports) in
      let source = is-column n _ plan.core.source s.source.long (λ d h. (m.says d h).source) in
      let handler = is-column n _ plan.core.handler s.handler.long (λ d h. (m.says d h).handler) in
      let permissions = is-permissions s.permissions.long in
      let peers = is-table 32 _ plan.peers [] s.rows (λ d h. is-table 8 _ (get_or plan.peers d []) 0 (s.row d h).long (m.says d h).peer) in
      let barred = is-barred s.barred.long in
      λ i. record { core = core_with (header i) (role i) (ports i) (source i) (handler i) (permissions i); peers = peers i; barred = barred i }

  module _ (few : devices ≤ 32) where
    match-row : (d : ℕ) → d < devices → Row plan.core plan.peers plan.barred d (device_block file d)
    match-row d h = rw (lt-ltb d (count_in file) (omega (arith, same_count))) at (m.says d (omega arith))

    -- its connections are good where those of the file are
    pub match-joins : ((d : ℕ) → d < devices → GoodDevice devices master d (device_block file d)) → (d : ℕ) → d < devices → (p : ℕ) → p < 8
        → joins (ports_of file) (peer_of file) d p ≡ joins (at plan.core.ports) (peer_at plan.peers) d p
    match-joins good d h p l =
        joins-same devices (ports_of file) (at plan.core.ports) (peer_of file) (peer_at plan.peers)
        (λ e k. sym (match-row e k).ports) (λ e k q j. sym ((match-row e k).peer q j)) d h p l
        (port-range (entry-port devices few (device_block file d) p ((good d h).entries p l)))

    -- and so are its sources
    pub match-sources : sources_fit (events_in file) (source_of file) devices ≡ sources_fit plan.core.events (at plan.core.source) devices
    match-sources = ap (λ k. sources_fit k (source_of file) devices) (sym same-events) ∙ sources-same plan.core.events devices _ _ (λ d h. sym (match-row d h).source)

  -- ---- if all is good in the file

  module _ (g : Good file) where
    few-devices : devices ≤ 32
    few-devices = rw same_count (devices-fit (count_in file) (header-says (header_in (block file 0)) g.header.fits).0).1

    device-good : (d : ℕ) → d < devices → GoodDevice devices master d (device_block file d)
    device-good = rw (same_count, same-master) g.device

    row-good : (d : ℕ) → d < 32 → row_right plan.core plan.peers plan.barred d ≡ true
    row-good d k =
        dite (dec_lt d devices)
        (λ h. row-right plan.core plan.peers plan.barred d few-devices (device_block file d) h (match-row few-devices d h) (device-good d h))
        (λ h. absent-right plan.core plan.peers plan.barred d few-devices (omega arith) (rw (le-ltb d (count_in file) (omega (arith, same_count))) at (m.says d k)))

    -- the plan is right in memory
    pub match-right : right plan ≡ true
    unfolding right
    match-right =
        simp facts (
          (
            (simp facts at (subst (λ (h : Header). header_fits h ≡ true) (sym m.header) g.header.fits), row-good),
            λ d h p l. sym (match-joins few-devices device-good d h p l) ∙ g.joined d (omega (arith, same_count)) p l,
          ),
          sym (match-sources few-devices) ∙ ap (sources_fit (events_in file) (source_of file)) same_count ∙ g.sources,
        )

    -- and the file is the one that is written of it
    pub match-file : ((i : ℕ) → get_or file i 0 < 256) → file_of plan ≡ file
    unfolding file_of
    match-file small =
        let n : length file ≡ 512 * (1 + devices) = rw same_count g.long in
        ap₂ (λ a b. a ++ b)
        (read-header plan.core (block file 0) (length-block file 0 (omega arith)) (block-bytes file 0 small) m.header g.header)
        (same-joined devices _ (device_block file)
        (λ d h. read-device plan.core plan.peers plan.barred d few-devices (device_block file d) h (length-block file (1 + d) (omega arith))
        (block-bytes file (1 + d) small) (match-row few-devices d h) (device-good d h)))
        ∙ sym (whole-file file devices n)

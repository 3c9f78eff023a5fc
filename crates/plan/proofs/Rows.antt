-- Block 0 and the block of a device, beside the parts of a plan that they hold: what each says of the other.
use mathlib.Core.Path.{◌≡◌, refl, sym, subst, ap₂, ◌∙◌}
use mathlib.Core.Bool.{true, ◌&&◌}
use mathlib.Core.List.{List, [], ◌∷◌, ◌++◌}
use Prim.Native.Nat.{ℕ, zero, suc, ◌+◌, ◌*◌, ◌/◌, ◌≤◌, ◌<◌}
use native.Mathlib.Omega.{arith}
use lib.Dec.{eqb, ltb}
use lib.ListN.{length}
use borrow.Author.Tests.{lt-ltb, le-ltb, eqb-true}
use Rattle.lists.specs.Table.{joined}
use Rattle.lists.proofs.Tables.{same-joined}
use Rattle.plan.specs.Block.{byte}
use Rattle.plan.specs.Fields.{devices_fit, master_fits, device_fields, role_in, ports_in, source_in, handler_in, entry_fields, entry, bar_in, bar_fits, nobody, peer_number}
use Rattle.plan.specs.Header.{header_fields, header_in, header_of, pair_in, pair_at, header_fits}
use Rattle.plan.specs.declared.Core.{Core}
use Rattle.plan.specs.declared.Header.{Header}
use Rattle.plan.specs.Inner.Memory.{at, peer_at, device_right, row_right}
use Rattle.plan.specs.Inner.File.{Holding, holdings, block_of, common_holdings, pair_holdings, header_holdings, entry_numbers, own_holdings, bar_holdings, device_holdings}
use Rattle.lists.proofs.Facts.{facts}
use Rattle.lists.proofs.Tests.{or_right}
use Rattle.plan.proofs.Shape.{Numbers}
use Rattle.plan.proofs.Loads.{pair-at, as-pairs}
use Rattle.plan.proofs.Good.{GoodHeader, GoodDevice}
use Rattle.plan.proofs.Bytes.{Bytes}
use Rattle.plan.proofs.Holdings.{fields_of, Ascends, ascending, Holds, Fit, all_append, all-parts, all-joined, all-at, made-checked, made-rest, made_holds, is_made}
use Rattle.plan.proofs.Entries.{Port, nowhere, entry-port, port-entry, port-peer, port-permissions, no-port, port-right, port-numbers, port-small, right-port}

-- ---- block 0

header-fields : (h : Header) → fields_of (header_holdings h) ≡ header_fields
unfolding header_holdings header_fields joined
header-fields h = refl

header-ascends : (h : Header) → Ascends 0 (fields_of (header_holdings h))
unfolding header_fields joined
header-ascends h = rw (header-fields h) (ascending 0 header_fields refl)

module _ (core : Core) where
  abbrev pairs : ℕ → List Holding
  pairs = pair_holdings core.loads

  -- the block that is written of the plan
  module _ (events : core.events < 4294967296) (loads : Numbers core.loads 66 65536) (fits : header_fits (header_of core) ≡ true) (s : List ℕ) (e : s ≡ block_of (header_holdings (header_of core))) where
    common-fit : Fit (common_holdings (header_of core))
    unfolding devices_fit master_fits
    common-fit = let f = simp facts at fits in omega (arith, loads.small 0, loads.small 1)

    header-fit : Fit (header_holdings (header_of core))
    unfolding header_holdings
    header-fit =
        all_append _ (common_holdings (header_of core)) (joined 32 pairs) common-fit
        (all-joined _ pairs 32 (λ k l. (loads.small (pair_at k 1), (loads.small (pair_at k 0), tt))))

    header-holds : Holds s (common_holdings (header_of core)) × Holds s (joined 32 pairs)
    unfolding header_holdings
    header-holds =
        all-parts _ (common_holdings (header_of core)) (joined 32 pairs)
        (subst (λ t. Holds t (header_holdings (header_of core))) (sym e) (made_holds (header_holdings (header_of core)) (header-ascends (header_of core)) header-fit))

    written-pairs : joined 32 (λ k. at core.loads (pair_at k 0) ∷ at core.loads (pair_at k 1) ∷ []) ≡ joined 32 (pair_in s)
    written-pairs =
        same-joined 32 _ _ (λ k l.
        let h = all-at _ pairs 32 header-holds.1 k l in
        ap₂ (λ (a b : ℕ). a ∷ b ∷ []) (sym h.1.0) (sym h.0))

    pub written-header : header_of core ≡ header_in s
    written-header = let h = header-holds.0 in cc (as-pairs core.loads loads.long, written-pairs)

    pub good-header : GoodHeader s
    good-header =
        record {
          check = rw e (made-checked (header_holdings (header_of core)));
          mark = header-holds.0.0;
          fits = subst (λ (h : Header). header_fits h ≡ true) written-header fits;
          zeros = rw (e, ← header-fields (header_of core)) (made-rest (header_holdings (header_of core)));
        }

  -- a block that was read
  pub read-header : (s : List ℕ) → length s ≡ 512 → Bytes s → header_of core ≡ header_in s → GoodHeader s → block_of (header_holdings (header_of core)) ≡ s
  unfolding header_holdings
  read-header s e small h g =
      let mark = g.mark in
      let pairs_of : ℕ → List Holding = pair_holdings (header_in s).loads in
      is_made (header_holdings (header_of core)) (header-ascends (header_of core)) s e small
      (subst (λ (k : Header). Holds s (header_holdings k)) (sym h)
      (all_append _ (common_holdings (header_in s)) (joined 32 pairs_of) (search)
      (all-joined _ pairs_of 32 (λ k l. (sym (pair-at s k 1 l (omega arith)), (sym (pair-at s k 0 l (omega arith)), tt))))))
      (rw (header-fields (header_of core)) g.zeros) g.check

-- ---- the block of a device

fields-ascend : Ascends 0 device_fields
unfolding device_fields joined
fields-ascend = ascending 0 device_fields refl

-- the four numbers of an entry
four : (f g : ℕ → ℕ) → (f 0 ≡ g 0) × (f 1 ≡ g 1) × (f 2 ≡ g 2) × (f 3 ≡ g 3) → (j : ℕ) → j < 4 → f j ≡ g j
four f g e zero l = e.0
four f g e (suc zero) l = e.1
four f g e (suc (suc zero)) l = e.2
four f g e (suc (suc (suc zero))) l = e.3
four f g e (suc (suc (suc (suc j)))) l = absurd (omega arith)

-- a port that bars nothing fits, and that is all that a node's port does
pub free-bar : (role ports j : ℕ) → bar_fits role ports j 0 ≡ true
unfolding bar_fits
free-bar role ports j = or_right (eqb role 1 && ltb (j / 2) ports) true refl

pub no-bar : (role ports j mask : ℕ) → role ≡ 0 → bar_fits role ports j mask ≡ true → mask ≡ 0
unfolding bar_fits
no-bar role ports j mask z e = eqb-true mask 0 (rw z at e)

module _ (core : Core) (peers : List (List ℕ)) (barred : List ℕ) (d : ℕ) where
  -- what the plan says of device d
  pub record Says (role' ports' source' handler' : ℕ) (peer' permissions' bars' : ℕ → ℕ) : Type 0 where
    pub role : at core.role d ≡ role'
    pub ports : at core.ports d ≡ ports'
    pub source : at core.source d ≡ source'
    pub handler : at core.handler d ≡ handler'
    pub peer : (p : ℕ) → p < 8 → peer_at peers d p ≡ peer' p
    pub permissions : (p : ℕ) → p < 8 → at core.permissions (8 * d + p) ≡ permissions' p
    pub bars : (j : ℕ) → j < 16 → at barred (16 * d + j) ≡ bars' j

  -- what a block says, and what there is to say of an absent device
  abbrev pub Row : List ℕ → Type 0
  Row s = Says (role_in s) (ports_in s) (source_in s) (handler_in s) (peer_number s) (λ p. entry s p 2) (bar_in s)

  abbrev pub Absent : Type 0
  Absent = Says 0 0 0 0 (λ p. nobody) (λ p. 0) (λ j. 0)

  abbrev pub entry_of : ℕ → List ℕ
  entry_of p = entry_numbers (peer_at peers d p) (at core.permissions (8 * d + p))

  abbrev own : List Holding
  own = own_holdings d (at core.role d) (at core.ports d) (at core.source d) (at core.handler d)

  abbrev entries : ℕ → List Holding
  entries p = holdings (entry_fields p) (entry_of p)

  abbrev bars : ℕ → List Holding
  bars j = bar_holdings j (at barred (16 * d + j))

  device-fields : fields_of (device_holdings core peers barred d) ≡ device_fields
  unfolding device_holdings device_fields joined
  device-fields = refl

  device-ascends : Ascends 0 (fields_of (device_holdings core peers barred d))
  device-ascends = rw device-fields fields-ascend

  module _ (few : core.devices ≤ 32) where
    -- each port of a right row, with an entry that has its bytes
    pub right-ports : row_right core peers barred d ≡ true → (p : ℕ) → p < 8 → (e : ℕ → ℕ) → ((j : ℕ) → j < 4 → e j ≡ byte (entry_of p) j)
        → Port core.devices (at core.ports d) p e (peer_at peers d p) (at core.permissions (8 * d + p))
    unfolding row_right
    right-ports r p l e i = right-port core.devices few (at core.ports d) p e (peer_at peers d p) (at core.permissions (8 * d + p)) i ((simp facts at r).0.1 p l)

    -- an absent device
    module _ (h : core.devices ≤ d) where
      pub absent-right : Absent → row_right core peers barred d ≡ true
      unfolding row_right device_right
      absent-right a =
          rw (le-ltb d core.devices h, a.role, a.ports, a.source, a.handler)
          (simp facts (
            (refl, λ p l. rw (a.peer p l, a.permissions p l) (port-right {e = byte (255 ∷ 255 ∷ 0 ∷ 0 ∷ [])} few (nowhere refl refl refl refl refl refl))),
            λ j l. rw (a.bars j l) (free-bar 0 0 j),
          ))

      pub right-absent : row_right core peers barred d ≡ true → Absent
      unfolding row_right device_right
      right-absent r =
          let f = simp facts at (rw (le-ltb d core.devices h) at r) in
          let none : (p : ℕ) → p < 8 → (peer_at peers d p ≡ nobody) × (at core.permissions (8 * d + p) ≡ 0) =
          λ p l. no-port (right-ports r p l (byte (entry_of p)) (λ j k. refl)) (omega (arith, f.0.0.0.0.1)) in
          record {
            role = f.0.0.0.0.0;
            ports = f.0.0.0.0.1;
            source = f.0.0.0.1;
            handler = f.0.0.1;
            peer = λ p l. (none p l).0;
            permissions = λ p l. (none p l).1;
            bars = λ j l. no-bar (at core.role d) (at core.ports d) j _ f.0.0.0.0.0 (f.1 j l);
          }

    module _ (s : List ℕ) (h : d < core.devices) where
      pub row-right : Row s → GoodDevice core.devices core.master d s → row_right core peers barred d ≡ true
      unfolding row_right device_right
      row-right r g =
          rw (lt-ltb d core.devices h, r.role, r.ports, r.source, r.handler)
          (simp facts (
            (((g.ports, g.masks), g.node), λ p l. rw (r.peer p l, r.permissions p l) (port-right few (entry-port core.devices few s p (g.entries p l)))),
            λ j l. rw (r.bars j l) (g.bars j l),
          ))

      -- the block that is written of the plan
      module _ (right : row_right core peers barred d ≡ true) (small : (at core.role d < 256) × (at core.ports d < 256) × (at core.source d < 4294967296) × (at core.handler d < 4294967296) × ((i : ℕ) → at barred i < 4294967296))
          (e : s ≡ block_of (device_holdings core peers barred d)) where
        device-fit : Fit (device_holdings core peers barred d)
        unfolding device_holdings
        device-fit =
            all_append _ (own ++ joined 8 entries) (joined 16 bars)
            (all_append _ own (joined 8 entries) (omega (arith, small.0, small.1, small.2, small.3))
            (all-joined _ entries 8 (λ p l. let f = port-small few (right-ports right p l (byte (entry_of p)) (λ j k. refl)) in (f.0, (f.1, (f.2, (f.3, tt)))))))
            (all-joined _ bars 16 (λ j l. (small.4 (16 * d + j), tt)))

        all_hold : Holds s (own ++ joined 8 entries) × Holds s (joined 16 bars)
        unfolding device_holdings
        all_hold =
            all-parts _ (own ++ joined 8 entries) (joined 16 bars)
            (subst (λ t. Holds t (device_holdings core peers barred d)) (sym e) (made_holds (device_holdings core peers barred d) device-ascends device-fit))

        device-holds : Holds s own × Holds s (joined 8 entries)
        device-holds = all-parts _ own (joined 8 entries) all_hold.0

        port-at : (p : ℕ) → p < 8 → Port core.devices (at core.ports d) p (entry s p) (peer_at peers d p) (at core.permissions (8 * d + p))
        port-at p l =
            let f = all-at _ entries 8 device-holds.1 p l in
            right-ports right p l (entry s p) (four (entry s p) (byte (entry_of p)) (f.0, f.1.0, f.1.1.0, f.1.1.1.0))

        pub written_row : Row s
        written_row =
            let f = device-holds.0.1.1 in
            record {
              role = sym f.0;
              ports = sym f.1.0;
              source = sym f.1.1.0;
              handler = sym f.1.1.1.0;
              peer = λ p l. sym (port-peer core.devices few s p (port-at p l));
              permissions = λ p l. port-permissions (port-at p l);
              bars = λ j l. sym (all-at _ bars 16 all_hold.1 j l).0;
            }

        pub written-device : GoodDevice core.devices core.master d s
        unfolding row_right device_right
        written-device =
            let f = simp facts at (rw (lt-ltb d core.devices h) at right) in
            record {
              check = rw e (made-checked (device_holdings core peers barred d));
              mark = device-holds.0.0;
              number = device-holds.0.1.0;
              ports = rw (written_row.role, written_row.ports) at f.0.0.0.0;
              masks = rw (written_row.role, written_row.source, written_row.handler) at f.0.0.0.1;
              node = rw written_row.role at f.0.0.1;
              entries = λ p l. port-entry core.devices few s p (rw written_row.ports at (port-at p l));
              bars = λ j l. rw (written_row.role, written_row.ports, written_row.bars j l) at (f.1 j l);
              zeros = rw (e, ← device-fields) (made-rest (device_holdings core peers barred d));
            }

      -- a block that was read
      module _ (e : length s ≡ 512) (small : Bytes s) (r : Row s) (g : GoodDevice core.devices core.master d s) where
        entry_read : (p : ℕ) → p < 8 → Holds s (entries p)
        entry_read p l =
            let f : entry_of p ≡ entry s p 0 ∷ entry s p 1 ∷ entry s p 2 ∷ entry s p 3 ∷ [] =
            ap₂ entry_numbers (r.peer p l) (r.permissions p l) ∙ port-numbers few (entry-port core.devices few s p (g.entries p l)) in
            subst (λ (ns : List ℕ). Holds s (holdings (entry_fields p) ns)) (sym f) (refl, (refl, (refl, (refl, tt))))

        pub read-device : block_of (device_holdings core peers barred d) ≡ s
        unfolding device_holdings
        read-device =
            is_made (device_holdings core peers barred d) device-ascends s e small
            (all_append _ (own ++ joined 8 entries) (joined 16 bars)
            (all_append _ own (joined 8 entries)
            (g.mark, (g.number, (sym r.role, (sym r.ports, (sym r.source, (sym r.handler, tt))))))
            (all-joined _ entries 8 entry_read))
            (all-joined _ bars 16 (λ j l. (sym (r.bars j l), tt))))
            (rw device-fields g.zeros) g.check

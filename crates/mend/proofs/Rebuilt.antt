-- A block that is rebuilt: what it says, and that nothing is wrong with it but that it may be the master's.
use mathlib.Core.Path.{◌≡◌, refl, sym, ap, ◌∙◌}
use mathlib.Core.Bool.{Bool, true, false, cond, not, ◌&&◌, false≢true}
use mathlib.Core.List.{List, []}
use mathlib.Core.Logic.{dite}
use Prim.Native.Nat.{ℕ, ◌+◌, ◌*◌, ◌/◌, ◌%◌, ◌≤◌, ◌<◌}
use native.Mathlib.Decide.{dec_lt}
use native.Mathlib.Omega.{arith}
use lib.Dec.{eqb, ltb, leb}
use lib.ListN.{get_or-eq_default}
use borrow.Author.Tests.{lt-ltb, ltb-true, eqb-true, eq-eqb, ne_eqb}
use Rattle.lists.specs.Table.{table}
use Rattle.lists.proofs.Facts.{facts}
use Rattle.lists.proofs.Tables.{get_d-table, length-table, same-joined}
use Rattle.lists.proofs.Tests.{or_right}
use Rattle.plan.specs.Block.{number_in, kind_field}
use Rattle.plan.specs.Fields.{number_field, role_in, nobody, ports_fit, masks_fit, master_is_node, device_fits}
use Rattle.plan.specs.Inner.File.{block_of, entry_holdings, bar_holdings, device_holdings}
use Rattle.plan.specs.Inner.Memory.{at, peer_at}
use Rattle.plan.specs.Header.{core_with}
use Rattle.plan.specs.Refusals.{device_tests, count_in, peer_of}
use Rattle.plan.specs.declared.Core.{Core}
use Rattle.plan.specs.Inner.Memory.{port_right, device_right, row_right}
use Rattle.plan.proofs.BothWays.{node-master}
use Rattle.plan.proofs.Firsts.{AllPass, Stops, here, later}
use Rattle.plan.proofs.Good.{GoodDevice, good-device}
use Rattle.plan.proofs.Rows.{free-bar, written_row, written-device}
use Rattle.mend.specs.Claims.{damaged, pointed, claims, claimant}
use Rattle.mend.specs.Mended.{router_holdings, ports_for, rebuilt}
use Rattle.mend.specs.Kept.{Router}
use Rattle.mend.specs.Inner.Steps.{Fronted}
use Rattle.mend.proofs.Last.{Lasts, nowhere, there, last-is, last_found}

-- ---- the numbers of a router

-- a device of which these numbers are known is written so
module _ (core : Core) (peers : List (List ℕ)) (barred : List ℕ) (d ports : ℕ) (peer : ℕ → ℕ) (role : at core.role d ≡ 1) (own : at core.ports d ≡ ports)
    (source : at core.source d ≡ 0) (handler : at core.handler d ≡ 0) (leads : (p : ℕ) → p < 8 → peer_at peers d p ≡ peer p)
    (none : (p : ℕ) → p < 8 → at core.permissions (8 * d + p) ≡ 0) (free : (j : ℕ) → j < 16 → at barred (16 * d + j) ≡ 0) where
  pub router-holdings : device_holdings core peers barred d ≡ router_holdings d ports peer
  unfolding device_holdings
  router-holdings =
      rw (
        role,
        own,
        source,
        handler,
        same-joined 8 (λ p. entry_holdings p (peer_at peers d p) (at core.permissions (8 * d + p))) (λ p. entry_holdings p (peer p) 0) (λ p l. rw (leads p l, none p l)),
        same-joined 16 (λ j. bar_holdings j (at barred (16 * d + j))) (λ j. bar_holdings j 0) (λ j l. rw (free j l)),
      )

-- ---- claims

-- a port that is said to lead to another one is that of a good block
pub points : (file : List ℕ) (q t : ℕ) → pointed file q ≡ t → t < 256 → (q / 8 < count_in file) × (damaged file (q / 8) ≡ false) × (peer_of file (q / 8) (q % 8) ≡ t)
unfolding pointed
points file q t e l = by-test (ltb (q / 8) (count_in file)) refl (damaged file (q / 8)) refl e
  where
    by-test : (a : Bool) → ltb (q / 8) (count_in file) ≡ a → (b : Bool) → damaged file (q / 8) ≡ b → cond (a && not b) (peer_of file (q / 8) (q % 8)) nobody ≡ t
        → (q / 8 < count_in file) × (damaged file (q / 8) ≡ false) × (peer_of file (q / 8) (q % 8) ≡ t)
    by-test true f false g e = (ltb-true _ _ f, g, e)
    by-test true f true g e = absurd (omega (arith, e))
    by-test false f b g e = absurd (omega (arith, e))

-- what is known of who claims a port
pub data Claimant (file : List ℕ) (t : ℕ) : ℕ → Type 0 where
  by-nobody : ((q : ℕ) → q < 256 → pointed file q ≡ t → ⊥) → Claimant file t nobody
  by-port : {q : ℕ} → q < 256 → q / 8 < count_in file → damaged file (q / 8) ≡ false → peer_of file (q / 8) (q % 8) ≡ t → Claimant file t q

pub claimant-of : (file : List ℕ) (t : ℕ) → t < 256 → Claimant file t (claimant file t)
unfolding claimant claims
claimant-of file t l = by-case (last-is 256 (claims file t) nobody)
  where
    by-case : {q : ℕ} → Lasts 256 (claims file t) nobody q → Claimant file t q
    by-case (nowhere h) = by-nobody (λ q k e. false≢true (sym (h q k) ∙ eq-eqb _ _ e))
    by-case (there {i = q} k e h) = let f = points file q t (eqb-true _ _ e) l in by-port {q = q} k f.0 f.1 f.2

-- the fields of a device fit only where a master is a node
fits-node : (n master d : ℕ) (s : List ℕ) → device_fits n master d s ≡ true → master_is_node master d (role_in s) ≡ true
unfolding device_fits
fits-node n master d s e = let f = simp facts at e in f.0.0.1

-- ---- the row of a rebuilt device among n

module _ (file : List ℕ) (front : Fronted file) where
  abbrev n : ℕ
  n = count_in file

  abbrev core : Core
  core =
      core_with (record { devices = n; master = 0; events = 0; loads = [] }) (table 32 (λ d. 1)) (table 32 (ports_for file)) (table 32 (λ d. 0)) (table 32 (λ d. 0))
      (table 256 (λ q. 0))

  abbrev peers : List (List ℕ)
  peers = table 32 (λ d. table 8 (λ p. claimant file (8 * d + p)))

  abbrev barred : List ℕ
  barred = table 512 (λ i. 0)

  module _ (d : ℕ) (h : d < n) where
    below : d < 32
    below = omega (arith, front.few)

    peer-at : (p : ℕ) → p < 8 → peer_at peers d p ≡ claimant file (8 * d + p)
    peer-at p l = ap (λ row. at row p) (get_d-table 32 (λ d. table 8 (λ p. claimant file (8 * d + p))) d [] below) ∙ get_d-table 8 _ p 0 l

    is-written : rebuilt file d ≡ block_of (device_holdings core peers barred d)
    unfolding rebuilt
    is-written =
        ap block_of
        (sym (router-holdings core peers barred d (ports_for file d) (λ p. claimant file (8 * d + p)) (get_d-table 32 _ d 0 below) (get_d-table 32 _ d 0 below) (get_d-table 32 _ d 0 below)
        (get_d-table 32 _ d 0 below) peer-at (λ p l. get_d-table 256 _ (8 * d + p) 0 (omega (arith, below))) (λ j l. get_d-table 512 _ (16 * d + j) 0 (omega (arith, below)))))

    few-ports : (1 ≤ ports_for file d) × (ports_for file d ≤ 8)
    unfolding ports_for
    few-ports = (omega arith, by-case (last-is 8 (λ p. not (eqb (claimant file (8 * d + p)) nobody)) 0))
      where
        by-case : {m : ℕ} {f : ℕ → Bool} → Lasts 8 f 0 m → 1 + m ≤ 8
        by-case (nowhere g) = omega arith
        by-case (there k e g) = omega arith

    -- a port that is claimed is one that it has
    pub has-port : (p : ℕ) → p < 8 → (claimant file (8 * d + p) ≡ nobody → ⊥) → p < ports_for file d
    unfolding ports_for
    has-port p l e = let f = last_found 8 (λ p. not (eqb (claimant file (8 * d + p)) nobody)) 0 p l (rw (ne_eqb _ _ e)) in omega (arith, f.2)

    port-fits : (p : ℕ) → p < 8 → port_right n (ports_for file d) p (claimant file (8 * d + p)) 0 ≡ true
    unfolding port_right
    port-fits p l = by-case (claimant-of file (8 * d + p) (omega (arith, below))) (has-port p l)
      where
        by-case : {q : ℕ} → Claimant file (8 * d + p) q → ((q ≡ nobody → ⊥) → p < ports_for file d)
            → cond (ltb p (ports_for file d) && ltb q (8 * n)) (leb 0 15) (eqb q nobody && eqb 0 0) ≡ true
        by-case (by-nobody g) has = by-test (ltb p (ports_for file d) && ltb nobody (8 * n))
          where
            by-test : (b : Bool) → cond b (leb 0 15) (eqb nobody nobody && eqb 0 0) ≡ true
            by-test true = refl
            by-test false = refl
        by-case (by-port {q = q} k f g e) has = rw (lt-ltb p (ports_for file d) (has (λ z. omega (arith, z))), lt-ltb q (8 * n) (omega arith))

    no-master : not (eqb 0 (d + 1)) ≡ true
    no-master = rw (ne_eqb 0 (d + 1) (λ z. omega (arith, z)))

    row_fits : row_right core peers barred d ≡ true
    unfolding row_right device_right ports_fit masks_fit master_is_node
    row_fits =
        rw (lt-ltb d n h, get_d-table {A = ℕ} 32 (λ d. 1) d 0 below, get_d-table 32 (ports_for file) d 0 below, get_d-table {A = ℕ} 32 (λ d. 0) d 0 below)
        (simp facts (
          ((((few-ports.0, few-ports.1), (refl, refl)), no-master), λ p l. rw (peer-at p l, get_d-table {A = ℕ} 256 (λ q. 0) (8 * d + p) 0 (omega (arith, below))) (port-fits p l)),
          λ j l. rw (get_d-table {A = ℕ} 512 (λ i. 0) (16 * d + j) 0 (omega (arith, below))) (free-bar 1 (ports_for file d) j),
        ))

    numbers_fit : (at core.role d < 256) × (at core.ports d < 256) × (at core.source d < 4294967296) × (at core.handler d < 4294967296) × ((i : ℕ) → at barred i < 4294967296)
    numbers_fit =
        let f = few-ports in (
          omega (arith, get_d-table {A = ℕ} 32 (λ d. 1) d 0 below),
          omega (arith, get_d-table 32 (ports_for file) d 0 below),
          omega (arith, get_d-table {A = ℕ} 32 (λ d. 0) d 0 below),
          omega (arith, get_d-table {A = ℕ} 32 (λ d. 0) d 0 below),
          λ i. dite (dec_lt i 512) (λ l. omega (arith, get_d-table {A = ℕ} 512 (λ i. 0) i 0 l)) (λ l. omega (arith, get_or-eq_default barred 0 {n = i} (omega (arith, length-table {A = ℕ} 512 (λ i. 0))))),
        )

    -- what it says
    pub rebuilt-row : Router file d (rebuilt file d)
    rebuilt-row =
        let r = written_row core peers barred d front.few (rebuilt file d) h row_fits numbers_fit is-written in
        record {
          role = sym r.role ∙ get_d-table 32 _ d 0 below;
          ports = sym r.ports ∙ get_d-table 32 _ d 0 below;
          source = sym r.source ∙ get_d-table 32 _ d 0 below;
          handler = sym r.handler ∙ get_d-table 32 _ d 0 below;
          peers = λ p l. sym (r.peer p l) ∙ peer-at p l;
          permissions = λ p l. sym (r.permissions p l) ∙ get_d-table 256 _ (8 * d + p) 0 (omega (arith, below));
          bars = λ j l. sym (r.bars j l) ∙ get_d-table 512 _ (16 * d + j) 0 (omega (arith, below));
        }

    -- nothing is wrong with it, in a network without a master
    rebuilt-good : GoodDevice n 0 d (rebuilt file d)
    rebuilt-good = written-device core peers barred d front.few (rebuilt file d) h row_fits numbers_fit is-written

    -- nor in any other, but where it is the master's
    module _ (master : ℕ) where
      pub rebuilt-passes : (master ≡ d + 1 → ⊥) → AllPass (device_tests n master d (rebuilt file d))
      unfolding master_is_node
      rebuilt-passes z =
          let g = rebuilt-good in
          good-device (rebuilt file d) n master d
          (record {
            check = g.check;
            mark = g.mark;
            number = g.number;
            ports = g.ports;
            masks = g.masks;
            node = rw (ne_eqb master (d + 1) z) (or_right (eqb (role_in (rebuilt file d)) 0) true refl);
            entries = g.entries;
            bars = g.bars;
            zeros = g.zeros;
          })

      pub rebuilt-stops : master ≡ d + 1 → Stops (device_tests n master d (rebuilt file d)) (record { number = 23; at = 1 + d })
      unfolding device_tests
      rebuilt-stops z =
          let g = rebuilt-good in
          let s = rebuilt file d in
          let marked : (eqb (number_in s kind_field) 2 && eqb (number_in s number_field) d) ≡ true = simp facts (g.mark, g.number) in
          later g.check (later marked (here (by-test (device_fits n master d s) refl)))
        where
          by-test : (b : Bool) → device_fits n master d (rebuilt file d) ≡ b → device_fits n master d (rebuilt file d) ≡ false
          by-test false e = e
          by-test true e = absurd (omega (arith, sym (node-master master d _ z (fits-node n master d (rebuilt file d) e)) ∙ rebuilt-row.role))

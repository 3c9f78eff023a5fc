-- What it is that a file is accepted: the fact of each test, by name.
use mathlib.Core.Path.{◌≡◌, ap}
use mathlib.Core.Bool.{true}
use mathlib.Core.List.{List, [], ◌∷◌, ◌++◌}
use mathlib.Core.Logic.{inl, inr}
use Prim.Native.Nat.{ℕ, ◌+◌, ◌*◌, ◌≤◌, ◌<◌}
use native.Mathlib.Omega.{arith}
use lib.ListN.{length, get_or}
use Rattle.lists.specs.Table.{joined}
use Rattle.plan.specs.Block.{block, number_in, rest_zero, checked, kind_field}
use Rattle.plan.specs.Fields.{devices_fit, loads_fit, pair_fits, master_fits, number_field, device_fields, role_in, ports_in, source_in, handler_in, ports_fit, masks_fit, master_is_node, entry_fits, bar_in, bar_fits, device_fits, joins, sources_fit}
use Rattle.plan.specs.Header.{header_fields, header_in, pair_at, header_fits}
use Rattle.plan.specs.Refusals.{Test, test, accepts, length_fits, header_tests, device_tests, join_tests, device_block, count_in, master_in, events_in, source_of, ports_of, peer_of, tests, verdict}
use Rattle.plan.specs.declared.Header.{Header}
use Rattle.lists.proofs.Facts.{facts}
use Rattle.plan.proofs.Firsts.{AllPass, Refusal, Numbered, stops-numbered, passes-or-stops, first-accepts, accepts-all, all_append, all-front, all_back, all-joined, all-at, all-table, all-table-at, numbered-append, numbered-joined, numbered-table}

-- ---- the facts

pub record GoodHeader (s : List ℕ) : Type 0 where
  pub check : checked s ≡ true
  pub mark : number_in s kind_field ≡ 1
  pub fits : header_fits (header_in s) ≡ true
  pub zeros : rest_zero header_fields s ≡ true

pub record GoodDevice (n master d : ℕ) (s : List ℕ) : Type 0 where
  pub check : checked s ≡ true
  pub mark : number_in s kind_field ≡ 2
  pub number : number_in s number_field ≡ d
  pub ports : ports_fit (role_in s) (ports_in s) ≡ true
  pub masks : masks_fit (role_in s) (source_in s) (handler_in s) ≡ true
  pub node : master_is_node master d (role_in s) ≡ true
  pub entries : (p : ℕ) → p < 8 → entry_fits n s p ≡ true
  pub bars : (j : ℕ) → j < 16 → bar_fits (role_in s) (ports_in s) j (bar_in s j) ≡ true
  pub zeros : rest_zero device_fields s ≡ true

pub record Good (file : List ℕ) : Type 0 where
  pub long : length file ≡ 512 * (1 + count_in file)
  pub header : GoodHeader (block file 0)
  pub device : (d : ℕ) → d < count_in file → GoodDevice (count_in file) (master_in file) d (device_block file d)
  pub joined : (d : ℕ) → d < count_in file → (p : ℕ) → p < 8 → joins (ports_of file) (peer_of file) d p ≡ true
  pub sources : sources_fit (events_in file) (source_of file) (count_in file) ≡ true

-- 1 to 32 devices
pub devices-fit : (n : ℕ) → devices_fit n ≡ true → (1 ≤ n) × (n ≤ 32)
unfolding devices_fit
devices-fit n e = simp facts at e

-- the rules of block 0
pub header-says : (h : Header) → header_fits h ≡ true
    → (devices_fit h.devices ≡ true) × (loads_fit (get_or h.loads 1 0) (get_or h.loads 0 0) ≡ true) × (master_fits h.devices h.master ≡ true)
    × ((k : ℕ) → k < 32 → pair_fits (get_or h.loads (pair_at k 1) 0) (get_or h.loads (pair_at k 0) 0) ≡ true)
header-says h e = let f = simp facts at e in (search, search, search, f.1)

-- the master is one of the devices, if there is one
pub master-fits : (n master : ℕ) → master_fits n master ≡ true → master ≤ n
unfolding master_fits
master-fits n master e = simp facts at e

-- ---- the tests of one block

module _ (s : List ℕ) where
  -- the length that the count asks for is one that a file may have
  pub fitting : (n : ℕ) → n ≤ 32 → length s ≡ 512 * (1 + n) → length_fits s ≡ true
  unfolding length_fits
  fitting n h e = simp facts (omega arith)

  module _ (n master d : ℕ) where
    pub device-good : AllPass (device_tests n master d s) → GoodDevice n master d s
    unfolding device_tests device_fits
    device-good p =
        let f = simp facts at p in
        record {
          check = f.0;
          mark = f.1.0.0;
          number = f.1.0.1;
          ports = f.1.1.0.0.0.0.0;
          masks = f.1.1.0.0.0.0.1;
          node = f.1.1.0.0.0.1;
          entries = f.1.1.0.0.1;
          bars = f.1.1.0.1;
          zeros = f.1.1.1.0;
        }

    pub good-device : GoodDevice n master d s → AllPass (device_tests n master d s)
    unfolding device_tests device_fits
    good-device g = simp facts (g.check, ((g.mark, g.number), (((((g.ports, g.masks), g.node), g.entries), g.bars), (g.zeros, tt))))

-- ---- the tests of a file

module _ (file : List ℕ) where
  -- the tests of the devices' blocks, those of their connections and that of the sources, which follow the six of the length, of block 0 and
  -- of the count
  abbrev blocks : List Test
  blocks = joined (count_in file) (λ d. device_tests (count_in file) (master_in file) d (device_block file d))

  abbrev connections : List Test
  connections = joined (count_in file) (join_tests (ports_of file) (peer_of file))

  abbrev sources : List Test
  sources = test 27 0 (sources_fit (events_in file) (source_of file) (count_in file)) ∷ []

  numbered : Numbered (tests file)
  unfolding tests header_tests device_tests join_tests
  numbered =
      let devices : Numbered (blocks ++ connections) =
      numbered-append blocks connections
      (numbered-joined (λ d. device_tests (count_in file) (master_in file) d (device_block file d)) (count_in file) (λ d. omega arith))
      (numbered-joined (join_tests (ports_of file) (peer_of file)) (count_in file)
      (λ d. numbered-table 8 (λ p. test 26 (1 + d) (joins (ports_of file) (peer_of file) d p)) (λ p. omega arith))) in
      let rest : Numbered (blocks ++ connections ++ sources) = numbered-append (blocks ++ connections) sources devices (omega arith, tt) in
      (omega arith, (omega arith, (omega arith, (omega arith, (omega arith, (omega arith, rest))))))

  -- a file is refused with a number of 20 to 27
  pub refusal-numbered : ((verdict file).number ≡ 0 → ⊥) → Refusal (verdict file).number
  unfolding verdict
  refusal-numbered h =
      elim (passes-or-stops (tests file)) [
        | inl p ↦ absurd (h (ap (λ v. v.number) (first-accepts (tests file) p)))
        | inr s ↦ stops-numbered numbered s
      ]

  -- so 0 says that nothing is wrong
  pub zero-accepts : (verdict file).number ≡ 0 → verdict file ≡ accepts
  unfolding verdict
  zero-accepts e = first-accepts (tests file) (accepts-all (tests file) numbered e)

  pub good : verdict file ≡ accepts → Good file
  unfolding verdict tests header_tests join_tests
  good e =
      let p : AllPass (tests file) = accepts-all (tests file) numbered (ap (λ v. v.number) e) in
      let f = simp facts at p in
      let r : AllPass (blocks ++ connections ++ sources) = p.1.1.1.1.1.1 in
      let c : AllPass (blocks ++ connections) = all-front (blocks ++ connections) sources r in
      record {
        long = f.1.1.1.1.1.0;
        header = record { check = f.1.0; mark = f.1.1.0; fits = p.1.1.1.0; zeros = f.1.1.1.1.0 };
        device = λ d h. device-good (device_block file d) (count_in file) (master_in file) d (all-at _ (count_in file) (all-front blocks connections c) d h);
        joined = λ d h. all-table-at 8 _ (all-at _ (count_in file) (all_back blocks connections c) d h);
        sources = (all_back (blocks ++ connections) sources r).0;
      }

  pub accepted : Good file → verdict file ≡ accepts
  unfolding verdict tests header_tests join_tests
  accepted g =
      let devices : AllPass (blocks ++ connections) =
      all_append blocks connections
      (all-joined _ (count_in file) (λ d h. good-device (device_block file d) (count_in file) (master_in file) d (g.device d h)))
      (all-joined _ (count_in file) (λ d h. all-table 8 _ (g.joined d h))) in
      let rest : AllPass (blocks ++ connections ++ sources) = all_append (blocks ++ connections) sources devices (g.sources, tt) in
      let h : GoodHeader (block file 0) = g.header in
      first-accepts (tests file)
      (simp facts (
        fitting file (count_in file) (devices-fit (count_in file) (header-says (header_in (block file 0)) h.fits).0).1 g.long,
        (h.check, (h.mark, (simp facts at h.fits, (h.zeros, (g.long, rest))))),
      ))

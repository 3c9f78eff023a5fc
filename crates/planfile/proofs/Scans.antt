-- The scan of a file: the refusal of each block by itself, of the blocks in order, and what is known where nothing is refused.
use mathlib.Core.Path.{◌≡◌, refl, sym, ap, ◌∙◌}
use mathlib.Core.Bool.{true, false}
use mathlib.Core.List.{List, [], ◌∷◌, ◌++◌}
use mathlib.Core.Logic.{inl, inr}
use Prim.Native.Nat.{ℕ, ◌+◌, ◌*◌, ◌/◌, ◌≤◌, ◌<◌}
use native.Mathlib.Decide.{ℕ_discrete}
use native.Mathlib.Numerals.{add-one}
use native.Mathlib.Omega.{arith}
use lib.Dec.{eqb}
use lib.ListN.{length}
use borrow.Author.Count.{below_more}
use borrow.Author.Tests.{lt-ltb, leb-true, eqb-true, eq-eqb, ne_eqb}
use Rattle.lists.specs.Table.{joined}
use Rattle.lists.proofs.Tests.{and_left}
use Rattle.plan.specs.Block.{block}
use Rattle.plan.specs.Header.{header_in}
use Rattle.plan.specs.Refusals.{Test, test, first, length_fits, header_tests, device_tests, device_block, count_in, master_in}
use Rattle.plan.specs.Refusals.{Verdict, accepts}
use Rattle.plan.proofs.Firsts.{AllPass, Stops, here, Numbered, passes-or-stops, first_stops, first-accepts, accepts-all, stops-front, stops-back, all_append, all-front, all_back, all-joined, stops-joined, numbered-append}
use Rattle.plan.proofs.Good.{devices-fit, header-says}
use Rattle.planfile.specs.Parts.{front_tests, of_device, block_tests, refusal_in}
use Rattle.planfile.specs.Inner.Scan.{at_block, device_scan, scan_tests, scanned}
use Rattle.planfile.proofs.Marked.{Each, stops-each, first-behind}

abbrev pub place : ℕ → ℕ → Verdict
place number at = record { number = number; at = at }

-- ---- one block

-- what is said of block b: a refusal, or that it has none
module _ (b n : ℕ) where
  none-at : n ≡ 0 → at_block b n ≡ accepts
  none-at z = rw (eq-eqb n 0 z) refl

  some-at : (n ≡ 0 → ⊥) → at_block b n ≡ place n b
  some-at z = rw (ne_eqb n 0 z) refl

  blocked : {v : Verdict} → v ≡ at_block b n → 0 < v.number → (n ≡ 0 → ⊥) × (v ≡ place n b)
  blocked {v} e h =
      elim (ℕ_discrete n 0) [
        | yes z ↦ let none : v.number ≡ 0 = ap (λ (v : Verdict). v.number) (e ∙ none-at z) in absurd (omega arith)
        | no z ↦ (z, e ∙ some-at z)
      ]

  unblocked : accepts ≡ at_block b n → n ≡ 0
  unblocked e = elim (ℕ_discrete n 0) [ yes z ↦ z | no z ↦ ap (λ (v : Verdict). v.number) (sym (e ∙ some-at z)) ]

of-tests : (file : List ℕ) (b : ℕ) → b < length file / 512 → refusal_in file b ≡ (first (block_tests file b)).number
unfolding refusal_in
of-tests file b h = simp (lt-ltb b (length file / 512) h)

pub header-refusal : (file : List ℕ) → 0 < length file / 512 → refusal_in file 0 ≡ (first (header_tests (block file 0))).number
unfolding block_tests
header-refusal file h = of-tests file 0 h

pub device-refusal : (file : List ℕ) (d : ℕ) → d + 1 < length file / 512 → refusal_in file (d + 1) ≡ (first (of_device file d)).number
unfolding block_tests
device-refusal file d h = of-tests file (d + 1) h ∙ ap (λ (b : ℕ). (first (block_tests file b)).number) (add-one d)

-- ---- tests of one block

-- a list of tests of block b that is refused with number k, which is not 0
pub stops-there : {ts : List Test} {b : ℕ} (k : ℕ) → Each (λ n a. a ≡ b) ts → k ≡ (first ts).number → (k ≡ 0 → ⊥) → Stops ts (place k b)
stops-there {ts} {b} k m e h =
    elim (passes-or-stops ts) [
      | inl p ↦ absurd (h (e ∙ ap (λ (v : Verdict). v.number) (first-accepts ts p)))
      | inr s ↦ rw (e, ← stops-each (λ n a. a ≡ b) m s) s
    ]

module _ (n master d : ℕ) (s : List ℕ) where
  pub device-at : Each (λ k a. a ≡ d + 1) (device_tests n master d s)
  unfolding device_tests
  device-at = (omega arith, (omega arith, (omega arith, (omega arith, tt))))

  pub device-numbered : Numbered (device_tests n master d s)
  unfolding device_tests
  device-numbered = (omega arith, (omega arith, (omega arith, (omega arith, tt))))

module _ (s : List ℕ) where
  header_at : Each (λ k a. a ≡ 0) (header_tests s)
  unfolding header_tests
  header_at = (refl, (refl, (refl, (refl, tt))))

  pub header-numbered : Numbered (header_tests s)
  unfolding header_tests
  header-numbered = (omega arith, (omega arith, (omega arith, (omega arith, tt))))

-- ---- the blocks of the devices

-- the blocks of the first d of n devices pass
pub record Scanned (file : List ℕ) (n d : ℕ) : Type 0 where
  pub within : d ≤ n
  pub counted : n ≡ count_in file
  pub long : length file ≡ 512 * (1 + n)
  pub pass : (e : ℕ) → e < d → AllPass (of_device file e)

module _ {file : List ℕ} {n d : ℕ} (v : Scanned file n d) (h : d < n) where
  said : refusal_in file (d + 1) ≡ (first (of_device file d)).number
  said = let l = v.long in device-refusal file d (omega arith)

  pub stops-device : {r : Verdict} → r ≡ at_block (d + 1) (refusal_in file (d + 1)) → 0 < r.number → r ≡ device_scan file
  unfolding device_scan
  stops-device e k =
      let s = blocked (d + 1) (refusal_in file (d + 1)) e k in
      let at = device-at (count_in file) (master_in file) d (device_block file d) in
      s.1 ∙ sym (first_stops (stops-joined (of_device file) (count_in file) d v.pass (stops-there (refusal_in file (d + 1)) at said s.0) (omega (arith, v.counted))))

  pub scanned-more : accepts ≡ at_block (d + 1) (refusal_in file (d + 1)) → Scanned file n (d + 1)
  scanned-more e =
      record {
        within = omega arith;
        counted = v.counted;
        long = v.long;
        pass = below_more _ _ v.pass (accepts-all (of_device file d) (device-numbered (count_in file) (master_in file) d (device_block file d)) (sym said ∙ unblocked (d + 1) (refusal_in file (d + 1)) e));
      }

pub scanned-all : {file : List ℕ} {n d : ℕ} → Scanned file n d → n ≤ d → accepts ≡ device_scan file
unfolding device_scan
scanned-all {file} {n} {d} v h =
    (sym (first-accepts _ (all-joined (of_device file) (count_in file) (λ e l. v.pass e (omega (arith, v.counted))))))

-- ---- the scan

module _ (file : List ℕ) where
  abbrev pub header : List Test
  header = header_tests (block file 0)

  abbrev pub long : List Test
  long = test 20 0 (length_fits file) ∷ []

  abbrev pub counted : List Test
  counted = test 25 0 (eqb (length file) (512 * (1 + count_in file))) ∷ []

  abbrev pub devices : List Test
  devices = joined (count_in file) (of_device file)

  -- ---- what stands in front of the devices' blocks

  pub stops-long : length_fits file ≡ false → place 20 0 ≡ first (front_tests file)
  unfolding front_tests
  stops-long e = sym (first_stops (stops-front counted (stops-front {xs = long} header (here e))))

  module _ (l : length_fits file ≡ true) where
    pub has-header : 512 ≤ length file
    unfolding length_fits
    has-header = leb-true _ _ (and_left _ _ (and_left _ _ l))

    own : refusal_in file 0 ≡ (first header).number
    own = let h = has-header in header-refusal file (omega arith)

    pub stops-header : {r : Verdict} → r ≡ at_block 0 (refusal_in file 0) → 0 < r.number → r ≡ first (front_tests file)
    unfolding front_tests
    stops-header e k =
        let s = blocked 0 (refusal_in file 0) e k in
        s.1 ∙ sym (first_stops (stops-front counted (stops-back long (l, tt) (stops-there (refusal_in file 0) (header_at (block file 0)) own s.0))))

    pub passes-header : accepts ≡ at_block 0 (refusal_in file 0) → AllPass header
    passes-header e = accepts-all header (header-numbered (block file 0)) (sym own ∙ unblocked 0 (refusal_in file 0) e)

    module _ (p : AllPass header) where
      pub stops-counted : (length file ≡ 512 * (1 + count_in file) → ⊥) → place 25 0 ≡ first (front_tests file)
      unfolding front_tests
      stops-counted z = sym (first_stops (stops-back (long ++ header) (l, p) (here (ne_eqb _ _ z))))

      pub front-accepts : length file ≡ 512 * (1 + count_in file) → accepts ≡ first (front_tests file)
      unfolding front_tests
      front-accepts e = sym (first-accepts (long ++ header ++ counted) (all_append (long ++ header) counted (l, p) (eq-eqb _ _ e, tt)))

  pub front-numbered : Numbered (front_tests file)
  unfolding front_tests
  front-numbered =
      numbered-append (long ++ header) counted (numbered-append long header (omega arith, tt) (header-numbered (block file 0))) (omega arith, tt)

  pub front-passes : {v : Verdict} → v ≡ first (front_tests file) → v.number ≡ 0 → AllPass (front_tests file)
  front-passes e z = accepts-all (front_tests file) front-numbered (ap (λ (v : Verdict). v.number) (sym e) ∙ z)

  module _ (f : AllPass (front_tests file)) where
    front-parts : AllPass (long ++ header)
    unfolding front_tests
    front-parts = all-front (long ++ header) counted f

    pub front-counts : length file ≡ 512 * (1 + count_in file)
    unfolding front_tests
    front-counts = eqb-true _ _ (all_back (long ++ header) counted f).0

    pub front-header : AllPass header
    front-header = all_back long header front-parts

    pub front-few : count_in file ≤ 32
    unfolding header_tests
    front-few = (devices-fit (count_in file) (header-says (header_in (block file 0)) front-header.1.1.0).0).1

    -- ---- the scan

    pub devices-decide : device_scan file ≡ scanned file
    unfolding device_scan scanned scan_tests front_tests
    devices-decide = sym (first-behind (front_tests file) devices f)

  pub front-refuses : {v : Verdict} → v ≡ first (front_tests file) → (v.number ≡ 0 → ⊥) → v ≡ scanned file
  unfolding scanned scan_tests front_tests
  front-refuses {v} e z =
      elim (passes-or-stops (front_tests file)) [
        | inl p ↦ absurd (z (ap (λ (v : Verdict). v.number) (e ∙ first-accepts (front_tests file) p)))
        | inr s ↦ e ∙ sym (first_stops (stops-front devices s))
      ]

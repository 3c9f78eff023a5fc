-- The entry of a port, in a file and in memory: both say the same two things that a port can be.
use mathlib.Core.Path.{◌≡◌, refl, sym, ap, ◌∙◌}
use mathlib.Core.Bool.{Bool, true, false, cond, ◌&&◌, ◌||◌}
use mathlib.Core.List.{List, [], ◌∷◌}
use mathlib.Core.Logic.{◌⊎◌, inl, inr}
use Prim.Native.Nat.{ℕ, ◌+◌, ◌*◌, ◌/◌, ◌%◌, ◌≤◌, ◌<◌}
use native.Mathlib.Omega.{arith}
use lib.Dec.{eqb, ltb, leb}
use borrow.Author.Tests.{ltb-true, lt-ltb, le-ltb, ne_eqb}
use Rattle.lists.proofs.Tests.{or_cases, or_left, or_right}
use Rattle.plan.specs.Block.{byte}
use Rattle.plan.specs.Fields.{ports_in, entry, unconnected, connected, entry_fits, nobody, peer_number}
use Rattle.plan.specs.Inner.Memory.{port_right}
use Rattle.plan.specs.Inner.File.{entry_numbers}
use Rattle.lists.proofs.Facts.{facts}

-- port p of a device with so many ports, of n devices: the four bytes e of its entry, its peer and its permissions
pub data Port (n ports p : ℕ) (e : ℕ → ℕ) (peer permissions : ℕ) : Type 0 where
  leads : p < ports → e 0 < n → e 1 < 8 → e 2 ≤ 15 → e 3 ≡ 0 → peer ≡ 8 * e 0 + e 1 → permissions ≡ e 2 → Port n ports p e peer permissions
  nowhere : e 0 ≡ 255 → e 1 ≡ 255 → e 2 ≡ 0 → e 3 ≡ 0 → peer ≡ nobody → permissions ≡ 0 → Port n ports p e peer permissions

module _ {n ports p : ℕ} {e : ℕ → ℕ} {peer permissions : ℕ} where
  pub port-permissions : Port n ports p e peer permissions → permissions ≡ e 2
  port-permissions (leads h a b c z q r) = r
  port-permissions (nowhere a b c z q r) = r ∙ sym c

  -- a port that the device lacks
  pub no-port : Port n ports p e peer permissions → ports ≤ p → (peer ≡ nobody) × (permissions ≡ 0)
  no-port (leads h a b c z q r) l = absurd (omega arith)
  no-port (nowhere a b c z q r) l = (q, r)

  -- a peer is among the n devices
  pub port-range : Port n ports p e peer permissions → (peer ≡ nobody) ⊎ (peer < 8 * n)
  port-range (leads h a b c z q r) = inr (omega arith)
  port-range (nowhere a b c z q r) = inl q

-- ---- the numbers that are written of it

nobody-numbers : (peer permissions : ℕ) → peer ≡ nobody → entry_numbers peer permissions ≡ 255 ∷ 255 ∷ permissions ∷ 0 ∷ []
nobody-numbers peer permissions e = rw e

peer-numbers : (peer permissions : ℕ) → peer < 256 → entry_numbers peer permissions ≡ peer / 8 ∷ peer % 8 ∷ permissions ∷ 0 ∷ []
peer-numbers peer permissions h = rw (ne_eqb peer nobody (omega arith))

-- ---- in the file: the tests say that it is such a port

module _ (n : ℕ) (few : n ≤ 32) (s : List ℕ) (p : ℕ) where
  joined-port : connected n s p ≡ true → p < ports_in s → Port n (ports_in s) p (entry s p) (peer_number s p) (entry s p 2)
  unfolding connected peer_number
  joined-port c h =
      let f = simp facts at c in
      leads h f.0.0.0 f.0.0.1 f.0.1 f.1 (rw (ne_eqb (entry s p 0) 255 (omega arith))) refl

  loose-port : unconnected s p ≡ true → Port n (ports_in s) p (entry s p) (peer_number s p) (entry s p 2)
  unfolding unconnected peer_number
  loose-port c =
      let f = simp facts at c in
      nowhere f.0.0.0 f.0.0.1 f.0.1 f.1 (rw f.0.0.0) f.0.1

  pub entry-port : entry_fits n s p ≡ true → Port n (ports_in s) p (entry s p) (peer_number s p) (entry s p 2)
  unfolding entry_fits
  entry-port = by-test (ltb p (ports_in s)) refl
    where
      by-test : (t : Bool) → ltb p (ports_in s) ≡ t → cond t (connected n s p || unconnected s p) (unconnected s p) ≡ true
          → Port n (ports_in s) p (entry s p) (peer_number s p) (entry s p 2)
      by-test true e c = elim (or_cases (connected n s p) (unconnected s p) c) [ inl a ↦ joined-port a (ltb-true p (ports_in s) e) | inr b ↦ loose-port b ]
      by-test false e c = loose-port c

  module _ {peer permissions : ℕ} where
    pub port-entry : Port n (ports_in s) p (entry s p) peer permissions → entry_fits n s p ≡ true
    unfolding entry_fits connected unconnected
    port-entry (leads h a b c z e r) = rw (lt-ltb p (ports_in s) h) (or_left (connected n s p) (unconnected s p) (simp facts (((a, b), c), z)))
    port-entry (nowhere a b c z e r) = by-test (ltb p (ports_in s))
      where
        loose : unconnected s p ≡ true
        loose = simp facts (((a, b), c), z)

        by-test : (t : Bool) → cond t (connected n s p || unconnected s p) (unconnected s p) ≡ true
        by-test true = or_right (connected n s p) (unconnected s p) loose
        by-test false = loose

    pub port-peer : {ports : ℕ} → Port n ports p (entry s p) peer permissions → peer_number s p ≡ peer
    unfolding peer_number
    port-peer (leads h a b c z e r) = rw (ne_eqb (entry s p 0) 255 (omega arith)) (sym e)
    port-peer (nowhere a b c z e r) = rw a (sym e)

-- ---- in memory: the test says that it is such a port

module _ {n ports p : ℕ} {e : ℕ → ℕ} {peer permissions : ℕ} (few : n ≤ 32) where
  pub port-right : Port n ports p e peer permissions → port_right n ports p peer permissions ≡ true
  unfolding port_right
  port-right (leads h a b c z q r) = rw (lt-ltb p ports h, lt-ltb peer (8 * n) (omega arith)) (simp facts (omega arith))
  port-right (nowhere a b c z q r) = rw (le-ltb peer (8 * n) (omega arith)) (by-test (ltb p ports))
    where
      by-test : (t : Bool) → cond (t && false) (leb permissions 15) (eqb peer nobody && eqb permissions 0) ≡ true
      by-test true = simp facts (q, r)
      by-test false = simp facts (q, r)

  -- written again, it has the same numbers
  pub port-numbers : Port n ports p e peer permissions → entry_numbers peer permissions ≡ e 0 ∷ e 1 ∷ e 2 ∷ e 3 ∷ []
  port-numbers (leads h a b c z q r) =
      let x : e 0 ≡ peer / 8 = omega arith in
      let y : e 1 ≡ peer % 8 = omega arith in
      rw (peer-numbers peer permissions (omega arith), x, y, z, r)
  port-numbers (nowhere a b c z q r) = rw (nobody-numbers peer permissions q, a, b, c, z, r)

  -- which are bytes
  pub port-small : Port n ports p e peer permissions → (e 0 < 256) × (e 1 < 256) × (e 2 < 256) × (e 3 < 256)
  port-small (leads h a b c z q r) = omega arith
  port-small (nowhere a b c z q r) = omega arith

-- so it is one that has the numbers which are written of it
module _ (n : ℕ) (few : n ≤ 32) (ports p : ℕ) (e : ℕ → ℕ) (peer permissions : ℕ) where
  pub right-port : ((j : ℕ) → j < 4 → e j ≡ byte (entry_numbers peer permissions) j) → port_right n ports p peer permissions ≡ true → Port n ports p e peer permissions
  unfolding port_right
  right-port i = by-test (ltb p ports && ltb peer (8 * n)) refl
    where
      by-test : (t : Bool) → (ltb p ports && ltb peer (8 * n)) ≡ t → cond t (leb permissions 15) (eqb peer nobody && eqb permissions 0) ≡ true
          → Port n ports p e peer permissions
      by-test true q r =
          let f = simp facts at q in
          let g : permissions ≤ 15 = simp facts at r in
          let k : (j : ℕ) → j < 4 → e j ≡ byte (peer / 8 ∷ peer % 8 ∷ permissions ∷ 0 ∷ []) j = λ j l. i j l ∙ ap (λ ns. byte ns j) (peer-numbers peer permissions (omega arith)) in
          leads f.0 (omega (arith, k 0 (omega arith))) (omega (arith, k 1 (omega arith))) (omega (arith, k 2 (omega arith))) (k 3 (omega arith))
          (omega (arith, k 0 (omega arith), k 1 (omega arith))) (sym (k 2 (omega arith)))
      by-test false q r =
          let f = simp facts at r in
          let k : (j : ℕ) → j < 4 → e j ≡ byte (255 ∷ 255 ∷ permissions ∷ 0 ∷ []) j = λ j l. i j l ∙ ap (λ ns. byte ns j) (nobody-numbers peer permissions f.0) in
          nowhere (k 0 (omega arith)) (k 1 (omega arith)) (k 2 (omega arith) ∙ f.1) (k 3 (omega arith)) f.0 f.1

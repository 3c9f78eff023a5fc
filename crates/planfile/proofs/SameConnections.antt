-- The connections and the sources of a file in which nothing else is wrong are those of its plan.
use mathlib.Core.Path.{◌≡◌, refl, sym, ap, ◌∙◌}
use mathlib.Core.Bool.{Bool, true, false, cond, ◌&&◌, ◌||◌}
use mathlib.Core.List.{List, []}
use mathlib.Core.Logic.{◌⊎◌, inl, inr}
use Prim.Native.Nat.{ℕ, ◌+◌, ◌/◌, ◌%◌, ◌≤◌, ◌<◌}
use native.Mathlib.Decide.{ℕ_discrete}
use native.Mathlib.Omega.{arith}
use lib.Dec.{eqb, ltb, leb}
use lib.ListN.{get_or}
use borrow.Author.Tests.{lt-ltb, ltb-true, eq-eqb, ne_eqb}
use Rattle.lists.specs.Table.{joined}
use Rattle.lists.proofs.Tables.{get_d-table, same-table, same-joined}
use Rattle.lists.proofs.Tests.{and_left, and_right, or_cases}
use Rattle.plan.specs.Fields.{entry, ports_in, peer_number, nobody, unconnected, connected, entry_fits, joins}
use Rattle.plan.specs.Refusals.{test, join_tests, count_in, events_in, source_of, ports_of, peer_of}
use Rattle.plan.specs.Reading.{column, plan_of}

-- ---- a test of the connections asks the first n devices only

-- the port has no peer, or one of the first n devices
abbrev pub Leads : ℕ → ℕ → Type 0
Leads n q = (q ≡ nobody) ⊎ (q / 8 < n)

module _ (n : ℕ) (ports ports' : ℕ → ℕ) (peer peer' : ℕ → ℕ → ℕ)
    (e : (d : ℕ) → d < n → ports d ≡ ports' d) (g : (d p : ℕ) → d < n → p < 8 → peer d p ≡ peer' d p) (leads : (d p : ℕ) → d < n → p < 8 → Leads n (peer d p))
  where
    same_test : (d p : ℕ) → d < n → p < 8 → joins ports peer d p ≡ joins ports' peer' d p
    unfolding joins
    same_test d p h l =
        let q = peer d p in
        elim (leads d p h l) [
          | inl z ↦ simp (eq-eqb q nobody z, ← g d p h l)
          | inr k ↦ cc (g d p h l, e (q / 8) k, g (q / 8) (q % 8) k (omega arith))
        ]

    pub same_tests : joined n (join_tests ports peer) ≡ joined n (join_tests ports' peer')
    unfolding join_tests
    same_tests = same-joined n _ _ (λ d h. same-table 8 _ _ (λ p l. ap (test 26 (1 + d)) (same_test d p h l)))

-- ---- where an entry that fits leads

module _ (n : ℕ) (s : List ℕ) (p : ℕ) where
  -- the entry's device and port
  abbrev x : ℕ
  x = entry s p 0

  abbrev y : ℕ
  y = entry s p 1

  none : eqb x 255 ≡ true → peer_number s p ≡ nobody
  unfolding peer_number
  none e = simp e

  some : x < n → y < 8 → (x ≡ 255 → ⊥) → peer_number s p / 8 < n
  unfolding peer_number
  some h l z = simp (ne_eqb x 255 z) (omega arith)

  of-unconnected : unconnected s p ≡ true → Leads n (peer_number s p)
  unfolding unconnected
  of-unconnected e = inl (none (and_left (eqb x 255) (eqb y 255) (and_left _ (eqb (entry s p 2) 0) (and_left _ (eqb (entry s p 3) 0) e))))

  of-connected : connected n s p ≡ true → Leads n (peer_number s p)
  unfolding connected
  of-connected e =
      let two : (ltb x n && ltb y 8) ≡ true = and_left _ (leb (entry s p 2) 15) (and_left _ (eqb (entry s p 3) 0) e) in
      elim (ℕ_discrete x 255) [
        | yes z ↦ inl (none (eq-eqb x 255 z))
        | no z ↦ inr (some (ltb-true x n (and_left (ltb x n) (ltb y 8) two)) (ltb-true y 8 (and_right (ltb x n) (ltb y 8) two)) z)
      ]

  pub entry-leads : entry_fits n s p ≡ true → Leads n (peer_number s p)
  unfolding entry_fits
  entry-leads e = by-port (ltb p (ports_in s)) e
    where
      by-port : (t : Bool) → cond t (connected n s p || unconnected s p) (unconnected s p) ≡ true → Leads n (peer_number s p)
      by-port false e = of-unconnected e
      by-port true e = elim (or_cases (connected n s p) (unconnected s p) e) [ inl c ↦ of-connected c | inr u ↦ of-unconnected u ]

-- ---- what the plan holds of the devices that there are

pub devices-held : (file : List ℕ) → (plan_of file).core.devices ≡ count_in file
unfolding plan_of
devices-held file = refl

pub events-held : (file : List ℕ) → (plan_of file).core.events ≡ events_in file
unfolding plan_of
events-held file = refl

module _ (file : List ℕ) (few : count_in file ≤ 32) (d : ℕ) (h : d < count_in file) where
  pub ports-held : ports_of file d ≡ get_or (plan_of file).core.ports d 0
  unfolding plan_of column
  ports-held = sym (get_d-table 32 _ d 0 (omega arith) ∙ simp (lt-ltb d (count_in file) h))

  pub source-held : source_of file d ≡ get_or (plan_of file).core.source d 0
  unfolding plan_of column
  source-held = sym (get_d-table 32 _ d 0 (omega arith) ∙ simp (lt-ltb d (count_in file) h))

  pub peer-held : (p : ℕ) → p < 8 → peer_of file d p ≡ get_or (get_or (plan_of file).peers d []) p 0
  unfolding plan_of
  peer-held p l =
      sym (ap (λ (row : List ℕ). get_or row p 0) (get_d-table 32 _ d [] (omega arith)) ∙ get_d-table 8 _ p 0 l ∙ simp (lt-ltb d (count_in file) h))

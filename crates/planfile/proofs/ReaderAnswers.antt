-- What the reader answers, of what the scan, the search of the connections and the test of the sources say.
use mathlib.Core.Path.{◌≡◌, refl, sym, ap, ◌∙◌}
use mathlib.Core.Bool.{Bool, true, false}
use mathlib.Core.List.{List, [], ◌∷◌, ◌++◌}
use mathlib.Core.Logic.{◌⊎◌, inl, inr}
use Prim.Native.Nat.{ℕ, ◌+◌, ◌≤◌, ◌<◌, min}
use native.Mathlib.Omega.{arith}
use lib.ListN.{get_or}
use borrow.Author.Tests.{ne_eqb}
use Rattle.lists.specs.Table.{joined}
use Rattle.lists.proofs.Facts.{facts}
use Rattle.plan.specs.Block.{block}
use Rattle.plan.specs.Fields.{device_fits, sources_fit}
use Rattle.plan.specs.Refusals.{Test, test, accepts, first, device_tests, join_tests, device_block, count_in, master_in, events_in, source_of, ports_of, peer_of, tests, verdict}
use Rattle.plan.specs.Refusals.{Verdict}
use Rattle.plan.specs.Reading.{plan_of, zeros, reads}
use Rattle.plan.specs.declared.Core.{Core}
use Rattle.plan.specs.declared.Plan.{Plan}
use Rattle.plan.specs.Reading.{Read}
use Rattle.plan.proofs.Firsts.{AllPass, Numbered, Stops, passes-or-stops, first-accepts, first_stops, accepts-all, all_append, all-front, all_back, all-at, stops-front, stops-back, numbered-append, numbered-joined}
use Rattle.plan.proofs.Shared.{sources-same}
use Rattle.planfile.specs.Parts.{front_tests, of_device}
use Rattle.planfile.specs.Inner.Scan.{scan_tests, scanned}
use Rattle.planfile.proofs.SameConnections.{Leads, entry-leads, same_tests, devices-held, events-held, ports-held, source-held, peer-held}
use Rattle.planfile.proofs.Marked.{Each, stops-each, each-joined, each-table, first-behind}
use Rattle.planfile.proofs.Scans.{devices, front-numbered, front-few, device-numbered}

abbrev answer : ℕ → ℕ → Plan → Read
answer number block plan = record { number = number; block = block; plan = plan }

-- the search of the connections of a plan's parts
abbrev pub bad_in : Core → List (List ℕ) → Verdict
bad_in core peers = first (joined (min core.devices 32) (join_tests (λ e. get_or core.ports e 0) (λ e q. get_or (get_or peers e []) q 0)))

module _ (file : List ℕ) where
  abbrev connections : List Test
  connections = joined (count_in file) (join_tests (ports_of file) (peer_of file))

  abbrev sources : List Test
  sources = test 27 0 (sources_fit (events_in file) (source_of file) (count_in file)) ∷ []

  -- ---- the answer by the verdict

  refused : {v : Verdict} → verdict file ≡ v → (v.number ≡ 0 → ⊥) → answer v.number v.at zeros ≡ reads file
  unfolding reads
  refused {v} e z = sym (rw (e, ne_eqb v.number 0 z))

  accepted : verdict file ≡ accepts → answer 0 0 (plan_of file) ≡ reads file
  unfolding reads
  accepted e = sym (rw e)

  -- ---- the scan refuses

  scan-decides : {v : Verdict} → Stops (scan_tests file) v → verdict file ≡ v
  unfolding verdict tests scan_tests front_tests
  scan-decides s = first_stops (stops-front sources (stops-front connections s))

  by-scan : ((scanned file).number ≡ 0 → ⊥) → answer (scanned file).number (scanned file).at zeros ≡ reads file
  unfolding scanned
  by-scan z =
      elim (passes-or-stops (scan_tests file)) [
        | inl p ↦ absurd (z (ap (λ (v : Verdict). v.number) (first-accepts (scan_tests file) p)))
        | inr s ↦ refused (scan-decides s) z
      ]

  pub scan-refuses : {place : Verdict} → place ≡ scanned file → (place.number ≡ 0 → ⊥) → answer place.number place.at zeros ≡ reads file
  scan-refuses {place} e z = rw e (by-scan (rw e at z))

  -- ---- the scan does not

  scan-numbered : Numbered (scan_tests file)
  unfolding scan_tests front_tests
  scan-numbered =
      numbered-append (front_tests file) (devices file) (front-numbered file)
      (numbered-joined (of_device file) (count_in file) (λ d. device-numbered (count_in file) (master_in file) d (device_block file d)))

  -- all tests but those of the connections and of the sources are passed
  pub scan-passes : {place : Verdict} → place ≡ scanned file → place.number ≡ 0 → AllPass (scan_tests file)
  unfolding scanned
  scan-passes e z = accepts-all (scan_tests file) scan-numbered (ap (λ (place : Verdict). place.number) (sym e) ∙ z)

  module _ (p : AllPass (scan_tests file)) where
    front : AllPass (front_tests file)
    unfolding scan_tests front_tests
    front = all-front (front_tests file) (devices file) p

    count-few : count_in file ≤ 32
    count-few = front-few file front

    leads : (d q : ℕ) → d < count_in file → q < 8 → Leads (count_in file) (peer_of file d q)
    unfolding scan_tests front_tests device_tests device_fits
    leads d q h l =
        let s = device_block file d in
        let n = count_in file in
        let all = all-at (of_device file) n (all_back (front_tests file) (devices file) p) d h in
        entry-leads n s q ((simp facts at all.1.1.0).0.1 q l)

    -- the connections are those of the plan
    bad-in : bad_in (plan_of file).core (plan_of file).peers ≡ first connections
    bad-in =
        let f = count-few in
        let e : min (plan_of file).core.devices 32 ≡ count_in file = omega (arith, devices-held file) in
        rw (e, ← same_tests (count_in file) _ _ _ _ (ports-held file f) (λ d q h. peer-held file f d h q) leads)

    -- each test of a connection is refused with 26 and the block of a device
    marked : Each (λ k a. (k ≡ 26) × (0 < a)) connections
    unfolding join_tests
    marked = each-joined _ (join_tests (ports_of file) (peer_of file)) (λ d. each-table _ 8 _ (λ i. (refl, omega arith))) (count_in file)

    -- one of them decides
    Bad : Verdict → Type 0
    Bad v = (verdict file ≡ v) × (v.number ≡ 26) × (0 < v.at)

    settled : AllPass connections ⊎ Bad (first connections)
    unfolding verdict tests scan_tests front_tests Bad
    settled =
        elim (passes-or-stops connections) [
          | inl q ↦ inl q
          | inr s ↦
              let m = stops-each (λ k a. (k ≡ 26) × (0 < a)) marked s in
              inr (first_stops (stops-front sources (stops-back (scan_tests file) p s)), m.0, m.1)
        ]

    module _ {bad : ℕ} (e : bad ≡ (bad_in (plan_of file).core (plan_of file).peers).at) where
      place : bad ≡ (first connections).at
      place = e ∙ ap (λ (v : Verdict). v.at) bad-in

      pub search-refuses : (bad ≡ 0 → ⊥) → answer 26 bad zeros ≡ reads file
      unfolding Bad
      search-refuses z =
          elim settled [
            | inl q ↦ absurd (z (place ∙ ap (λ (v : Verdict). v.at) (first-accepts connections q)))
            | inr k ↦ rw (place, ← k.1) (refused k.0 (λ n. omega (arith, k.1)))
          ]

      -- ---- no connection is bad

      module _ (z : bad ≡ 0) where
        well : AllPass connections
        unfolding Bad
        well = elim settled [ inl q ↦ q | inr k ↦ absurd (omega (arith, place, k.2)) ]

        last : verdict file ≡ first sources
        unfolding verdict tests scan_tests front_tests
        last = first-behind (scan_tests file ++ connections) sources (all_append (scan_tests file) connections p well)

        -- the sources are those of the plan
        module _ {fit : Bool} (f : fit ≡ sources_fit (plan_of file).core.events (λ d. get_or (plan_of file).core.source d 0) (min (plan_of file).core.devices 32)) where
          sources-in : sources_fit (events_in file) (source_of file) (count_in file) ≡ fit
          sources-in =
              let m : min (plan_of file).core.devices 32 ≡ count_in file = omega (arith, devices-held file, count-few) in
              sources-same (events_in file) (count_in file) _ _ (source-held file count-few) ∙ sym (f ∙ rw (m, events-held file))

          pub sources-refuse : fit ≡ false → answer 27 0 zeros ≡ reads file
          unfolding first
          sources-refuse b = refused (last ∙ rw (sources-in ∙ b)) (λ n. omega arith)

          pub sources-accept : {plan : Plan} → fit ≡ true → plan ≡ plan_of file → answer 0 0 plan ≡ reads file
          unfolding first
          sources-accept b o = rw o (accepted (last ∙ rw (sources-in ∙ b)))

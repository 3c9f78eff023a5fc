-- What the reader says of a mended file, where nothing is wrong with block 0 and the good blocks: that the master would be a router, or what is wrong
-- with its connections and its sources.
use mathlib.Core.Path.{◌≡◌, refl, sym, ap, ◌∙◌}
use mathlib.Core.Bool.{Bool, true, false, cond, not, ◌&&◌, false≢true}
use mathlib.Core.List.{List, [], ◌∷◌, ◌++◌, append_assoc}
use Prim.Native.Nat.{ℕ, ◌+◌, ◌*◌, ◌<◌}
use native.Mathlib.Omega.{arith}
use lib.Dec.{eqb}
use lib.ListN.{length}
use borrow.Author.Tests.{eq-eqb, eqb-true}
use Rattle.lists.specs.Table.{joined, every}
use Rattle.lists.proofs.Tests.{and_left, and_right, every-at}
use Rattle.plan.specs.Fields.{sources_fit}
use Rattle.plan.specs.Refusals.{Test, test, first, device_tests, join_tests, device_block, count_in, master_in, events_in, source_of, ports_of, peer_of, tests, verdict}
use Rattle.plan.proofs.Connections.{not-every}
use Rattle.plan.proofs.Firsts.{AllPass, Stops, here, first_stops, stops-front, stops-back, stops-joined, all_append, all-joined, all-at}
use Rattle.plan.proofs.Good.{fitting}
use Rattle.planfile.specs.Parts.{front_tests, of_device}
use Rattle.planfile.proofs.Marked.{first-behind}
use Rattle.planfile.proofs.Scans.{header, long, counted, front-counts, front-few, front-header}
use Rattle.mend.specs.Claims.{damaged}
use Rattle.mend.specs.Mended.{mended}
use Rattle.mend.specs.Rescue.{good_tests, result_tests}
use Rattle.mend.specs.Inner.Steps.{Fronted}
use Rattle.mend.proofs.Blocks.{mended-long, mended-header, mended-good, mended-rebuilt, mended-count, mended-master, mended-events}
use Rattle.mend.proofs.Rebuilt.{rebuilt-passes, rebuilt-stops}

-- a file whose front passes
pub fronted : (file : List ℕ) → AllPass (front_tests file) → Fronted file
fronted file p = record { few = front-few file p; long = front-counts file p }

module _ (file : List ℕ) (p : AllPass (front_tests file)) (g : AllPass (good_tests file)) where
  abbrev n : ℕ
  n = count_in file

  abbrev master : ℕ
  master = master_in file

  front : Fronted file
  front = fronted file p

  -- the tests of device d, in the mended file
  abbrev of_mended : ℕ → List Test
  of_mended d = device_tests n master d (device_block (mended file) d)

  good-passes : (d : ℕ) → d < n → damaged file d ≡ false → AllPass (of_device file d)
  unfolding good_tests
  good-passes d h e = by-test (damaged file d) e (all-at (λ d. cond (damaged file d) [] (of_device file d)) n g d h)
    where
      by-test : (b : Bool) → b ≡ false → AllPass (cond b [] (of_device file d)) → AllPass (of_device file d)
      by-test true e q = absurd (false≢true (sym e))
      by-test false e q = q

  -- all pass, but for those of a damaged master
  device-passes : (d : ℕ) → d < n → (damaged file d && eqb master (d + 1)) ≡ false → AllPass (of_mended d)
  device-passes d h e = by-test (damaged file d) refl e
    where
      by-test : (b : Bool) → damaged file d ≡ b → (b && eqb master (d + 1)) ≡ false → AllPass (of_mended d)
      by-test true q e = rw (mended-rebuilt file front d h q) (rebuilt-passes file front d h master (λ z. false≢true (sym e ∙ eq-eqb master (d + 1) z)))
      by-test false q e = rw (mended-good file front d h q) (good-passes d h q)

  device-stops : (d : ℕ) → d < n → (damaged file d && eqb master (d + 1)) ≡ true → Stops (of_mended d) (record { number = 23; at = master })
  device-stops d h e =
      let z : master ≡ d + 1 = eqb-true _ _ (and_right (damaged file d) _ e) in
      let one : 1 + d ≡ master = omega (arith, z) in
      rw (mended-rebuilt file front d h (and_left _ _ e), ← one) (rebuilt-stops file front d h (1 + d) (omega arith))

  -- ---- the tests of the mended file

  abbrev connections : List Test
  connections = joined n (join_tests (ports_of (mended file)) (peer_of (mended file)))

  abbrev sources : List Test
  sources = test 27 0 (sources_fit (events_in file) (source_of (mended file)) n) ∷ []

  mended-front : AllPass (long (mended file) ++ header (mended file) ++ counted (mended file))
  mended-front =
      let size : length (mended file) ≡ 512 * (1 + n) = mended-long file front ∙ front.long in
      all_append (long (mended file) ++ header (mended file)) (counted (mended file))
      (fitting (mended file) n front.few size, rw (mended-header file front) (front-header file p))
      (eq-eqb (length (mended file)) (512 * (1 + count_in (mended file))) (size ∙ ap (λ k. 512 * (1 + k)) (sym (mended-count file front))), tt)

  are-tests : tests (mended file) ≡ (long (mended file) ++ header (mended file) ++ counted (mended file)) ++ joined n of_mended ++ connections ++ sources
  unfolding tests
  are-tests = rw (mended-count file front, mended-master file front, mended-events file front)

  abbrev before : List Test
  before = long (mended file) ++ header (mended file) ++ counted (mended file)

  abbrev lost : ℕ → Bool
  lost d = damaged file d && eqb master (d + 1)

  not-lost : (b : Bool) → not b ≡ true → b ≡ false
  not-lost true e = absurd (false≢true e)
  not-lost false e = refl

  is_lost : (b : Bool) → not b ≡ false → b ≡ true
  is_lost true e = refl
  is_lost false e = absurd (false≢true (sym e))

  pub reader-says : verdict (mended file) ≡ first (result_tests file)
  unfolding verdict result_tests
  reader-says = rw are-tests (by-test (every n (λ d. not (lost d))) refl)
    where
      by-test : (b : Bool) → every n (λ d. not (lost d)) ≡ b → first (before ++ joined n of_mended ++ connections ++ sources) ≡ first ((test 23 master b ∷ []) ++ connections ++ sources)
      by-test true e =
          let pass : AllPass (before ++ joined n of_mended) =
          all_append before (joined n of_mended) mended-front (all-joined of_mended n (λ d h. device-passes d h (not-lost (lost d) (every-at n _ e d h)))) in
          ap first (append_assoc (before ++ joined n of_mended) connections sources) ∙ first-behind (before ++ joined n of_mended) (connections ++ sources) pass
          ∙ sym (first-behind (test 23 master true ∷ []) (connections ++ sources) (refl, tt))
      by-test false e =
          let f = not-every n (λ d. not (lost d)) e in
          let stop : Stops (joined n of_mended) (record { number = 23; at = master }) =
          stops-joined of_mended n f.place (λ d h. device-passes d (omega (arith, f.below)) (not-lost (lost d) (f.before d h)))
          (device-stops f.place f.below (is_lost (lost f.place) f.fails)) f.below in
          first_stops (stops-front sources (stops-front connections (stops-back before mended-front stop)))
          ∙ sym (first_stops (stops-front sources (stops-front {xs = test 23 master false ∷ []} connections (here refl))))

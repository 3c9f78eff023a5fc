-- What a customer asks for: an accepted file that was damaged only in blocks of devices, whose checks now fail, is mended, but where the master's
-- block is among them; and every device and link that its good blocks tell of is in the result as it was.
use mathlib.Core.Path.{◌≡◌, refl, sym, ap, ◌∙◌}
use mathlib.Core.Bool.{Bool, true, false, cond, not, ◌&&◌, false≢true}
use mathlib.Core.List.{List, [], ◌∷◌}
use mathlib.Core.Logic.{◌⊎◌, inl, inr, dite}
use Prim.Native.Nat.{ℕ, ◌+◌, ◌*◌, ◌/◌, ◌%◌, ◌≤◌, ◌<◌}
use native.Mathlib.Decide.{dec_lt, ℕ_discrete}
use native.Mathlib.Omega.{arith}
use lib.Bits.{bit_and, and_zero_l, and_zero_r}
use lib.Dec.{eqb}
use lib.ListN.{length}
use borrow.Author.Tests.{lt-ltb, eq-eqb, ne_eqb, eqb-true}
use Rattle.lists.specs.Table.{joined, every}
use Rattle.lists.proofs.Facts.{facts}
use Rattle.lists.proofs.Tests.{every-all, every-at, every-not, and_left, and_right, or_right}
use Rattle.plan.specs.Block.{block, number_in}
use Rattle.plan.specs.Fields.{ports_in, source_in, peer_number, nobody, joins, share_events, sources_fit}
use Rattle.plan.specs.Header.{devices_field, master_field, events_field, header_in}
use Rattle.plan.specs.Refusals.{Test, test, accepts, first, length_fits, join_tests, device_block, count_in, master_in, events_in, source_of, ports_of, peer_of, tests, verdict}
use Rattle.plan.specs.Refusals.{Verdict}
use Rattle.plan.proofs.Entries.{entry-port, no-port, port-range}
use Rattle.plan.proofs.Firsts.{AllPass, here, passes-or-stops, stops-numbered, first-accepts, first_stops, stops-front, all_append, all-joined, all-table}
use Rattle.plan.proofs.Good.{Good, good, good-device, header-says, master-fits}
use Rattle.planfile.specs.Parts.{front_tests, of_device}
use Rattle.planfile.proofs.Scans.{front-numbered}
use Rattle.mend.specs.Claims.{damaged, pointed, claims, claimant, once, uncontested}
use Rattle.mend.specs.Mended.{ports_for, mended}
use Rattle.mend.specs.Rescue.{longest, good_tests, claim_tests, result_tests, refusal}
use Rattle.mend.specs.Kept.{DamageOf, MasterLost, Recovers}
use Rattle.mend.specs.Inner.Steps.{Fronted}
use Rattle.mend.proofs.Last.{last_found}
use Rattle.mend.proofs.Blocks.{mended-good, mended-rebuilt}
use Rattle.mend.proofs.Keeps.{points-back}
use Rattle.mend.proofs.Passing.{passes-before, result-decides}
use Rattle.mend.proofs.Rebuilt.{points, Claimant, by-nobody, by-port, claimant-of, has-port, rebuilt-row}
use Rattle.mend.proofs.Result.{fronted}

-- the front of an accepted file passes
accepted-front : (file : List ℕ) → verdict file ≡ accepts → AllPass (front_tests file)
unfolding verdict tests front_tests
accepted-front file e =
    elim (passes-or-stops (front_tests file)) [
      | inl p ↦ p
      | inr s ↦ absurd (omega (arith, stops-numbered (front-numbered file) s, ap (λ (v : Verdict). v.number) (sym (first_stops (stops-front _ (stops-front _ (stops-front _ s)))) ∙ e)))
    ]

-- two that have nothing in common share events only
share-nothing : (events a b : ℕ) → bit_and a b ≡ 0 → share_events events a b ≡ true
unfolding share_events
share-nothing events a b z = eq-eqb (bit_and (bit_and a b) events) (bit_and a b) (ap (λ c. bit_and c events) z ∙ and_zero_l events ∙ sym z)

module _ (whole file : List ℕ) (of : DamageOf whole file) where
  abbrev n : ℕ
  n = count_in file

  same_count : n ≡ count_in whole
  same_count = ap (λ s. number_in s devices_field) of.header

  same-master : master_in file ≡ master_in whole
  same-master = ap (λ s. number_in s master_field) of.header

  same-events : events_in file ≡ events_in whole
  same-events = ap (λ s. number_in s events_field) of.header

  right : Good whole
  right = good whole of.accepted

  -- a good block is what it was
  same_block : (d : ℕ) → d < n → damaged file d ≡ false → device_block file d ≡ device_block whole d
  same_block d h e = elim (of.blocks d (omega (arith, same_count))) [ inl z ↦ absurd (false≢true (sym e ∙ z)) | inr s ↦ s ]

  front-passes : AllPass (front_tests file)
  unfolding front_tests length_fits
  front-passes = rw (of.header, of.long) (accepted-front whole of.accepted)

  front : Fronted file
  front = fronted file front-passes

  good-pass : AllPass (good_tests file)
  unfolding good_tests
  good-pass = all-joined (λ d. cond (damaged file d) [] (of_device file d)) n (λ d h. by-test d h (damaged file d) refl)
    where
      by-test : (d : ℕ) → d < n → (b : Bool) → damaged file d ≡ b → AllPass (cond b [] (of_device file d))
      by-test d h true e = tt
      by-test d h false e =
          rw (same_count, same-master, same_block d h e)
          (good-device (device_block whole d) (count_in whole) (master_in whole) d (right.device d (omega (arith, same_count))))

  -- ---- claims

  -- where port p of device d, of a good block, is said to lead, it is from there that it is led back to
  module _ (d p : ℕ) (h : d < n) (l : p < 8) (e : damaged file d ≡ false) where
    same-peer : peer_of file d p ≡ peer_of whole d p
    same-peer = ap (λ s. peer_number s p) (same_block d h e)

    back : (peer_of whole d p ≡ nobody → ⊥) → let q = peer_of whole d p in
        (q % 8 < ports_of whole (q / 8)) × (peer_of whole (q / 8) (q % 8) ≡ 8 * d + p) × (q ≡ 8 * d + p → ⊥)
    back = points-back (ports_of whole) (peer_of whole) d p (right.joined d (omega (arith, same_count)) p l)

    -- and so it is said
    points-at : pointed file (8 * d + p) ≡ peer_of file d p
    unfolding pointed
    points-at =
        let a : (8 * d + p) / 8 ≡ d = omega arith in
        let b : (8 * d + p) % 8 ≡ p = omega arith in
        rw (a, b, lt-ltb d n h, e)

  -- a port that claims another one is the one to which that led
  claim-back : (q t : ℕ) → pointed file q ≡ t → t < 256 → (peer_of whole (q / 8) (q % 8) ≡ t) × (peer_of whole (t / 8) (t % 8) ≡ q) × (t ≡ q → ⊥)
  claim-back q t e l =
      let f = points file q t e l in
      let same : peer_of whole (q / 8) (q % 8) ≡ t = sym (same-peer (q / 8) (q % 8) f.0 (omega arith) f.1) ∙ f.2 in
      let b = back (q / 8) (q % 8) f.0 (omega arith) f.1 (λ z. omega (arith, z, same)) in
      let is : 8 * (q / 8) + q % 8 ≡ q = omega arith in
      (same, rw (is, same) at b.1, λ z. b.2 (same ∙ z ∙ sym is))

  -- so no port is claimed twice
  one-claim : (t a b : ℕ) → t < 256 → pointed file a ≡ t → pointed file b ≡ t → a ≡ b
  one-claim t a b l e f = sym (claim-back a t e l).1 ∙ (claim-back b t f l).1

  claims-once : (t : ℕ) → t < 256 → once file t ≡ true
  unfolding once claims
  claims-once t l = every-all 256 _ (λ a k. every-all a _ (λ b m. by-test a b m (eqb (pointed file a) t) refl (eqb (pointed file b) t) refl))
    where
      by-test : (a b : ℕ) → b < a → (x : Bool) → eqb (pointed file a) t ≡ x → (y : Bool) → eqb (pointed file b) t ≡ y → not (x && y) ≡ true
      by-test a b m true e true f = absurd (omega (arith, one-claim t a b l (eqb-true _ _ e) (eqb-true _ _ f)))
      by-test a b m true e false f = refl
      by-test a b m false e y f = refl

  claims-pass : AllPass (claim_tests file)
  unfolding claim_tests uncontested
  claims-pass =
      all-joined (λ d. test 28 (1 + d) (uncontested file d) ∷ []) n
      (λ d h. (or_right (not (damaged file d)) _ (every-all 8 _ (λ p l. claims-once (8 * d + p) (omega (arith, front.few)))), tt))

  -- a port that one claims, it is the only one to claim
  claimant-is : (q t : ℕ) → q < 256 → t < 256 → pointed file q ≡ t → claimant file t ≡ q
  unfolding claimant claims
  claimant-is q t k l e = let f = last_found 256 (claims file t) nobody q k (eq-eqb _ _ e) in one-claim t _ q l (eqb-true _ _ f.1) e

  -- ---- the connections of the mended file

  module _ (d p : ℕ) (h : d < n) (l : p < 8) where
    of-good : damaged file d ≡ false → peer_of (mended file) d p ≡ peer_of whole d p
    of-good e = ap (λ s. peer_number s p) (mended-good file front d h e ∙ same_block d h e)

    of-damaged : damaged file d ≡ true → peer_of (mended file) d p ≡ claimant file (8 * d + p)
    of-damaged e = ap (λ s. peer_number s p) (mended-rebuilt file front d h e) ∙ (rebuilt-row file front d h).peers p l

  ports-good : (d : ℕ) → d < n → damaged file d ≡ false → ports_of (mended file) d ≡ ports_of whole d
  ports-good d h e = ap ports_in (mended-good file front d h e ∙ same_block d h e)

  ports-damaged : (d : ℕ) → d < n → damaged file d ≡ true → ports_of (mended file) d ≡ ports_for file d
  ports-damaged d h e = ap ports_in (mended-rebuilt file front d h e) ∙ (rebuilt-row file front d h).ports

  -- where a port of the whole file leads is a port of one of its devices
  range : (d p : ℕ) → d < n → p < 8 → (peer_of whole d p ≡ nobody → ⊥) → (peer_of whole d p < 8 * n) × (p < ports_of whole d)
  range d p h l z =
      let few : count_in whole ≤ 32 = omega (arith, front.few, same_count) in
      let port = entry-port (count_in whole) few (device_block whole d) p ((right.device d (omega (arith, same_count))).entries p l) in (
        elim (port-range port) [ inl w ↦ absurd (z w) | inr k ↦ omega (arith, k, same_count) ],
        dite (dec_lt p (ports_of whole d)) (λ k. k) (λ k. absurd (z (no-port port (omega arith)).0)),
      )

  -- a connection from port s to port t, which exists, points back and is another
  joined_by : (d p : ℕ) → (q : ℕ) → peer_of (mended file) d p ≡ q → q % 8 < ports_of (mended file) (q / 8) → peer_of (mended file) (q / 8) (q % 8) ≡ 8 * d + p → (q ≡ 8 * d + p → ⊥)
      → joins (ports_of (mended file)) (peer_of (mended file)) d p ≡ true
  unfolding joins
  joined_by d p q e a b c =
      rw e (or_right (eqb q nobody) _ (simp facts ((a, b), rw (ne_eqb q (8 * d + p) c))))

  joined-none : (d p : ℕ) → peer_of (mended file) d p ≡ nobody → joins (ports_of (mended file)) (peer_of (mended file)) d p ≡ true
  unfolding joins
  joined-none d p e = rw e

  -- what a good block tells of is so in the mended file, be the other end good or not
  module _ (d p : ℕ) (h : d < n) (l : p < 8) (e : damaged file d ≡ false) (z : peer_of whole d p ≡ nobody → ⊥) where
    abbrev q : ℕ
    q = peer_of whole d p

    leads : q / 8 < n
    leads = omega (arith, (range d p h l z).0)

    -- it claims that end
    claims-it : claimant file q ≡ 8 * d + p
    claims-it = claimant-is (8 * d + p) q (omega (arith, front.few)) (omega (arith, (range d p h l z).0, front.few)) (points-at d p h l e ∙ same-peer d p h l e)

    told_back : (q % 8 < ports_of (mended file) (q / 8)) × (peer_of (mended file) (q / 8) (q % 8) ≡ 8 * d + p)
    told_back = by-test (damaged file (q / 8)) refl
      where
        is : 8 * (q / 8) + q % 8 ≡ q
        is = omega arith

        by-test : (b : Bool) → damaged file (q / 8) ≡ b → (q % 8 < ports_of (mended file) (q / 8)) × (peer_of (mended file) (q / 8) (q % 8) ≡ 8 * d + p)
        by-test false f = let b = back d p h l e z in (rw (ports-good (q / 8) leads f) b.0, of-good (q / 8) (q % 8) leads (omega arith) f ∙ b.1)
        by-test true f =
            let claimed : claimant file (8 * (q / 8) + q % 8) ≡ 8 * d + p = ap (claimant file) is ∙ claims-it in (
              rw (ports-damaged (q / 8) leads f) (has-port file front (q / 8) leads (q % 8) (omega arith) (λ w. omega (arith, w, claimed, front.few))),
              of-damaged (q / 8) (q % 8) leads (omega arith) f ∙ claimed,
            )

  module _ (d p : ℕ) (h : d < n) (l : p < 8) where
    joins-good : damaged file d ≡ false → joins (ports_of (mended file)) (peer_of (mended file)) d p ≡ true
    joins-good e =
        elim (ℕ_discrete (peer_of whole d p) nobody) [
          | yes z ↦ joined-none d p (of-good d p h l e ∙ z)
          | no z ↦ let t = told_back d p h l e z in joined_by d p (peer_of whole d p) (of-good d p h l e) t.0 t.1 (back d p h l e z).2
        ]

    joins-damaged : damaged file d ≡ true → joins (ports_of (mended file)) (peer_of (mended file)) d p ≡ true
    joins-damaged e = by-case (claimant-of file (8 * d + p) (omega (arith, front.few))) (of-damaged d p h l e)
      where
        by-case : {c : ℕ} → Claimant file (8 * d + p) c → peer_of (mended file) d p ≡ c → joins (ports_of (mended file)) (peer_of (mended file)) d p ≡ true
        by-case (by-nobody g) w = joined-none d p w
        by-case (by-port {q = q} k a b c) w =
            let was : peer_of whole (q / 8) (q % 8) ≡ 8 * d + p = sym (same-peer (q / 8) (q % 8) a (omega arith) b) ∙ c in
            let there : peer_of whole (q / 8) (q % 8) ≡ nobody → ⊥ = λ z. omega (arith, z, was, front.few) in
            let r = range (q / 8) (q % 8) a (omega arith) there in
            let other = (back (q / 8) (q % 8) a (omega arith) b there).2 in
            joined_by d p q w (rw (ports-good (q / 8) a b) r.1) (of-good (q / 8) (q % 8) a (omega arith) b ∙ was) (λ z. other (was ∙ sym z ∙ omega arith))

  -- ---- sources

  -- a device is a source of what it was a source of, or of nothing
  source-either : (d : ℕ) → d < n → (source_of (mended file) d ≡ source_of whole d) ⊎ (source_of (mended file) d ≡ 0)
  source-either d h = by-test (damaged file d) refl
    where
      by-test : (b : Bool) → damaged file d ≡ b → (source_of (mended file) d ≡ source_of whole d) ⊎ (source_of (mended file) d ≡ 0)
      by-test false e = inl (ap source_in (mended-good file front d h e ∙ same_block d h e))
      by-test true e = inr (ap source_in (mended-rebuilt file front d h e) ∙ (rebuilt-row file front d h).source)

  shares : (a b x y : ℕ) → (a ≡ x) ⊎ (a ≡ 0) → (b ≡ y) ⊎ (b ≡ 0) → share_events (events_in file) x y ≡ true → share_events (events_in file) a b ≡ true
  unfolding share_events
  shares a b x y (inl e) (inl f) s = rw (e, f) s
  shares a b x y (inr e) f s = share-nothing (events_in file) a b (ap (λ c. bit_and c b) e ∙ and_zero_l b)
  shares a b x y (inl e) (inr f) s = share-nothing (events_in file) a b (ap (bit_and a) f ∙ and_zero_r a)

  sources-fit : sources_fit (events_in file) (source_of (mended file)) n ≡ true
  unfolding sources_fit
  sources-fit =
      every-all n _ (λ d h. every-all d _ (λ e k.
      shares _ _ _ _ (source-either e (omega arith)) (source-either d h) (rw same-events (every-at d _ (every-at (count_in whole) _ right.sources d (omega (arith, same_count))) e k))))

  -- ---- the tests of the result

  abbrev connections : List Test
  connections = joined n (join_tests (ports_of (mended file)) (peer_of (mended file)))

  abbrev sources : List Test
  sources = test 27 0 (sources_fit (events_in file) (source_of (mended file)) n) ∷ []

  well-joined : AllPass connections
  unfolding join_tests
  well-joined = all-joined (join_tests (ports_of (mended file)) (peer_of (mended file))) n (λ d h. all-table 8 _ (λ p l. by-test d h p l (damaged file d) refl))
    where
      by-test : (d : ℕ) → d < n → (p : ℕ) → p < 8 → (b : Bool) → damaged file d ≡ b → joins (ports_of (mended file)) (peer_of (mended file)) d p ≡ true
      by-test d h p l false e = joins-good d p h l e
      by-test d h p l true e = joins-damaged d p h l e

  abbrev lost : ℕ → Bool
  lost d = damaged file d && eqb (master_in file) (d + 1)

  decided : refusal file (length file) longest ≡ first (result_tests file)
  decided = result-decides file (length file) longest (passes-before file (length file) longest refl (omega arith) front-passes good-pass claims-pass)

  module _ (m : MasterLost file) where
    -- it is one of the devices
    below : m.master < n
    below =
        let fits = master-fits (count_in whole) (master_in whole) (header-says (header_in (block whole 0)) right.header.fits).2 in
        omega (arith, fits, m.named, same-master, same_count)

    gone : every n (λ d. not (lost d)) ≡ false
    gone = every-not n (λ d. not (lost d)) m.master below (rw (m.lost, eq-eqb (master_in file) (m.master + 1) m.named))

    master-lost : refusal file (length file) longest ≡ record { number = 23; at = m.master + 1 }
    unfolding result_tests
    master-lost =
        decided ∙ rw gone (first_stops (stops-front sources (stops-front {xs = test 23 (master_in file) false ∷ []} connections (here refl))))
        ∙ ap (λ k. record { number = 23; at = k }) m.named

  nothing-lost : (MasterLost file → ⊥) → refusal file (length file) longest ≡ accepts
  unfolding result_tests
  nothing-lost none =
      let stays : every n (λ d. not (lost d)) ≡ true = every-all n _ (λ d h. by-test d (lost d) refl) in
      decided ∙ first-accepts (result_tests file) (stays, all_append connections sources well-joined (sources-fit, tt))
    where
      by-test : (d : ℕ) (b : Bool) → lost d ≡ b → not b ≡ true
      by-test d false e = refl
      by-test d true e =
          absurd (none (record { master = d; named = eqb-true (master_in file) (d + 1) (and_right (damaged file d) _ e); lost = and_left (damaged file d) _ e }))

  pub recovers : Recovers whole file
  recovers =
      record {
        refused = master-lost;
        taken = nothing-lost;
        devices = λ d h e. let k = there h in mended-good file front d k e ∙ same_block d k e;
        links = λ d p h l e z. let k = there h in (of-good d p k l e, (told_back d p k l e z).1 ∙ sym (back d p k l e z).1, (back d p k l e z).1);
      }
    where
      there : {d : ℕ} → d < count_in whole → d < n
      there h = omega (arith, h, same_count)

-- What a held plan says, for the states of its network: how many devices, whose the ports and the masks are, where connections lead, and the loads.
use mathlib.Core.Path.{◌≡◌, refl, sym, ap, ◌∙◌}
use mathlib.Core.Bool.{Bool, true, false, not, ◌&&◌, not-eq-not, false≢true}
use mathlib.Core.Logic.{◌≢◌, ◌⊎◌, inl, inr, dite}
use Prim.Native.Nat.{ℕ, ◌+◌, ◌*◌, ◌/◌, ◌%◌, ◌≤◌, ◌<◌}
use native.Mathlib.Decide.{dec_lt, ℕ_discrete}
use native.Mathlib.Omega.{arith}
use lib.Bits.{bit_and}
use lib.Dec.{eqb}
use lib.ListN.{get_or-eq_default}
use borrow.Author.Tests.{ltb-true, ltb-false, lt-ltb, eqb-true, eqb-false, eq-eqb, ne_eqb, not-true}
use Rattle.lists.proofs.Facts.{facts}
use Rattle.lists.proofs.Tests.{both, and_left, and_right, or_cases}
use Rattle.bits.specs.Set.{bit}
use Rattle.bits.proofs.Sets.{bit-two, bit-and, bit-zero}
use Rattle.plan.specs.Block.{byte}
use Rattle.plan.specs.Fields.{nobody, loads_fit, pair_fits, ports_fit, masks_fit, bar_fits, joins}
use Rattle.plan.specs.Header.{pair_at}
use Rattle.plan.specs.Reading.{Held}
use Rattle.plan.specs.declared.Plan.{Plan}
use Rattle.plan.specs.Inner.Memory.{at, device_right, row_right}
use Rattle.plan.proofs.Entries.{no-port}
use Rattle.plan.proofs.Rows.{entry_of, right-ports, right-absent}
use Rattle.plan.proofs.There.{Right, right-says}
use Rattle.plan.proofs.BothWays.{held-right, held-shaped, held-devices, held-bars, few-ports}
use Rattle.state.specs.Network.{devices, role, router, ports_of, exists, peer, bars, guards, source, handler, load_for, load_of}

-- the far end of a connected port: it exists, its own far end is the port, and it is another port
pub record FarEnd (plan : Plan) (q : ℕ) : Type 0 where
  pub far : exists plan (peer plan q) ≡ true
  pub back : peer plan (peer plan q) ≡ q
  pub other : peer plan q ≢ q

-- who has k in a mask is a node, whose masks have no common bit
masks-say : (r source handler k : ℕ) → masks_fit r source handler ≡ true → 1 ≤ bit source k + bit handler k → (r ≡ 0) × (bit source k + bit handler k ≡ 1)
unfolding masks_fit
masks-say r source handler k fits some =
    elim (ℕ_discrete r 0) [
      | yes z ↦
          let none = eqb-true (bit_and source handler) 0 (rw (eq-eqb r 0 z) at fits) in
          (z, omega (arith, bit-and k source handler, ap (λ v. bit v k) none, bit-zero k, bit-two source k, bit-two handler k))
      | no n ↦
          let none = simp facts at (rw (ne_eqb r 0 n) at fits) in
          absurd (omega (arith, ap (λ v. bit v k) none.0, ap (λ v. bit v k) none.1, bit-zero k))
    ]

module _ (plan : Plan) (held : Held plan) where
  says : Right plan
  says = right-says plan (held-right plan held)

  pub few : devices plan ≤ 32
  few = (held-devices plan held).1

  pub device-fits : (d : ℕ) → d < devices plan → (ports_fit (role plan d) (ports_of plan d) ≡ true) × (masks_fit (role plan d) (source plan d) (handler plan d) ≡ true)
  unfolding row_right device_right
  device-fits d h = (simp facts at (rw (lt-ltb d (devices plan) h) at (says.rows d (omega (arith, few))))).0.0.0

  -- a node or a router, with few ports
  device-says : (d : ℕ) → d < devices plan → (role plan d < 2) × (ports_of plan d ≤ 8) × (role plan d ≡ 0 → ports_of plan d ≤ 2)
  device-says d h = few-ports (role plan d) (ports_of plan d) (device-fits d h).0

  -- a node has two at most
  pub node-ports : (d : ℕ) → d < devices plan → router plan d ≡ false → ports_of plan d ≤ 2
  node-ports d h node = let says = device-says d h in says.2 (omega (arith, says.0, eqb-false (role plan d) 1 node))

  -- no device has more than eight, whether it is there or not
  pub most-ports : (d : ℕ) → ports_of plan d ≤ 8
  most-ports d =
      dite (dec_lt d (devices plan)) (λ h. (device-says d h).1)
      (λ h. dite (dec_lt d 32)
      (λ l. omega (arith, (right-absent plan.core plan.peers plan.barred d few (omega arith) (says.rows d l)).ports))
      (λ l. omega (arith, get_or-eq_default plan.core.ports 0 {n = d} (omega (arith, (held-shaped plan held).ports.long)))))

  -- a device with k in one of its masks is a node, and has k in just one
  pub masked : (d k : ℕ) → d < devices plan → 1 ≤ bit (source plan d) k + bit (handler plan d) k → (role plan d ≡ 0) × (bit (source plan d) k + bit (handler plan d) k ≡ 1)
  masked d k h = masks-say (role plan d) (source plan d) (handler plan d) k (device-fits d h).1

  -- port p of device d is an existing port
  pub port-there : (d p : ℕ) → d < devices plan → p < at plan.core.ports d → (8 * d + p < 256) × (exists plan (8 * d + p) ≡ true)
  port-there d p h l =
      let most = (device-says d h).1 in
      let device : (8 * d + p) / 8 ≡ d = omega arith in
      let port : (8 * d + p) % 8 ≡ p = omega arith in
      (omega (arith, few), rw (device, port) (lt-ltb p (at plan.core.ports d) l))

  -- an existing port is one of a device of the plan
  pub owned : (q : ℕ) → q < 256 → exists plan q ≡ true → q / 8 < devices plan
  owned q h e =
      dite (dec_lt (q / 8) (devices plan)) (λ l. l)
      (λ l. absurd (omega (arith, ltb-true (q % 8) (at plan.core.ports (q / 8)) e, (right-absent plan.core plan.peers plan.barred (q / 8) few (omega arith) (says.rows (q / 8) (omega arith))).ports)))

  -- a port behind those of the devices does not exist
  pub past-absent : (q : ℕ) → q < 256 → 8 * devices plan ≤ q → exists plan q ≡ false
  past-absent q h out = by-test (exists plan q) refl
    where
      by-test : (t : Bool) → exists plan q ≡ t → exists plan q ≡ false
      by-test false e = e
      by-test true e = absurd (omega (arith, owned q h e))

  -- an absent port is connected to nothing
  pub absent-loose : (q : ℕ) → q < 256 → exists plan q ≡ false → peer plan q ≡ nobody
  absent-loose q h e =
      let d = q / 8 in
      let p = q % 8 in
      (no-port (right-ports plan.core plan.peers plan.barred d few (says.rows d (omega arith)) p (omega arith) (byte (entry_of plan.core plan.peers plan.barred d p)) (λ j l. refl))
      (ltb-false p (at plan.core.ports d) e)).0

  -- so one that is connected exists
  pub joined-exists : (q : ℕ) → q < 256 → peer plan q < nobody → exists plan q ≡ true
  joined-exists q h l = (not-eq-not {b = true}).0 (λ e. omega (arith, l, absent-loose q h e))

  pub far-end : (q : ℕ) → q < 256 → exists plan q ≡ true → peer plan q < nobody → FarEnd plan q
  unfolding joins
  far-end q h e l =
      let r = peer plan q in
      let whole : 8 * (q / 8) + q % 8 ≡ q = omega arith in
      let j = rw (whole, ne_eqb r nobody (omega arith)) at (says.joined (q / 8) (owned q h e) (q % 8) (omega arith)) in
      let test = eqb (peer plan r) q in
      record {
        far = and_left (exists plan r) test (and_left (exists plan r && test) (not (eqb r q)) j);
        back = eqb-true (peer plan r) q (and_right (exists plan r) test (and_left (exists plan r && test) (not (eqb r q)) j));
        other = eqb-false r q (not-true (eqb r q) (and_right (exists plan r && test) (not (eqb r q)) j));
      }

  -- only a port that a router has bars anything
  pub no-bars : (q kind : ℕ) → q < 256 → kind < 2 → guards plan q ≡ false → bars plan kind q ≡ 0
  unfolding bar_fits
  no-bars q kind h l y =
      let at : 16 * (q / 8) + (2 * (q % 8) + kind) ≡ 2 * q + kind = omega arith in
      let port : (2 * (q % 8) + kind) / 2 ≡ q % 8 = omega arith in
      let fits = rw (at, port) at (held-bars plan held (q / 8) (2 * (q % 8) + kind) (omega arith) (omega arith)) in
      elim (or_cases (router plan (q / 8) && exists plan q) (eqb (bars plan kind q) 0) fits) [
        | inl a ↦
            let is = and_left (router plan (q / 8)) (exists plan q) a in
            let there = and_right (router plan (q / 8)) (exists plan q) a in
            absurd (false≢true (sym y ∙ both _ _ (both _ _ (lt-ltb (q / 8) (devices plan) (owned q h there)) is) there))
        | inr z ↦ eqb-true (bars plan kind q) 0 z
      ]

  -- ---- loads

  -- the load that identifier k has of its own for a role
  abbrev own : ℕ → ℕ → ℕ
  own k role = at plan.core.loads (pair_at k role)

  -- a pair has no load, or two, of which the router's is not the greater
  pair-says : (k : ℕ) → ((own k 1 ≡ 0) × (own k 0 ≡ 0)) ⊎ ((1 ≤ own k 1) × (own k 1 ≤ own k 0))
  unfolding pair_fits loads_fit
  pair-says k =
      dite (dec_lt k 32)
      (λ l. elim (or_cases (eqb (own k 1) 0 && eqb (own k 0) 0) _ (says.pairs k l)) [
        | inl z ↦ inl (simp facts at z)
        | inr f ↦ let fits = simp facts at f in inr (omega arith, omega arith)
      ])
      (λ l.
      let past : (role : ℕ) → own k role ≡ 0 = λ role. get_or-eq_default plan.core.loads 0 {n = pair_at k role} (omega (arith, (held-shaped plan held).loads.long)) in
      inl (past 1, past 0))

  -- a load is that of the pair, or the common one
  load-of : (P : ℕ → Type 0) (role k : ℕ) → (1 ≤ own k role → P (own k role)) → (own k role ≡ 0 → P (at plan.core.loads role)) → P (load_for plan.core.loads role k)
  unfolding load_for
  load-of P role k some none =
      elim (ℕ_discrete (own k role) 0) [
        | yes z ↦ rw (eq-eqb (own k role) 0 z) (none z)
        | no n ↦ rw (ne_eqb (own k role) 0 n) (some (omega arith))
      ]

  -- a timer is loaded with 1 to 65,535
  pub load_fits : (d k : ℕ) → d < devices plan → (1 ≤ load_of plan d k) × (load_of plan d k ≤ 65535)
  unfolding loads_fit
  load_fits d k h =
      let loads = simp facts at says.loads in
      let small = (held-shaped plan held).loads.small in
      let fits : (role : ℕ) → role < 2 → 1 ≤ at plan.core.loads role = λ role l. elim (ℕ_discrete role 0) [
        | yes e ↦ rw e (omega arith)
        | no ne ↦ let e : role ≡ 1 = omega arith in rw e (omega arith)
      ] in
      load-of (λ v. (1 ≤ v) × (v ≤ 65535)) (role plan d) k (λ some. (some, omega (arith, small (pair_at k (role plan d)))))
      (λ none. (fits (role plan d) (device-says d h).0, omega (arith, small (role plan d))))

  router-least : (k : ℕ) → load_for plan.core.loads 1 k ≤ load_for plan.core.loads 0 k
  unfolding loads_fit
  router-least k =
      let loads = simp facts at says.loads in
      load-of (λ v. v ≤ load_for plan.core.loads 0 k) 1 k
      (λ some. elim (pair-says k) [
        | inl z ↦ absurd (omega (arith, z.0))
        | inr two ↦ load-of (λ v. own k 1 ≤ v) 0 k (λ n. two.1) (λ z. absurd (omega (arith, two.0, two.1)))
      ])
      (λ none. elim (pair-says k) [
        | inl z ↦ load-of (λ v. at plan.core.loads 1 ≤ v) 0 k (λ n. absurd (omega (arith, z.1))) (λ e. omega arith)
        | inr two ↦ absurd (omega (arith, two.0))
      ])

  -- no device loads it with more than a node does
  pub load-most : (d e k : ℕ) → d < devices plan → role plan e ≡ 0 → load_of plan d k ≤ load_of plan e k
  load-most d e k h node =
      elim (ℕ_discrete (role plan d) 0) [
        | yes z ↦ rw (z, node) (omega arith)
        | no ne ↦ let z : role plan d ≡ 1 = omega (arith, (device-says d h).0) in rw (z, node) (router-least k)
      ]

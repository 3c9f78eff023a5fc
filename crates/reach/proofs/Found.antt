-- The walk by visits finds exactly the devices that are reached.
use mathlib.Core.Path.{◌≡◌, refl}
use mathlib.Core.Bool.{true}
use mathlib.Core.Logic.{inl, inr}
use Prim.Native.Nat.{ℕ, ◌+◌, ◌*◌, ◌/◌, ◌%◌, ◌^◌, ◌<◌}
use native.Mathlib.Omega.{arith}
use borrow.Author.Tests.{ltb-true}
use Rattle.bits.specs.Set.{bit, join}
use Rattle.bits.proofs.Sets.{bit-zero, join-same, join-lt}
use Rattle.plan.specs.Reading.{Held}
use Rattle.plan.specs.declared.Plan.{Plan}
use Rattle.state.specs.State.{State}
use Rattle.state.specs.Network.{router, ports_of, exists}
use Rattle.state.proofs.Plans.{most-ports, joined-exists}
use Rattle.reach.specs.Walk.{Leads, WalkOver, Walk, stay, cross}
use Rattle.reach.specs.Reach.{Reached}
use Rattle.reach.specs.Visits.{seen, ahead_in, visited}
use Rattle.reach.proofs.Ahead.{leads-ahead, ahead-leads}
use Rattle.reach.proofs.VisitLaws.{joined, Ports, port-keeps, port-stays, port-done}

-- no crossings away there is the device itself
pub none-away : {plan : Plan} {s : State} {kind k d n e : ℕ} {Over : ℕ → Type 0} → WalkOver plan s kind k Over d n e → n ≡ 0 → e ≡ d
none-away stay z = refl
none-away (cross w on p l leads over) z = absurd (omega arith)

module _ (plan : Plan) (held : Held plan) (s : State) (d k : ℕ) where
  abbrev There : ℕ → Type 0
  There e = (n : ℕ) × Walk plan s 0 k d n e

  abbrev end : ℕ
  end = (visited plan s d k).set

  -- a port that leads somewhere is one that its device has
  has-port : (m p e : ℕ) → m < 32 → p < 8 → Leads plan s 0 k (8 * m + p) e → p < ports_of plan m
  has-port m p e h l leads =
      let device : (8 * m + p) / 8 ≡ m = omega arith in
      let port : (8 * m + p) % 8 ≡ p = omega arith in
      let there : exists plan (8 * m + p) ≡ true = joined-exists plan held (8 * m + p) (omega arith) leads.joined in
      ltb-true p (ports_of plan m) (rw (device, port) at there)

  module _ (h : d < 32) where
    -- ---- what is found is reached

    more-there : (set e : ℕ) → e < 32 → There e → ((i : ℕ) → bit set i ≡ 1 → There i) → (i : ℕ) → bit (join set e) i ≡ 1 → There i
    more-there set e l t all i b = elim (joined set e i b) [ inl o ↦ all i o | inr q ↦ rw q t ]

    found-there : (e : ℕ) → bit end e ≡ 1 → There e
    unfolding visited
    found-there =
        port-keeps _ _ _ (λ set. (e : ℕ) → bit set e ≡ 1 → There e) There more-there
        (λ e p r w l n. (_, cross w.1 (inr r) p (omega (arith, most-ports plan held e)) (ahead-leads plan s k (8 * e + p) n) tt))
        330 d 0 (seen (join 0 d) 0)
        (λ p l n. (_, cross stay (inl refl) p (omega (arith, most-ports plan held d)) (ahead-leads plan s k (8 * d + p) n) tt))
        (more-there 0 d h (0, stay) (λ i b. absurd (omega (arith, bit-zero i))))

    found-small : end < 2 ^ 32
    unfolding visited
    found-small =
        port-keeps _ _ _ (λ set. set < 2 ^ 32) (λ _. Unit {0}) (λ set e _ _. join-lt set e) (λ _ _ _ _ _ _. tt)
        330 d 0 (seen (join 0 d) 0) (λ _ _ _. tt) (join-lt 0 d (omega arith))

    -- ---- what is reached is found

    abbrev From : ℕ → Type 0
    From e = Ports plan.core.role plan.core.ports (ahead_in plan s k) 0 e end

    pub found-source : bit end d ≡ 1
    unfolding visited
    found-source = port-stays _ _ _ 330 d 0 (seen (join 0 d) 0) d (join-same 0 d h)

    from-source : From d
    unfolding visited
    from-source = (port-done _ _ _ (most-ports plan held) 330 d 0 (seen (join 0 d) 0) (omega arith)).1

    from-router : (e : ℕ) → bit end e ≡ 1 → router plan e ≡ true → From e
    unfolding visited
    from-router e b r =
        elim ((port-done _ _ _ (most-ports plan held) 330 d 0 (seen (join 0 d) 0) (omega arith)).0 e b) [
          | inl j ↦ elim (joined 0 d e j) [ inl o ↦ absurd (omega (arith, bit-zero e)) | inr q ↦ rw q from-source ]
          | inr on ↦ on r
        ]

    found_all : {n e : ℕ} → Walk plan s 0 k d n e → (e < 32) × (bit end e ≡ 1)
    found_all stay = (h, found-source)
    found_all (cross {d = m} {e = e} w on p l leads over) =
        let near = found_all w in
        let far = leads-ahead plan s k (8 * m + p) e leads in
        let from : From m = elim on [ inl z ↦ rw (none-away w z) from-source | inr r ↦ from-router m near.1 r ] in
        (far.1, rw far.0 at (from p (omega arith) (has-port m p e near.0 l leads) (rw far.0 far.1)))

    pub visits-reach : Reached plan s d k end
    visits-reach = record { small = found-small; only = λ e _. found-there e; all = λ n e. found_all }

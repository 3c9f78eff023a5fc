-- How many crossings away a device is can be decided; some device is the farthest, and those within its distance are those reached.
use mathlib.Core.Path.{◌≡◌, refl, sym, subst}
use mathlib.Core.Bool.{true, Bool-discrete}
use mathlib.Core.Logic.Dec
use mathlib.Core.Logic.{◌⊎◌, inl, inr}
use Prim.Native.Nat.{ℕ, zero, suc, ◌+◌, ◌*◌, ◌/◌, ◌%◌, ◌≤◌, ◌<◌}
use native.Mathlib.Decide.{map_dec, dec_lt, dec_le, ℕ_discrete, le_ind}
use native.Mathlib.Omega.{arith}
use Rattle.bits.specs.Set.{bit, size}
use Rattle.device.specs.Permissions.{may_send, may_receive}
use Rattle.plan.specs.Fields.{nobody}
use Rattle.plan.specs.Reading.{Held}
use Rattle.plan.specs.declared.Plan.{Plan}
use Rattle.state.specs.State.{State, running}
use Rattle.state.specs.Network.{devices, router, peer, permissions, bars}
use Rattle.state.proofs.Plans.{few, owned, joined-exists, far-end}
use Rattle.reach.specs.Walk.{Leads, Any, WalkOver, stay, cross}
use Rattle.reach.specs.Reach.{Reached}
use Rattle.reach.specs.Away.{AwayOver, FarthestOver, Away, Farthest}
use Rattle.reach.proofs.Found.{none-away}
use Rattle.reach.proofs.Deciding.{either?, some_below, first-up-to, count, count-le, count-gains, count-size}

-- ---- one crossing

module _ (plan : Plan) (s : State) (kind k q : ℕ) where
  leads? : (e : ℕ) → Dec (Leads plan s kind k q e)
  leads? e =
      map_dec
      (λ w. record { runs = w.0; sends = w.1.0; joined = w.1.1.0; receives = w.1.1.1.0; admits = w.1.1.1.1.0; there = w.1.1.1.1.1 })
      (λ l. (l.runs, (l.sends, (l.joined, (l.receives, (l.admits, l.there))))))
      (Dec.and (ℕ_discrete (running s q) 1)
      (Dec.and (Bool-discrete (may_send kind (permissions plan q)) true)
      (Dec.and (dec_lt (peer plan q) nobody)
      (Dec.and (Bool-discrete (may_receive kind (permissions plan (peer plan q))) true)
      (Dec.and (ℕ_discrete (bit (bars plan kind (peer plan q)) k) 0) (ℕ_discrete e (peer plan q / 8)))))))

  -- a port leads to a device of the plan
  leads-device : Held plan → (e : ℕ) → q < 256 → Leads plan s kind k q e → e < devices plan
  leads-device held e h l =
      let there = joined-exists plan held q h l.joined in
      rw l.there (owned plan held (peer plan q) l.joined (far-end plan held q h there l.joined).far)

-- ---- walks from a device of the plan

module _ (plan : Plan) (held : Held plan) (s : State) (kind k from : ℕ) (h : from < devices plan) where
  pub walk-device : {Over : ℕ → Type 0} {n e : ℕ} → WalkOver plan s kind k Over from n e → e < devices plan
  walk-device stay = h
  walk-device (cross {d = d} {e = e} w on p l leads over) =
      leads-device plan s kind k (8 * d + p) held e (omega (arith, walk-device w, few plan held)) leads

  -- a device goes on from n crossings away: it is where the walk starts, or a router
  abbrev On : ℕ → ℕ → Type 0
  On n d = (n ≡ 0) ⊎ (router plan d ≡ true)

  -- one crossing more, by port q
  pub walk-port : {Over : ℕ → Type 0} {n e : ℕ} (q : ℕ) → WalkOver plan s kind k Over from n (q / 8) → On n (q / 8) → Leads plan s kind k q e → Over e
      → WalkOver plan s kind k Over from (suc n) e
  walk-port {e = e} q w on leads over =
      let whole : q ≡ 8 * (q / 8) + q % 8 = omega arith in
      cross w on (q % 8) (omega arith) (subst (λ r. Leads plan s kind k r e) whole leads) over

  -- over some devices, of which it can be told which they are
  module _ (Over : ℕ → Type 0) (over? : (e : ℕ) → Dec (Over e)) where
    abbrev Far : ℕ → ℕ → Type 0
    Far = WalkOver plan s kind k Over from

    -- port q is the last on a walk to e
    record Last (n e q : ℕ) : Type 0 where
      near : Far n (q / 8)
      on : On n (q / 8)
      leads : Leads plan s kind k q e
      over : Over e

    last-port : {m e : ℕ} → Far m e → (n : ℕ) → m ≡ suc n → (q : ℕ) × (q < 256) × Last n e q
    last-port stay n z = absurd (omega arith)
    last-port (cross {n = m} {d = d} {e = e} w on p l leads over) n z =
        let same : m ≡ n = omega arith in
        let device : (8 * d + p) / 8 ≡ d = omega arith in
        (8 * d + p, omega (arith, walk-device w, few plan held), subst (λ i. Last i e (8 * d + p)) same (record { near = rw device w; on = rw device on; leads = leads; over = over }))

    last? : (n e q : ℕ) → Dec (Far n (q / 8)) → Dec (Last n e q)
    last? n e q w? =
        map_dec
        (λ x. record { near = x.0; on = x.1.0; leads = x.1.1.0; over = x.1.1.1 })
        (λ x. (x.near, (x.on, (x.leads, x.over))))
        (Dec.and w? (Dec.and (either? (ℕ_discrete n 0) (Bool-discrete (router plan (q / 8)) true)) (Dec.and (leads? plan s kind k q e) (over? e))))

    pub walk? : (n e : ℕ) → Dec (Far n e)
    walk? zero e = map_dec (λ q. subst (Far 0) (sym q) stay) (λ w. none-away w refl) (ℕ_discrete e from)
    walk? (suc n) e =
        map_dec (λ x. walk-port x.0 x.2.near x.2.on x.2.leads x.2.over) (λ w. last-port w n refl)
        (some_below (Last n e) (λ q. last? n e q (walk? n (q / 8))) 256)

    -- ---- the fewest crossings

    abbrev At : ℕ → ℕ → Type 0
    At = AwayOver plan s kind k Over from

    pub nearest : {n e : ℕ} → Far n e → (m : ℕ) × (m ≤ n) × At m e
    nearest {n} {e} w =
        let x = first-up-to (λ m. Far m e) (λ m. walk? m e) n w in
        (x.0, x.1, record { there = x.2.is; least = x.2.none_before })

    away? : (n e : ℕ) → Dec (At n e)
    away? n e =
        map_dec
        (λ x. record { there = x.0; least = λ m l w. x.1 (m, l, w) })
        (λ a. (a.there, λ x. a.least x.0 x.1 x.2))
        (Dec.and (walk? n e) (Dec.not (some_below (λ m. Far m e) (λ m. walk? m e) n)))

    -- ---- the farthest: some device is 0 crossings away, and so on without a gap, and each time there are more devices within reach

    abbrev Some : ℕ → Type 0
    Some n = (e : ℕ) × At n e

    some? : (n : ℕ) → Dec (Some n)
    some? n =
        map_dec (λ x. (x.0, x.2)) (λ x. (x.0, omega (arith, walk-device x.1.there, few plan held), x.1)) (some_below (At n) (away? n) 32)

    -- the device before is one crossing nearer
    before : (n : ℕ) → Some (suc n) → Some n
    before n x =
        let y = last-port x.1.there n refl in (
          y.0 / 8,
          record {
            there = y.2.near;
            least = λ m l w. x.1.least (suc m) (omega arith) (walk-port y.0 w (elim y.2.on [ inl z ↦ absurd (omega arith) | inr r ↦ inr r ]) y.2.leads y.2.over);
          },
        )

    down : (n m : ℕ) → n ≤ m → Some m → Some n
    down n = le_ind (λ m. Some m → Some n) (λ x. x) (λ m _ ih x. ih (before m x))

    abbrev Near : ℕ → ℕ → Type 0
    Near n e = (m : ℕ) × (m < suc n) × Far m e

    near? : (n e : ℕ) → Dec (Near n e)
    near? n e = some_below (λ m. Far m e) (λ m. walk? m e) (suc n)

    -- how many devices are within n crossings
    abbrev near : ℕ → ℕ
    near n = count (Near n) (near? n) 32

    gains : (n : ℕ) → Some (suc n) → near n < near (suc n)
    gains n x =
        count-gains (Near n) (Near (suc n)) (near? n) (near? (suc n)) (λ e y. (y.0, omega (arith, y.1), y.2))
        32 x.0 (omega (arith, walk-device x.1.there, few plan held))
        (suc n, omega arith, x.1.there) (λ y. x.1.least y.0 y.1 y.2)

    -- some device is n crossings away; look on from there
    from-here : (left n : ℕ) → n + left ≡ 33 → Some n → n ≤ near n → (D : ℕ) × FarthestOver plan s kind k Over from D
    from-here zero n e x l = absurd (omega (arith, count-le (Near n) (near? n) 32))
    from-here (suc left) n e x l =
        elim (some? (suc n)) [
          | yes y ↦ from-here left (suc n) (omega arith) y (omega (arith, gains n y))
          | no none ↦ (
            n,
            record {
              some = x;
              most = λ m d a. elim (dec_le m n) [ yes g ↦ g | no g ↦ absurd (none (down (suc n) m (omega arith) (d, a))) ];
            },
          )
        ]

    pub farthest : (D : ℕ) × FarthestOver plan s kind k Over from D
    farthest = from-here 33 0 (omega arith) (from, record { there = stay; least = λ m l w. omega arith }) (omega arith)

    -- whether a device is reached at all
    pub reached? : (e : ℕ) → Dec ((n : ℕ) × Far n e)
    reached? e =
        map_dec (λ x. (x.0, x.2)) (λ w. let a = nearest w.1 in (a.0, omega (arith, farthest.1.most a.0 e a.2), a.2.there))
        (some_below (λ m. Far m e) (λ m. walk? m e) (suc farthest.0))

    -- some device is at each distance up to the farthest, so there are more devices within it than crossings to it
    more-near : (n : ℕ) → Some n → n < near n
    more-near zero x =
        omega (arith, count-gains (λ i. ⊥) (Near 0) (λ i. no (λ b. b)) (near? 0) (λ i b. absurd b) 32 from (omega (arith, few plan held)) (0, omega arith, stay) (λ b. b))
    more-near (suc n) x = omega (arith, more-near n (before n x), gains n x)

    -- no shortest way enters a device twice: to the farthest there are fewer crossings than devices in a set that has all that are reached
    pub crossings-below : (D set : ℕ) → FarthestOver plan s kind k Over from D → ((n e : ℕ) → Far n e → bit set e ≡ 1) → D < size set
    unfolding size
    crossings-below D set x all = omega (arith, more-near D x.some, count-size (Near D) (near? D) set 32 (λ e l w. all w.0 e w.2))

pub farthest-once : (plan : Plan) (s : State) (kind k : ℕ) (Over : ℕ → Type 0) (from D E : ℕ) → FarthestOver plan s kind k Over from D → FarthestOver plan s kind k Over from E
    → D ≡ E
farthest-once plan s kind k Over from D E x y = omega (arith, x.most E y.some.0 y.some.1, y.most D x.some.0 x.some.1)

pub any? : (e : ℕ) → Dec (Any e)
any? e = yes tt

-- ---- those within that distance are those that reach answers with

module _ (plan : Plan) (held : Held plan) (s : State) (k from D set : ℕ) (h : from < devices plan) (x : Farthest plan s 0 k from D) (y : Reached plan s from k set) where
  abbrev Counted : ℕ → Type 0
  Counted e = (n : ℕ) × (n ≤ D) × Away plan s 0 k from n e

  pub reached-counted : (e : ℕ) → e < 32 → bit set e ≡ 1 → Counted e
  reached-counted e l b =
      let a = nearest plan held s 0 k from h Any any? (y.only e l b).1 in
      (a.0, x.most a.0 e a.2, a.2)

  pub counted-reached : (e : ℕ) → Counted e → (e < 32) × (bit set e ≡ 1)
  counted-reached e a = y.all a.0 e a.2.there

  pub farthest-below : D < size set
  farthest-below = crossings-below plan held s 0 k from h Any any? D set x (λ n e w. (y.all n e w).1)

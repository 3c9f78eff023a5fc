-- How many ports the visits examine: with depth enough those of each router that joins, each once. So a walk examines those of the source and
-- of every router that it finds; they are 250 at most, and in no state more than from the start.
use mathlib.Core.Path.{◌≡◌, refl, sym, ◌∙◌}
use mathlib.Core.Bool.{Bool, true, false, cond, ◌&&◌, ◌||◌}
use mathlib.Core.List.{List, []}
use mathlib.Core.Logic.{dite}
use Prim.Native.Nat.{ℕ, zero, suc, ◌+◌, ◌-◌, ◌*◌, ◌≤◌, ◌<◌}
use native.Mathlib.Decide.{dec_lt, ℕ_discrete}
use native.Mathlib.Omega.{arith}
use lib.Dec.{eqb}
use borrow.Author.Tests.{eq-eqb, ne_eqb}
use Rattle.lists.specs.Table.{sum}
use Rattle.lists.proofs.Sums.{same_sum, sum-changed, sum-const, sum-le}
use Rattle.answers.proofs.Outcomes.{holds, passed}
use Rattle.answers.proofs.Unique.{ordered-once}
use Rattle.bits.specs.Set.{bit, join}
use Rattle.bits.proofs.Sets.{bit-zero, join-same, join-other}
use Rattle.plan.specs.Reading.{Held}
use Rattle.plan.specs.declared.Plan.{Plan}
use Rattle.state.specs.State.{State}
use Rattle.state.specs.Network.{devices, role, router, ports_of}
use Rattle.state.specs.Start.{started}
use Rattle.state.proofs.Plans.{few, node-ports, most-ports, masked}
use Rattle.state.proofs.Started.{start-joined, started-sound}
use Rattle.reach.specs.Walk.{Walk, stay, cross}
use Rattle.reach.specs.Reach.{examined_at, ports_examined, reach_asks, Reaches}
use Rattle.reach.specs.Visits.{seen, onward, ahead_in, visited}
use Rattle.reach.specs.declared.visits.Seen.{Seen}
use Rattle.reach.specs.Inner.Depth.{left, Few}
use Rattle.reach.proofs.Ahead.{leads-there}
use Rattle.reach.proofs.Distances.{walk-device}
use Rattle.reach.proofs.Found.{found-source}
use Rattle.reach.proofs.VisitLaws.{entered, fewer, passes, has, next, device, port, met, ends, goes, visit, port-goes, port-ends, device-stays}

-- ---- what visits examine, wherever ports lead

module _ (role ports : List ℕ) (to : ℕ → ℕ) where
  -- the ports of the routers in a set
  abbrev part : ℕ → ℕ → ℕ
  part set e = cond (eqb (bit set e) 1 && passes role ports to e) (has role ports to e) 0

  abbrev of-routers : ℕ → ℕ
  of-routers set = sum 32 (part set)

  -- a device that joins adds its ports, if it is a router
  joins : (d set : ℕ) → d < 32 → bit set d ≡ 0 → of-routers (join set d) ≡ of-routers set + cond (passes role ports to d) (has role ports to d) 0
  joins d set h z =
      let before : part set d ≡ 0 = simp z in
      let after : part (join set d) d ≡ cond (passes role ports to d) (has role ports to d) 0 = simp (join-same set d h) in
      omega (arith, before, after, sum-changed 32 d (part (join set d)) (part set) h (λ e l n. rw (join-other set d e n) refl))

  module _ (small : Few ports) where
    mutual
      device-counts : (depth d set : ℕ) → left set < depth → let r = device role ports to depth d set in r.examined + of-routers set ≡ of-routers r.set
      device-counts zero d set l = absurd (omega arith)
      device-counts (suc depth) d set l =
          elim (visit role ports to depth d set) [
            | met b e ↦ rw e (omega arith)
            | ends h z f e ↦ rw e (sym (joins d set h z ∙ rw f (omega arith)))
            | goes h z t e ↦
                let more : of-routers (join set d) ≡ of-routers set + has role ports to d = joins d set h z ∙ rw t refl in
                rw e (omega (arith, more, port-counts depth d 0 (seen (join set d) 0) (omega (arith, entered d set h z))))
          ]

      pub port-counts : (depth d p : ℕ) (s : Seen) → left s.set + (9 - p) < depth → let r = port role ports to depth d p s in
          r.examined + of-routers s.set ≡ s.examined + (has role ports to d - p) + of-routers r.set
      port-counts zero d p s l = absurd (omega arith)
      port-counts (suc depth) d p s l =
          dite (dec_lt p (has role ports to d))
          (λ h.
          let behind = device role ports to depth (next role ports to d p) s.set in
          let less = fewer s.set behind.set (device-stays role ports to depth (next role ports to d p) s.set) in
          rw (port-goes role ports to depth d p s h)
          (omega (
            arith,
            device-counts depth (next role ports to d p) s.set (omega (arith, small d)),
            port-counts depth d (p + 1) (onward s behind) (omega (arith, small d, less)),
          )))
          (λ h. rw (port-ends role ports to depth d p s (omega arith)) (omega arith))

-- ---- what the source adds

pub own-part : (plan : Plan) (d set : ℕ) → examined_at plan d set d ≡ ports_of plan d
own-part plan d set = simp (eq-eqb d d refl)

-- ---- so the walk from device d examines its ports and those of the routers that it finds

module _ (plan : Plan) (held : Held plan) (s : State) (d k : ℕ) (h : d < 32) where
  abbrev end : ℕ
  end = (visited plan s d k).set

  abbrev of : ℕ → ℕ → ℕ
  of = part plan.core.role plan.core.ports (ahead_in plan s k)

  -- one device adds to no routers what it adds to those found
  source-alone : bit end d ≡ 1 → sum 32 (of (join 0 d)) ≡ of end d
  source-alone b =
      let none : sum 32 (of 0) ≡ 0 = same_sum 32 (of 0) (λ _. 0) (λ e l. simp (bit-zero e)) ∙ sum-const 32 0 in
      let joined : sum 32 (of (join 0 d)) ≡ sum 32 (of 0) + cond (router plan d) (ports_of plan d) 0 = joins plan.core.role plan.core.ports (ahead_in plan s k) d 0 h (bit-zero d) in
      let found : of end d ≡ cond (router plan d) (ports_of plan d) 0 = simp b in
      omega (arith, none, joined, found)

  -- and its ports are counted, whatever it is
  with-source : ports_examined plan d end + of end d ≡ sum 32 (of end) + ports_of plan d
  unfolding ports_examined
  with-source =
      sum-changed 32 d (examined_at plan d end) (of end) h (λ e l n. simp (ne_eqb e d n)) ∙ rw (own-part plan d end) refl

  counted : (visited plan s d k).examined + sum 32 (of (join 0 d)) ≡ ports_of plan d + sum 32 (of end)
  unfolding visited
  counted =
      let c = port-counts plan.core.role plan.core.ports (ahead_in plan s k) (most-ports plan held) 330 d 0 (seen (join 0 d) 0) (omega arith) in
      omega (arith, c)

  pub visits-examine : (visited plan s d k).examined ≡ ports_examined plan d end
  visits-examine = omega (arith, counted, with-source, source-alone (found-source plan held s d k h))

-- ---- how many there can be

either-most : (b : Bool) (x y most : ℕ) → x ≤ most → y ≤ most → cond b x y ≤ most
either-most true x y most h l = h
either-most false x y most h l = l

-- the source is a node, with two ports at most, and there are 31 other devices, with eight at most
few-examined : (plan : Plan) → Held plan → (d set : ℕ) → d < devices plan → router plan d ≡ false → ports_examined plan d set ≤ 250
unfolding ports_examined
few-examined plan held d set h node =
    let eight : ℕ → ℕ = λ e. cond (eqb e d) 8 (examined_at plan d set e) in
    let other : eight d ≡ 8 = simp (eq-eqb d d refl) in
    let part : (e : ℕ) → examined_at plan d set e ≤ 8 = λ e. either-most (eqb e d || (eqb (bit set e) 1 && router plan e)) (ports_of plan e) 0 8 (most-ports plan held e) (omega arith) in
    omega (
      arith,
      own-part plan d set,
      other,
      node-ports plan held d h node,
      sum-changed 32 d (examined_at plan d set) eight (omega (arith, few plan held)) (λ e l n. simp (ne_eqb e d n)),
      sum-le 32 eight (λ _. 8) (λ e l. either-most (eqb e d) 8 (examined_at plan d set e) 8 (omega arith) (part e)),
      sum-const 32 8,
    )

module _ (plan : Plan) (s : State) (d k number value set examined : ℕ) (x : Reaches plan s d k number value set examined) where
  -- whatever the call is given
  pub at-most-250 : examined ≤ 250
  at-most-250 =
      elim (ℕ_discrete number 0) [
        | yes z ↦
            let asked = holds (reach_asks plan s d k) refl x.answers z in
            let held = asked.0 in
            let there = asked.1.1.0 in
            let node = (masked plan held d k there (omega (arith, asked.1.1.1.1.0))).0 in
            rw (x.made z).2 (few-examined plan held d set there (ne_eqb (role plan d) 1 (λ e. omega (arith, node, e))))
        | no n ↦ omega (arith, (x.kept n).2)
      ]

  pub at-most-256 : examined ≤ 256
  at-most-256 = omega (arith, at-most-250)

-- ---- in no state is it more than from the start, where every link runs

more-counted : (own passes : Bool) (a b ports : ℕ) → (a ≡ 1 → b ≡ 1) → cond (own || (eqb a 1 && passes)) ports 0 ≤ cond (own || (eqb b 1 && passes)) ports 0
more-counted true passes a b ports h = omega arith
more-counted false passes a b ports h =
    elim (ℕ_discrete a 1) [
      | yes e ↦ simp (eq-eqb a 1 e, eq-eqb b 1 (h e)) (omega arith)
      | no e ↦ simp (ne_eqb a 1 e) (omega arith)
    ]

more-examined : (plan : Plan) (d x y : ℕ) → ((e : ℕ) → e < 32 → bit x e ≡ 1 → bit y e ≡ 1) → ports_examined plan d x ≤ ports_examined plan d y
unfolding ports_examined
more-examined plan d x y h =
    sum-le 32 (examined_at plan d x) (examined_at plan d y) (λ e l. more-counted (eqb e d) (router plan e) (bit x e) (bit y e) (ports_of plan e) (h e l))

-- each walk is one from the start
starts : (plan : Plan) (held : Held plan) (s : State) (kind k d : ℕ) → d < devices plan → {n e : ℕ} → Walk plan s kind k d n e → Walk plan (started plan) kind k d n e
starts plan held s kind k d h stay = stay
starts plan held s kind k d h (cross {d = m} {e = e} w on p l leads over) =
    let small : 8 * m + p < 256 = omega (arith, walk-device plan held s kind k d h w, few plan held) in
    cross (starts plan held s kind k d h w) on p l (leads-there plan s (started plan) kind k (8 * m + p) e (start-joined plan (8 * m + p) small leads.joined) leads) over

-- so a sweep from the start shows what it costs at most
pub no-dearer : (plan : Plan) (s : State) (d k m n v w x y a b : ℕ) → Reaches plan s d k m v x a → Reaches plan (started plan) d k n w y b → a ≤ b
no-dearer plan s d k m n v w x y a b now first =
    elim (ℕ_discrete m 0) [
      | yes z ↦
          let asked = holds (reach_asks plan s d k) refl now.answers z in
          let held = asked.0 in
          let there = asked.1.1.0 in
          let done : n ≡ 0 =
          ordered-once (reach_asks plan (started plan) d k) n 0 first.answers
          (passed (reach_asks plan (started plan) d k) [] 0 (held, (started-sound plan held, asked.1.1)) refl) in
          let made = now.made z in
          let start = first.made done in
          let within : (e : ℕ) → e < 32 → bit x e ≡ 1 → bit y e ≡ 1 =
          λ e l i. let way = made.0.only e l i in (start.0.all way.0 e (starts plan held s 0 k d there way.1)).1 in
          rw (made.2, start.2) (more-examined plan d x y within)
      | no z ↦ omega (arith, (now.kept z).2)
    ]

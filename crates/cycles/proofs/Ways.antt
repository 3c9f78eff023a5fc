-- Over the links of a star, as they run at the start: the router is one crossing away from each node, and every other node two.
use mathlib.Core.Path.{◌≡◌, refl, sym, ◌∙◌}
use mathlib.Core.Logic.{inl, inr, ◌≢◌}
use Prim.Native.Nat.{ℕ, zero, suc, ◌+◌, ◌*◌, ◌/◌, ◌≤◌, ◌<◌}
use native.Mathlib.Omega.{arith}
use Rattle.plan.specs.Fields.{nobody}
use Rattle.plan.specs.declared.Plan.{Plan}
use Rattle.state.specs.State.{State, running}
use Rattle.state.specs.Network.{devices, peer}
use Rattle.state.specs.Start.{started}
use Rattle.state.proofs.Started.{start-joined}
use Rattle.reach.specs.Walk.{Leads, Any, Walk, stay, cross}
use Rattle.reach.specs.Away.{Away, Farthest}
use Rattle.reach.proofs.Found.{none-away}
use Rattle.reach.proofs.Distances.{walk-device}
use Rattle.assurance.specs.Return.{Permits, Gets, Back, AwayBack, FarthestBack, FoundBack}
use Rattle.assurance.proofs.Crossings.{walk_same, away-same}
use Rattle.assurance.proofs.Instances.{all-grant, none-barred, farthest-of}
use Rattle.cycles.proofs.Stars.{Star}

-- the links run as they do at the start
abbrev pub Links : Plan → State → Type 0
Links plan s = (q : ℕ) → q < 256 → running s q ≡ running (started plan) q

module _ {plan : Plan} {n : ℕ} (x : Star plan n) where
  pub node-there : (i : ℕ) → i < n → suc i < devices plan
  node-there i h = omega (arith, x.size)

  pub permits : (k : ℕ) (s : State) → Links plan s → Permits plan k s
  permits k s links kind q g h runs =
      let all = all-grant kind g in
      rw (x.grants q h (sym (links q h) ∙ runs)).1 (all.0, all.1, none-barred plan x.free k kind q g h)

  -- another node
  other : (i : ℕ) → (j : ℕ) × (j < n) × (j ≢ i)
  other zero = (1, x.two, λ e. omega arith)
  other (suc i) = (0, omega (arith, x.two), λ e. omega arith)

  -- ---- the ways that codes of either kind go

  module _ (kind k : ℕ) (g : kind < 2) (s : State) (links : Links plan s) where
    leads : (q e : ℕ) → q < 256 → peer plan q < nobody → e ≡ peer plan q / 8 → Leads plan s kind k q e
    leads q e h l is =
        let runs = start-joined plan q h l in
        let f = x.grants q h runs in
        record { runs = links q h ∙ runs; sends = rw f.1 (all-grant kind g).0; joined = l; receives = rw f.2 (all-grant kind g).1; admits = none-barred plan x.free k kind (peer plan q) g l; there = is }

    -- from node i + 1
    module _ (i : ℕ) (h : i < n) where
      abbrev Far : ℕ → ℕ → Type 0
      Far = Walk plan s kind k (suc i)

      pub leads-in : Leads plan s kind k (8 * suc i + 0) 0
      leads-in =
          let small = x.few in
          let there = x.back i h in
          leads (8 * suc i + 0) 0 (omega arith) (omega arith) (omega arith)

      pub to-router : Far 1 0
      to-router = cross stay (inl refl) 0 (omega arith) leads-in tt

      to-node : (j : ℕ) → j < n → Far 2 (suc j)
      to-node j l =
          let small = x.few in
          let there = x.ahead j l in
          cross to-router (inr x.hub) j (omega arith) (leads (8 * 0 + j) (suc j) (omega arith) (omega arith) (omega arith)) tt

      -- all devices, at most two crossings away
      near : (e : ℕ) → e < devices plan → (m : ℕ) × (m ≤ 2) × Far m e
      near zero l = (1, omega arith, to-router)
      near (suc j) l = (2, omega arith, to-node j (omega (arith, x.size)))

      -- fewer lead to no other node
      not-nearer : {m e : ℕ} → Far m e → m < 2 → 1 ≤ e → e ≡ suc i
      not-nearer stay l o = refl
      not-nearer (cross {d = d} {e = e} w on zero b way any) l o =
          let here : d ≡ suc i = none-away w (omega arith) in
          let at : Leads plan s kind k (8 * suc i + 0) e = rw here at way in
          absurd (omega (arith, x.few, x.back i h, at.there))
      not-nearer (cross {d = d} {e = e} w on (suc p) b way any) l o =
          let here : d ≡ suc i = none-away w (omega arith) in
          let at : Leads plan s kind k (8 * suc i + suc p) e = rw here at way in
          absurd (omega (arith, x.no_more i h p (omega arith), at.joined))

      pub away : (j : ℕ) → j < n → j ≢ i → Away plan s kind k (suc i) 2 (suc j)
      away j l ne = record { there = to-node j l; least = λ m b w. ne (omega (arith, not-nearer w b (omega arith))) }

      pub far : Farthest plan s kind k (suc i) 2
      far =
          let o = other i in
          farthest-of plan x.held s kind k (suc i) 2 (node-there i h) (suc o.0, away o.0 o.1 o.2) near

  -- node i + 1 gets to every device
  module _ (k : ℕ) (s : State) (links : Links plan s) (i : ℕ) (h : i < n) where
    pub gets : (e : ℕ) → e < devices plan → Gets plan k (suc i) s e
    gets e b = let c = near 0 k (omega arith) s links i h e b in (c.0, c.2)

    -- so ways back from node j + 1 go over all devices that there are
    module _ (j : ℕ) (l : j < n) where
      abbrev ins : (m e : ℕ) → Walk plan s 1 k (suc j) m e → Any e → Gets plan k (suc i) s e
      ins m e w any = gets e (walk-device plan x.held s 1 k (suc j) (node-there j l) w)

      pub way_back : {m e : ℕ} → Walk plan s 1 k (suc j) m e → Back plan k (suc i) (suc j) s m e
      way_back = walk_same plan x.held 1 k (suc j) (node-there j l) (λ q b. refl) ins

      pub away-back : {m e : ℕ} → Away plan s 1 k (suc j) m e → AwayBack plan k (suc i) (suc j) s m e
      away-back = away-same plan x.held 1 k (suc j) (node-there j l) (λ q b. refl) ins (λ m e w got. tt)

      -- each device is found, and it is two crossings to the farthest
      pub found_back : FoundBack plan k (suc i) (suc j) s
      found_back e w =
          let c = near 1 k (omega arith) s links j l e (walk-device plan x.held s 0 k (suc i) (node-there i h) w.1) in
          (c.0, way_back c.2)

      pub far-back : FarthestBack plan k (suc i) (suc j) s 2
      far-back =
          let f = far 1 k (omega arith) s links j l in
          record {
            some = (f.some.0, away-back f.some.1);
            most = λ m e a. f.most m e (away-same plan x.held 1 k (suc j) (node-there j l) (λ q b. refl) (λ m e w got. tt) ins a);
          }

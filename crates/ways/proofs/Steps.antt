-- What the tables of ports say of crossings: a step forward is a crossing from the source on, and a step back one on a chain to its end.
use mathlib.Core.Path.{◌≡◌, refl, sym, ap, subst, ◌∙◌}
use mathlib.Core.Bool.{Bool, true, false, cond, ◌&&◌}
use mathlib.Core.List.{List, [], ◌∷◌, ◌++◌}
use mathlib.Core.Logic.{◌⊎◌, inl, inr}
use Prim.Native.Nat.{ℕ, suc, ◌+◌, ◌*◌, ◌/◌, ◌%◌, ◌<◌}
use native.Mathlib.Omega.{arith}
use lib.Dec.{ltb}
use lib.ListN.{length, get_or, length-append}
use borrow.Author.Tests.{lt-ltb, eq-eqb}
use Rattle.lists.specs.Table.{table}
use Rattle.lists.proofs.Facts.{facts}
use Rattle.lists.proofs.Tables.{get_d-table}
use Rattle.plan.specs.Fields.{nobody}
use Rattle.plan.specs.Reading.{Held}
use Rattle.plan.specs.declared.Plan.{Plan}
use Rattle.state.specs.State.{State, words}
use Rattle.state.specs.Network.{router, peer}
use Rattle.state.proofs.Plans.{FarEnd, joined-exists, far-end}
use Rattle.reach.specs.Walk.{Leads, Walk, stay, cross}
use Rattle.reach.specs.Visits.{ahead_all, ahead_in}
use Rattle.reach.proofs.Ahead.{leads-ahead, ahead-leads}
use Rattle.ways.specs.Chain.{Chain}
use Rattle.ways.specs.Inner.Layers.{behind}
use Rattle.ways.proofs.LayerLaws.{Way, stay as here, step, way-small}

no-ports : (ports : List ℕ) → length ports ≡ 0 → ports ≡ []
no-ports [] z = refl
no-ports (q ∷ rest) z = absurd (omega arith)

-- ---- chains and walks

module _ (plan : Plan) (s : State) (k : ℕ) where
  -- a walk, and a chain from where it ends
  pub then-chain : (ports : List ℕ) (d n m e : ℕ) → Walk plan s 0 k d n m → (n ≡ 0) ⊎ ((ports ≡ []) ⊎ (router plan m ≡ true)) → Chain plan s k m ports e
      → Walk plan s 0 k d (n + length ports) e
  then-chain [] d n m e w on c = subst (λ (i : ℕ). Walk plan s 0 k d i e) (omega arith) (subst (Walk plan s 0 k d n) (sym c) w)
  then-chain (q ∷ rest) d n m e w on (x, g, c) =
      let whole : q ≡ 8 * m + q % 8 = omega (arith, g.own) in
      let passes : (n ≡ 0) ⊎ (router plan m ≡ true) = elim on [ inl z ↦ inl z | inr o ↦ elim o [ inl z ↦ absurd (cons-some z) | inr r ↦ inr r ] ] in
      let more : Walk plan s 0 k d (suc n) x = cross w passes (q % 8) (omega arith) (subst (λ (i : ℕ). Leads plan s 0 k i x) whole g.leads) tt in
      subst (λ (i : ℕ). Walk plan s 0 k d i e) (omega arith) (then-chain rest d (suc n) x e more (inr g.on) c)
    where
      cons-some : q ∷ rest ≡ [] → ⊥
      cons-some z = omega (arith, ap length z)

  pub chain-walk : (d e : ℕ) (ports : List ℕ) → Chain plan s k d ports e → Walk plan s 0 k d (length ports) e
  chain-walk d e ports c = subst (λ (i : ℕ). Walk plan s 0 k d i e) (omega arith) (then-chain ports d 0 d e stay (inl refl) c)

  -- a port more at the end of a chain
  longer : (ports : List ℕ) (d m e q : ℕ) → Chain plan s k d ports m → (ports ≡ []) ⊎ (router plan m ≡ true) → q / 8 ≡ m → Leads plan s 0 k q e
      → Chain plan s k d (ports ++ (q ∷ [])) e
  longer [] d m e q c on own leads = (e, record { own = own ∙ c; leads = leads; on = inl refl }, refl)
  longer (o ∷ rest) d m e q (x, g, c) on own leads =
      let last : router plan m ≡ true = elim on [ inl z ↦ absurd (omega (arith, ap length z)) | inr r ↦ r ] in
      let through : router plan x ≡ true = elim g.on [ inl z ↦ ap (router plan) (sym (ends rest x m z c)) ∙ last | inr r ↦ r ] in
      (x, record { own = g.own; leads = g.leads; on = inr through }, longer rest x m e q c (inr last) own leads)
    where
      ends : (r : List ℕ) (x m : ℕ) → r ≡ [] → Chain plan s k x r m → m ≡ x
      ends [] x m z c = c
      ends (y ∷ ys) x m z c = absurd (omega (arith, ap length z))

  pub walk-chain : {d n e : ℕ} → Walk plan s 0 k d n e → (ports : List ℕ) × (length ports ≡ n) × Chain plan s k d ports e
  walk-chain stay = ([], refl, refl)
  walk-chain {d = d} (cross {n = n} {d = m} {e = e} w on p l leads over) =
      let x = walk-chain w in
      let passes : (x.0 ≡ []) ⊎ (router plan m ≡ true) = elim on [ inl z ↦ inl (no-ports x.0 (x.1 ∙ z)) | inr r ↦ inr r ] in
      let q : ℕ = 8 * m + p in
      (x.0 ++ (q ∷ []), omega (arith, length-append x.0 (q ∷ []), x.1), longer x.0 d m e q x.2 passes (omega arith) leads)

-- ---- forward

module _ (plan : Plan) (s : State) (k : ℕ) (fits : length s ≡ words) where
  abbrev pub ahead : List ℕ
  ahead = ahead_all plan.core.permissions plan.peers plan.barred s k

  abbrev pub role : List ℕ
  role = plan.core.role

  ahead-at : (q : ℕ) → q < 256 → get_or ahead q 0 ≡ ahead_in plan s k q
  unfolding ahead_all
  ahead-at q h = get_d-table 256 _ q 0 h ∙ rw (eq-eqb (length s) words fits)

  pub leads-to : (q e : ℕ) → q < 256 → Leads plan s 0 k q e → (get_or ahead q 0 ≡ e) × (e < 32)
  leads-to q e h l = let x = leads-ahead plan s k q e l in (ahead-at q h ∙ x.0, x.1)

  pub to-leads : (q : ℕ) → q < 256 → get_or ahead q 0 < 32 → Leads plan s 0 k q (get_or ahead q 0)
  to-leads q h l = let e = ahead-at q h in rw e (ahead-leads plan s k q (omega (arith, e, l)))

  module _ (d : ℕ) (h : d < 32) where
    pub walk-way : {n e : ℕ} → Walk plan s 0 k d n e → Way ahead role d n e
    walk-way stay = here
    walk-way (cross {d = m} {e = e} w on p l leads over) =
        let before = walk-way w in
        let x = leads-to (8 * m + p) e (omega (arith, way-small ahead role d h before, l)) leads in
        step before on p l x.0 x.1

    pub way-walk : {n e : ℕ} → Way ahead role d n e → Walk plan s 0 k d n e
    way-walk here = stay
    way-walk (step {d = m} {e = e} w on p l q g) =
        let there = to-leads (8 * m + p) (omega (arith, way-small ahead role d h w, l)) (omega (arith, q, g)) in
        cross (way-walk w) on p l (subst (Leads plan s 0 k (8 * m + p)) q there) tt

  -- ---- back

  module _ (held : Held plan) where
    abbrev pub back : List ℕ
    back = table 256 (behind plan.peers ahead)

    back_at : (q : ℕ) → q < 256 → get_or back q 0 ≡ behind plan.peers ahead q
    back_at q h = get_d-table 256 (behind plan.peers ahead) q 0 h

    other-end : (q : ℕ) → q < 256 → peer plan q < nobody → FarEnd plan q
    other-end q h l = far-end plan held q h (joined-exists plan held q h l) l

    -- where a port leads, its device is behind the port at the other end
    leads-back : (q x : ℕ) → q < 256 → Leads plan s 0 k q x → (peer plan q / 8 ≡ x) × (get_or back (peer plan q) 0 ≡ q / 8)
    unfolding behind
    leads-back q x h l =
        let to = leads-to q x h l in
        (sym l.there, back_at (peer plan q) l.joined ∙ rw ((other-end q h l.joined).back, lt-ltb q nobody h, lt-ltb (get_or ahead q 0) 32 (omega (arith, to.0, to.1))))

    pub record Behind (r d : ℕ) : Type 0 where
      pub port : ℕ
      pub small : port < 256
      pub own : port / 8 ≡ d
      pub leads : Leads plan s 0 k port (r / 8)

    back-leads : (r : ℕ) → r < 256 → get_or back r 0 < 32 → Behind r (get_or back r 0)
    unfolding behind
    back-leads r h = subst (λ (x : ℕ). x < 32 → Behind r x) (sym (back_at r h)) (by-test (ltb (peer plan r) nobody && ltb (get_or ahead (peer plan r) 0) 32) refl)
      where
        by-test : (b : Bool) → (ltb (peer plan r) nobody && ltb (get_or ahead (peer plan r) 0) 32) ≡ b → cond b (peer plan r / 8) 32 < 32 → Behind r (cond b (peer plan r / 8) 32)
        by-test false e l = absurd (omega arith)
        by-test true e l =
            let f = simp facts at e in
            let leads = to-leads (peer plan r) f.0 f.1 in
            let there : get_or ahead (peer plan r) 0 ≡ r / 8 = leads.there ∙ ap (λ (x : ℕ). x / 8) (other-end r h f.0).back in
            record { port = peer plan r; small = f.0; own = refl; leads = subst (Leads plan s 0 k (peer plan r)) there leads }

    module _ (e : ℕ) (g : e < 32) where
      pub way-chain : {n m : ℕ} → Way back role e n m → (ports : List ℕ) × (length ports ≡ n) × Chain plan s k m ports e
      way-chain here = ([], refl, refl)
      way-chain (step {n = n} {d = x} {e = m} w on p l q h) =
          let c = way-chain w in
          let r : ℕ = 8 * x + p in
          let b = back-leads r (omega (arith, way-small back role e g w, l)) (omega (arith, q, h)) in
          let passes : (c.0 ≡ []) ⊎ (router plan x ≡ true) = elim on [ inl z ↦ inl (no-ports c.0 (c.1 ∙ z)) | inr y ↦ inr y ] in
          let device : r / 8 ≡ x = omega (arith, l) in
          (b.port ∷ c.0, ap suc c.1, (x, record { own = b.own ∙ q; leads = subst (Leads plan s 0 k b.port) device b.leads; on = passes }, c.2))

      pub chain-way : (ports : List ℕ) (m : ℕ) → m < 32 → Chain plan s k m ports e → Way back role e (length ports) m
      chain-way [] m h c = subst (Way back role e 0) c here
      chain-way (q ∷ rest) m h (x, go, c) =
          let b = leads-back q x (omega (arith, go.own, h)) go.leads in
          let r : ℕ = peer plan q in
          let whole : 8 * x + r % 8 ≡ r = omega (arith, b.0) in
          let passes : (length rest ≡ 0) ⊎ (router plan x ≡ true) = elim go.on [ inl z ↦ inl (ap length z) | inr y ↦ inr y ] in
          step (chain-way rest x (omega (arith, b.0, go.leads.joined)) c) passes (r % 8) (omega arith) (ap (λ (i : ℕ). get_or back i 0) whole ∙ b.1 ∙ go.own) h

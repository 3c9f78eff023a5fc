-- The chain that is picked is the one to be shown: real, shortest, and the first by port numbers.
use mathlib.Core.Path.{◌≡◌, refl, sym, ap, subst, ◌∙◌}
use mathlib.Core.Bool.{Bool, true, false, cond, ◌&&◌, ◌||◌, false≢true}
use mathlib.Core.List.{List, [], ◌∷◌}
use mathlib.Core.Logic.{◌⊎◌, inl, inr}
use Prim.Native.Nat.{ℕ, zero, suc, ◌+◌, ◌*◌, ◌/◌, ◌≤◌, ◌<◌}
use native.Mathlib.Decide.{dec_lt, ℕ_discrete}
use native.Mathlib.Omega.{arith}
use lib.Dec.{eqb, ltb}
use lib.ListN.{length, get_or}
use borrow.Author.Tests.{lt-ltb, eq-eqb, eqb-true, ltb-true}
use Rattle.lists.proofs.Tests.{and_left, and_right, both, or_cases, or_left, or_right}
use Rattle.plan.specs.Reading.{Held}
use Rattle.plan.specs.declared.Plan.{Plan}
use Rattle.state.specs.State.{State, words}
use Rattle.state.specs.Network.{router}
use Rattle.ways.specs.Chain.{Before, Goes, Chain, Shown}
use Rattle.ways.specs.Inner.Layers.{at}
use Rattle.ways.specs.Inner.Picked.{nearer, pick, picked, Downhill}
use Rattle.ways.proofs.LayerLaws.{Found, way-none}
use Rattle.ways.proofs.Steps.{ahead, role, back, leads-to, to-leads, way-chain, chain-way}

-- ---- the first of some ports that leads nearer

module _ (roles to far : List ℕ) (n : ℕ) where
  abbrev near : ℕ → Bool
  near = nearer roles to far n

  record FirstFrom (q m r : ℕ) : Type 0 where
    is : near r ≡ true
    from : q ≤ r
    last : r ≤ q + m
    none_before : (i : ℕ) → q ≤ i → i < r → near i ≡ true → ⊥

  -- where there is one among port q and the m behind it
  pick_first : (m q i : ℕ) → q ≤ i → i ≤ q + m → near i ≡ true → FirstFrom q m (pick roles to far n m q)
  unfolding pick
  pick_first zero q i a b e =
      let same : i ≡ q = omega (arith, a, b) in
      record { is = subst (λ (j : ℕ). near j ≡ true) same e; from = omega arith; last = omega arith; none_before = λ j x y _. omega (arith, x, y) }
  pick_first (suc m) q i a b e = by-test (near q) refl (λ h l. pick_first m (q + 1) i h l e)
    where
      by-test : (t : Bool) → near q ≡ t → (q + 1 ≤ i → i ≤ q + 1 + m → FirstFrom (q + 1) m (pick roles to far n m (q + 1)))
          → FirstFrom q (suc m) (cond t q (pick roles to far n m (q + 1)))
      by-test true y _ = record { is = y; from = omega arith; last = omega arith; none_before = λ j l g _. omega (arith, l, g) }
      by-test false y more =
          elim (ℕ_discrete i q) [
            | yes z ↦ absurd (false≢true (sym y ∙ ap near (sym z) ∙ e))
            | no z ↦
                let rest = more (omega (arith, a, z)) (omega (arith, b)) in
                record {
                  is = rest.is;
                  from = omega (arith, rest.from);
                  last = omega (arith, rest.last);
                  none_before = λ j l g x. elim (ℕ_discrete j q) [
                    | yes w ↦ false≢true (sym y ∙ ap near (sym w) ∙ x)
                    | no w ↦ rest.none_before j (omega (arith, l, w)) g x
                  ];
                }
          ]

-- ---- chains to device e, by how many crossings each device is away from it

module _ (plan : Plan) (s : State) (k : ℕ) (fits : length s ≡ words) (held : Held plan) (e : ℕ) (g : e < 32) (far : List ℕ)
    (found : Found (back plan s k fits held) (role plan s k fits) e 31 far) where
  abbrev to : List ℕ
  to = ahead plan s k fits

  abbrev roles : List ℕ
  roles = role plan s k fits

  -- no chain is shorter than that
  pub no-shorter : (d : ℕ) → d < 32 → (ports : List ℕ) → Chain plan s k d ports e → at far d ≤ length ports
  no-shorter d h ports c =
      elim (dec_lt (length ports) 32) [
        | yes l ↦ found.near (length ports) d (omega (arith, l)) (chain-way plan s k fits held e g ports d h c)
        | no l ↦ elim (found.within d h) [ inl m ↦ omega (arith, m, l) | inr m ↦ omega (arith, m, l) ]
      ]

  -- the first port of a chain that is as short as can be leads nearer
  begins-nearer : (d n q : ℕ) (rest : List ℕ) → d < 32 → at far d ≡ suc n → length rest ≡ n → Chain plan s k d (q ∷ rest) e → nearer roles to far n q ≡ true
  unfolding nearer
  begins-nearer d n q rest h a len (x, go, c) =
      let x-to = leads-to plan s k fits q x (omega (arith, go.own, h)) go.leads in
      let low = no-shorter x x-to.1 rest c in
      let same : at far x ≡ n = elim (ℕ_discrete (at far x) n) [
        | yes z ↦ z
        | no z ↦
            let short = way-chain plan s k fits held e g (found.known x x-to.1 (omega (arith, low, len, z, within-31 d h a))) in
            let through : router plan x ≡ true = elim go.on [ inl w ↦ absurd (omega (arith, ap length w, low, len, z)) | inr r ↦ r ] in
            let whole : Chain plan s k d (q ∷ short.0) e = (x, record { own = go.own; leads = go.leads; on = inr through }, short.2) in
            absurd (omega (arith, no-shorter d h (q ∷ short.0) whole, short.1, low, len, z, a))
      ] in
      let last : (eqb n 0 || eqb (get_or roles x 0) 1) ≡ true = elim go.on [
        | inl w ↦ or_left (eqb n 0) _ (eq-eqb n 0 (sym len ∙ ap length w))
        | inr r ↦ or_right (eqb n 0) _ r
      ] in
      rw x-to.0 (both _ _ (both _ _ (lt-ltb x 32 x-to.1) (eq-eqb (at far x) n same)) last)
    where
      within-31 : (d : ℕ) → d < 32 → at far d ≡ suc n → n < 32
      within-31 d h a = elim (found.within d h) [ inl m ↦ omega (arith, m, a) | inr m ↦ omega (arith, m, a) ]

  -- so from each device that has a number a port leads nearer, and the one that is picked is the first
  first-nearer : (d n : ℕ) → d < 32 → n < 31 → at far d ≡ suc n → FirstFrom roles to far n (8 * d) 7 (pick roles to far n 7 (8 * d))
  first-nearer d n h l a =
      let c = way-chain plan s k fits held e g (found.known d h (omega (arith, a, l))) in
      from-chain c.0 (c.1 ∙ a) c.2
    where
      from-chain : (ports : List ℕ) → length ports ≡ suc n → Chain plan s k d ports e → FirstFrom roles to far n (8 * d) 7 (pick roles to far n 7 (8 * d))
      from-chain [] len c = absurd (omega (arith, len))
      from-chain (q ∷ rest) len (x, go, c) =
          pick_first roles to far n 7 (8 * d) q (omega (arith, go.own)) (omega (arith, go.own))
          (begins-nearer d n q rest h a (omega (arith, len)) (x, go, c))

  pub downhill : Downhill roles to far
  downhill = record { goes = λ d n h l a. (first-nearer d n h l a).is }

  pub length-picked : (n d : ℕ) → length (picked roles to far n d) ≡ n
  unfolding picked
  length-picked zero d = refl
  length-picked (suc n) d = ap suc (length-picked n _)

  -- what it says of a port that it leads nearer
  record Nearer (n q : ℕ) : Type 0 where
    small : get_or to q 0 < 32
    here : at far (get_or to q 0) ≡ n
    on : (n ≡ 0) ⊎ (router plan (get_or to q 0) ≡ true)

  nearer-says : (n q : ℕ) → nearer roles to far n q ≡ true → Nearer n q
  unfolding nearer
  nearer-says n q y =
      let x : ℕ = get_or to q 0 in
      let front = and_left (ltb x 32 && eqb (at far x) n) (eqb n 0 || eqb (get_or roles x 0) 1) y in
      record {
        small = ltb-true x 32 (and_left (ltb x 32) (eqb (at far x) n) front);
        here = eqb-true (at far x) n (and_right (ltb x 32) (eqb (at far x) n) front);
        on = elim (or_cases (eqb n 0) (eqb (get_or roles x 0) 1) (and_right (ltb x 32 && eqb (at far x) n) _ y)) [ inl z ↦ inl (eqb-true n 0 z) | inr r ↦ inr r ];
      }

  pub picked-shown : (n d : ℕ) → d < 32 → n < 32 → at far d ≡ n → Shown plan s k d e (picked roles to far n d)
  unfolding picked
  picked-shown zero d h l a =
      record {
        real = sym (way-none _ _ e (found.known d h (omega (arith, a))) a);
        shortest = λ other c. omega arith;
        first = λ other c len b. nothing-before other b;
      }
    where
      nothing-before : (other : List ℕ) → Before other [] → ⊥
      nothing-before [] b = b
      nothing-before (o ∷ rest) b = b
  picked-shown (suc n) d h l a =
      let f = first-nearer d n h (omega arith) a in
      let q : ℕ = pick roles to far n 7 (8 * d) in
      let x : ℕ = get_or to q 0 in
      let near = nearer-says n q f.is in
      let after = picked-shown n x near.small (omega arith) near.here in
      let own : q / 8 ≡ d = omega (arith, f.from, f.last) in
      let go : Goes plan s k d q x (picked roles to far n x) = record {
        own = own;
        leads = to-leads plan s k fits q (omega (arith, own, h)) near.small;
        on = elim near.on [ inl z ↦ inl (none_left n x z) | inr r ↦ inr r ];
      } in
      record {
        real = (x, go, after.real);
        shortest = λ other c. omega (arith, no-shorter d h other c, a, length-picked n x);
        first = λ other c len b. before other c len b f after;
      }
    where
      none_left : (n x : ℕ) → n ≡ 0 → picked roles to far n x ≡ []
      none_left zero x z = refl
      none_left (suc m) x z = absurd (omega arith)

      before : (other : List ℕ) → Chain plan s k d other e → length other ≡ suc (length (picked roles to far n (get_or to (pick roles to far n 7 (8 * d)) 0)))
          → Before other (pick roles to far n 7 (8 * d) ∷ picked roles to far n (get_or to (pick roles to far n 7 (8 * d)) 0))
          → FirstFrom roles to far n (8 * d) 7 (pick roles to far n 7 (8 * d)) → Shown plan s k (get_or to (pick roles to far n 7 (8 * d)) 0) e (picked roles to far n (get_or to (pick roles to far n 7 (8 * d)) 0)) → ⊥
      before [] c len b f after = b
      before (o ∷ rest) (y, go, c) len b f after =
          let q : ℕ = pick roles to far n 7 (8 * d) in
          let x : ℕ = get_or to q 0 in
          let size : length rest ≡ n = omega (arith, len, length-picked n x) in
          elim b [
            | inl less ↦ f.none_before o (omega (arith, go.own)) less (begins-nearer d n o rest h a size (y, go, c))
            | inr same ↦
                let there : y ≡ x = sym (leads-to plan s k fits o y (omega (arith, go.own, h)) go.leads).0 ∙ ap (λ (i : ℕ). get_or to i 0) same.0 in
                after.first rest (subst (λ (i : ℕ). Chain plan s k i rest e) there c) (omega (arith, len)) same.1
          ]

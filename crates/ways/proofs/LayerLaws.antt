-- What the walk by layers finds, wherever ports lead: the least number of steps to each device.
use mathlib.Core.Path.{◌≡◌, refl, sym, ap, subst, ◌∙◌}
use mathlib.Core.Bool.{Bool, true, false, ◌||◌, false≢true}
use mathlib.Core.List.{List}
use mathlib.Core.Logic.{◌⊎◌, inl, inr, dite}
use Prim.Native.Nat.{ℕ, zero, suc, ◌+◌, ◌*◌, ◌≤◌, ◌<◌}
use native.Mathlib.Decide.{dec_lt, ℕ_discrete}
use native.Mathlib.Omega.{arith}
use lib.Dec.{eqb}
use lib.ListN.{length, get_or, set, length-set}
use lib.Seq.{get_or-set_same, get_or-set_other}
use borrow.Author.Tests.{lt-ltb, le-ltb, eq-eqb, ne_eqb, eqb-true}
use Rattle.lists.specs.Loop.{up_to}
use Rattle.lists.specs.Table.{table}
use Rattle.lists.proofs.Tables.{length-table, get_d-table}
use Rattle.lists.proofs.Tests.{and_left, and_right, both, or_cases, or_left, or_right}
use Rattle.lists.proofs.Loops.{up_to-still, keeps, hit}
use Rattle.ways.specs.Inner.Layers.{at, meet, goes_on, spread, turn_of, layer, layers}

-- ---- one device that is met

-- it joins the next layer, or nothing changes, as it was in one or is no device
pub data Met (n e : ℕ) (far : List ℕ) : Type 0 where
  joins : e < 32 → at far e ≡ 32 → meet n e far ≡ set far e (n + 1) → Met n e far
  stays : (e < 32 → at far e ≡ 32 → ⊥) → meet n e far ≡ far → Met n e far

pub met : (n e : ℕ) (far : List ℕ) → Met n e far
unfolding meet
met n e far =
    dite (dec_lt e 32)
    (λ h. elim (ℕ_discrete (at far e) 32) [
      | yes z ↦ joins h z (rw (lt-ltb e 32 h, eq-eqb (at far e) 32 z))
      | no z ↦ stays (λ _ y. z y) (rw (lt-ltb e 32 h, ne_eqb (at far e) 32 z))
    ])
    (λ h. stays (λ l _. h l) (rw (le-ltb e 32 (omega arith))))

-- where a device stands after another has joined
put_other : (far : List ℕ) (e v i : ℕ) → (i ≡ e → ⊥) → at (set far e v) i ≡ at far i
put_other far e v i n = get_or-set_other far e i v 0 n

put_same : (far : List ℕ) (e v : ℕ) → length far ≡ 32 → e < 32 → at (set far e v) e ≡ v
put_same far e v long h = get_or-set_same far e v 0 (omega arith)

-- to: the device that each port leads to, or 32
module _ (to role : List ℕ) (from : ℕ) where
  -- a device passes on from n steps away: it is the first, or a router
  abbrev On : ℕ → ℕ → Type 0
  On n d = (n ≡ 0) ⊎ (eqb (get_or role d 0) 1 ≡ true)

  -- n steps lead from the first device to device e
  pub data Way : ℕ → ℕ → Type 0 where
    stay : Way 0 from
    step : {n d e : ℕ} → Way n d → On n d → (p : ℕ) → p < 8 → get_or to (8 * d + p) 0 ≡ e → e < 32 → Way (suc n) e

  pub way-none : {n e : ℕ} → Way n e → n ≡ 0 → e ≡ from
  way-none stay z = refl
  way-none (step w on p l q h) z = absurd (omega arith)

  pub way-small : from < 32 → {n e : ℕ} → Way n e → e < 32
  way-small g stay = g
  way-small g (step w on p l q h) = h

  -- the devices up to n steps away have their numbers, and no other has one
  pub record Found (n : ℕ) (far : List ℕ) : Type 0 where
    pub long : length far ≡ 32
    pub known : (e : ℕ) → e < 32 → at far e < 32 → Way (at far e) e
    pub within : (e : ℕ) → e < 32 → (at far e ≤ n) ⊎ (at far e ≡ 32)
    pub near : (m e : ℕ) → m ≤ n → Way m e → at far e ≤ m

  -- ---- in the middle of layer n: the devices that had a number have it, and others may have n + 1

  module _ (n : ℕ) (was : List ℕ) (small : n < 31) (found : Found n was) (first : from < 32) where
    record During (far : List ℕ) : Type 0 where
      long : length far ≡ 32
      known : (e : ℕ) → e < 32 → at far e < 32 → Way (at far e) e
      kept : (e : ℕ) → e < 32 → at was e < 32 → at far e ≡ at was e
      new : (e : ℕ) → e < 32 → at was e ≡ 32 → (at far e ≡ 32) ⊎ (at far e ≡ n + 1)

    abbrev Seen : ℕ → List ℕ → Type 0
    Seen e far = at far e ≤ n + 1

    begun : During was
    begun = record { long = found.long; known = found.known; kept = λ e h l. refl; new = λ e h z. inl z }

    -- who has a number has one up to n + 1
    numbered : (far : List ℕ) → During far → (e : ℕ) → e < 32 → (at far e ≡ 32 → ⊥) → Seen e far
    numbered far d e h z =
        elim (found.within e h) [
          | inl l ↦ omega (arith, l, d.kept e h (omega (arith, l)))
          | inr w ↦ elim (d.new e h w) [ inl y ↦ absurd (z y) | inr y ↦ omega (arith, y) ]
        ]

    meet-during : (far : List ℕ) (e : ℕ) → (e < 32 → Way (suc n) e) → During far → During (meet n e far)
    meet-during far e way d =
        elim (met n e far) [
          | stays _ same ↦ subst During (sym same) d
          | joins h z same ↦
              subst During (sym same)
              (record {
                long = length-set far e (n + 1) ∙ d.long;
                known = λ i l g. elim (ℕ_discrete i e) [
                  | yes q ↦
                      let v : at (set far e (n + 1)) i ≡ suc n = ap (at (set far e (n + 1))) q ∙ put_same far e (n + 1) d.long h ∙ omega arith in
                      subst (λ (j : ℕ). Way j i) (sym v) (subst (Way (suc n)) (sym q) (way h))
                  | no q ↦ let o = put_other far e (n + 1) i q in subst (λ (j : ℕ). Way j i) (sym o) (d.known i l (omega (arith, o, g)))
                ];
                kept = λ i l g. elim (ℕ_discrete i e) [
                  | yes q ↦ absurd (omega (arith, z, g, ap (at was) q, ap (at far) q, d.kept i l g))
                  | no q ↦ put_other far e (n + 1) i q ∙ d.kept i l g
                ];
                new = λ i l w. elim (ℕ_discrete i e) [
                  | yes q ↦ inr (ap (at (set far e (n + 1))) q ∙ put_same far e (n + 1) d.long h)
                  | no q ↦ let o = put_other far e (n + 1) i q in elim (d.new i l w) [ inl y ↦ inl (o ∙ y) | inr y ↦ inr (o ∙ y) ]
                ];
              })
        ]

    meet-seen : (far : List ℕ) (e : ℕ) → e < 32 → During far → Seen e (meet n e far)
    meet-seen far e h d =
        elim (met n e far) [
          | stays had same ↦ subst (Seen e) (sym same) (numbered far d e h (had h))
          | joins _ z same ↦ subst (Seen e) (sym same) (omega (arith, put_same far e (n + 1) d.long h))
        ]

    -- what has been seen stays so
    meet_still : (far : List ℕ) (i e : ℕ) → During far → Seen e far → Seen e (meet n i far)
    meet_still far i e d s =
        elim (met n i far) [
          | stays _ same ↦ subst (Seen e) (sym same) s
          | joins h z same ↦
              subst (Seen e) (sym same)
              (elim (ℕ_discrete e i) [
                | yes q ↦ subst (λ (j : ℕ). Seen j (set far i (n + 1))) (sym q) (omega (arith, put_same far i (n + 1) d.long h))
                | no q ↦ omega (arith, put_other far i (n + 1) e q, s)
              ])
        ]

    -- ---- the ports of device d, which is in layer n and passes on

    module _ (d : ℕ) (w : Way n d) (on : On n d) where
      abbrev ahead : ℕ → ℕ
      ahead p = get_or to (8 * d + p) 0

      ahead-during : (p : ℕ) (far : List ℕ) → p < 8 → During far → During (meet n (ahead p) far)
      ahead-during p far l = meet-during far (ahead p) (step w on p l refl)

      spread-during : (far : List ℕ) → During far → During (spread to n d far)
      unfolding spread
      spread-during = keeps (λ p. meet n (ahead p)) During 8 ahead-during

      spread-seen : (p : ℕ) → p < 8 → ahead p < 32 → (far : List ℕ) → During far → Seen (ahead p) (spread to n d far)
      unfolding spread
      spread-seen p l h =
          hit (λ i. meet n (ahead i)) During 8 ahead-during (Seen (ahead p)) p l (λ far. meet-seen far (ahead p) h) (λ j far _ _. meet_still far (ahead j) (ahead p))

      spread-still : (e : ℕ) (far : List ℕ) → During far → Seen e far → Seen e (spread to n d far)
      unfolding spread
      spread-still e far x s =
          (keeps (λ p. meet n (ahead p)) (λ l. During l × Seen e l) 8 (λ p l h y. (ahead-during p l h y.0, meet_still l (ahead p) e y.0 y.1)) far (x, s)).1

    -- ---- a device's turn

    -- who is in layer n was so at first
    data Turn (d : ℕ) (far : List ℕ) : Type 0 where
      goes : Way n d → On n d → turn_of to role n d far ≡ spread to n d far → Turn d far
      rests : (at was d ≡ n → On n d → ⊥) → turn_of to role n d far ≡ far → Turn d far

    turn-of : (d : ℕ) (far : List ℕ) → d < 32 → During far → Turn d far
    unfolding goes_on
    turn-of d far h x = by-test (goes_on role n d far) refl
      where
        by-test : (b : Bool) → goes_on role n d far ≡ b → Turn d far
        by-test true e =
            let here : at far d ≡ n = eqb-true (at far d) n (and_left (eqb (at far d) n) _ e) in
            goes (subst (λ (j : ℕ). Way j d) here (x.known d h (omega (arith, here))))
            (elim (or_cases (eqb n 0) (eqb (get_or role d 0) 1) (and_right (eqb (at far d) n) _ e)) [ inl z ↦ inl (eqb-true n 0 z) | inr r ↦ inr r ])
            (rw e)
        by-test false e =
            rests
            (λ a on.
            let here : at far d ≡ n = x.kept d h (omega (arith, a)) ∙ a in
            let passes : (eqb n 0 || eqb (get_or role d 0) 1) ≡ true = elim on [ inl z ↦ or_left (eqb n 0) _ (eq-eqb n 0 z) | inr r ↦ or_right (eqb n 0) _ r ] in
            false≢true (sym e ∙ both (eqb (at far d) n) _ (eq-eqb (at far d) n here) passes))
            (rw e)

    turn-during : (d : ℕ) (far : List ℕ) → d < 32 → During far → During (turn_of to role n d far)
    turn-during d far h x =
        elim (turn-of d far h x) [ goes w on e ↦ subst During (sym e) (spread-during d w on far x) | rests _ e ↦ subst During (sym e) x ]

    turn-still : (e d : ℕ) (far : List ℕ) → d < 32 → During far → Seen e far → Seen e (turn_of to role n d far)
    turn-still e d far h x s =
        elim (turn-of d far h x) [ goes w on q ↦ subst (Seen e) (sym q) (spread-still d w on e far x s) | rests _ q ↦ subst (Seen e) (sym q) s ]

    turn-seen : (d p : ℕ) → d < 32 → at was d ≡ n → On n d → p < 8 → get_or to (8 * d + p) 0 < 32 → (far : List ℕ) → During far → Seen (get_or to (8 * d + p) 0) (turn_of to role n d far)
    turn-seen d p h a on l g far x =
        elim (turn-of d far h x) [ goes w o q ↦ subst (Seen _) (sym q) (spread-seen d w o p l g far x) | rests other q ↦ absurd (other a on) ]

    -- ---- the whole layer

    layer-during : During (layer to role n was)
    unfolding layer
    layer-during = keeps (turn_of to role n) During 32 turn-during was begun

    layer-seen : (d p : ℕ) → d < 32 → at was d ≡ n → On n d → p < 8 → get_or to (8 * d + p) 0 < 32 → Seen (get_or to (8 * d + p) 0) (layer to role n was)
    unfolding layer
    layer-seen d p h a on l g =
        hit (turn_of to role n) During 32 turn-during (Seen (get_or to (8 * d + p) 0)) d h (turn-seen d p h a on l g) (λ j far _ k. turn-still (get_or to (8 * d + p) 0) j far k) was begun

    -- who is n + 1 steps away is met from layer n, or has a lower number
    next-near : {m e : ℕ} → Way m e → m ≡ suc n → at (layer to role n was) e ≤ n + 1
    next-near stay z = absurd (omega arith)
    next-near (step {n = m} {d = d} {e = e} w on p l q h) z =
        let same : m ≡ n = omega arith in
        let w' : Way n d = subst (λ (j : ℕ). Way j d) same w in
        let on' : On n d = subst (λ (j : ℕ). On j d) same on in
        let g : d < 32 = way-small first w in
        let low = found.near n d (omega arith) w' in
        elim (ℕ_discrete (at was d) n) [
          | yes a ↦ subst (λ (i : ℕ). Seen i (layer to role n was)) q (layer-seen d p g a on' l (omega (arith, q, h)))
          | no a ↦
              let router : eqb (get_or role d 0) 1 ≡ true = elim on' [ inl y ↦ absurd (omega (arith, low, a, y)) | inr r ↦ r ] in
              let short = found.near (suc (at was d)) e (omega (arith, low, a)) (step (found.known d g (omega (arith, low))) (inr router) p l q h) in
              omega (arith, short, layer-during.kept e h (omega (arith, short, low, a)), low, a)
        ]

    layer-found : Found (n + 1) (layer to role n was)
    layer-found =
        record {
          long = layer-during.long;
          known = layer-during.known;
          within = λ e h. elim (found.within e h) [
            | inl l ↦ inl (omega (arith, l, layer-during.kept e h (omega (arith, l))))
            | inr z ↦ elim (layer-during.new e h z) [ inl y ↦ inr y | inr y ↦ inl (omega (arith, y)) ]
          ];
          near = λ m e l w. elim (ℕ_discrete m (suc n)) [
            | yes q ↦ omega (arith, next-near w q, q)
            | no q ↦ let low = found.near m e (omega (arith, l, q)) w in omega (arith, low, layer-during.kept e (way-small first w) (omega (arith, low, l, q)))
          ];
        }

  -- ---- all layers

  module _ (first : from < 32) where
    abbrev start : List ℕ
    start = set (table 32 (λ _. 32)) from 0

    start-same : at start from ≡ 0
    start-same = put_same (table 32 (λ _. 32)) from 0 (length-table 32 (λ _. 32)) first

    start-other : (e : ℕ) → e < 32 → (e ≡ from → ⊥) → at start e ≡ 32
    start-other e h q = put_other (table 32 (λ _. 32)) from 0 e q ∙ get_d-table 32 (λ _. 32) e 0 h

    start-found : Found 0 start
    start-found =
        record {
          long = length-set (table 32 (λ _. 32)) from 0 ∙ length-table 32 (λ _. 32);
          known = λ e h l. elim (ℕ_discrete e from) [
            | yes q ↦ subst (λ (i : ℕ). Way (at start i) i) (sym q) (subst (λ (j : ℕ). Way j from) (sym start-same) stay)
            | no q ↦ absurd (omega (arith, l, start-other e h q))
          ];
          within = λ e h. elim (ℕ_discrete e from) [ yes q ↦ inl (omega (arith, ap (at start) q, start-same)) | no q ↦ inr (start-other e h q) ];
          near = λ m e l w. omega (arith, ap (at start) (way-none w (omega (arith, l))), start-same);
        }

    after : (j : ℕ) → j ≤ 31 → Found j (up_to (layer to role) j start)
    unfolding up_to
    after zero l = start-found
    after (suc j) l =
        subst (λ (i : ℕ). Found i (layer to role j (up_to (layer to role) j start))) (omega arith)
        (layer-found j (up_to (layer to role) j start) (omega arith) (after j (omega arith)) first)

    pub layers-found : Found 31 (layers to role from)
    unfolding layers
    layers-found = after 31 (omega arith)

    -- ---- a layer that changes nothing is the last

    -- no device has a number behind n
    nobody-there : (n j : ℕ) (far : List ℕ) → Found n far → n < j → j < 32 → layer to role j far ≡ far
    unfolding layer up_to goes_on
    nobody-there n j far found l g =
        up_to-still (turn_of to role j) 0 32 (omega arith) far
        (λ d _ h.
        let other : at far d ≡ j → ⊥ = λ e. elim (found.within d h) [ inl m ↦ omega (arith, m, e, l) | inr m ↦ omega (arith, m, e, g) ] in
        rw (ne_eqb (at far d) j other))

    pub layers-still : (n : ℕ) (far : List ℕ) → n < 31 → far ≡ up_to (layer to role) n start → layer to role n far ≡ far → far ≡ layers to role from
    unfolding layers
    layers-still n far l e z =
        let rests : (j : ℕ) → n ≤ j → j < 31 → layer to role j far ≡ far = λ j a b. elim (ℕ_discrete j n) [
          | yes q ↦ ap (λ (i : ℕ). layer to role i far) q ∙ z
          | no q ↦ nobody-there n j far (subst (Found n) (sym e) (after n (omega (arith, l)))) (omega (arith, a, q)) (omega (arith, b))
        ] in
        e ∙ sym (up_to-still (layer to role) n 31 (omega (arith, l)) start (λ j a b. subst (λ (t : List ℕ). layer to role j t ≡ t) e (rests j a b)))

-- The third step of a round, as a code sees it: where it arrives, and what each arrival keeps.
use mathlib.Core.Path.{◌≡◌, sym, ap, ◌∙◌}
use mathlib.Core.Bool.{true}
use mathlib.Core.Logic.{◌⊎◌, inl, inr, ◌≢◌}
use Prim.Native.Nat.{ℕ, suc, ◌-◌, ◌*◌, ◌/◌, ◌<◌}
use native.Mathlib.Decide.{ℕ_discrete}
use native.Mathlib.Omega.{arith}
use lib.ListN.{get_or}
use Rattle.lists.proofs.Loops.{keeps, hit}
use Rattle.bits.specs.Set.{bit}
use Rattle.bits.proofs.Sets.{bit-two}
use Rattle.device.specs.Permissions.{may_send, may_receive}
use Rattle.device.specs.Reaction.{is_used}
use Rattle.plan.specs.Reading.{Held}
use Rattle.plan.specs.declared.Plan.{Plan}
use Rattle.state.specs.State.{State, register_at, register, waiting, running}
use Rattle.state.specs.Network.{devices, router, peer, permissions, events, load_of}
use Rattle.state.specs.Sound.{Sound}
use Rattle.state.proofs.Plans.{few}
use Rattle.bench.specs.Round.{World, nothing, sent_bytes, arrives, reached}
use Rattle.bench.proofs.RoundSound.{bars_at, Opens, arrives-sound}
use Rattle.laws.specs.Alike.{Alike, SendsIt}
use Rattle.laws.proofs.Apart.{Both, about, arrives-aside, alike-front, alike_same}
use Rattle.assurance.proofs.Choices.{sends-small, sends-inside, sent-waits}
use Rattle.assurance.proofs.Fits.{alike-back, Fit, fit-alike, fit-took}
use Rattle.assurance.proofs.Taking.{Took, took, took-late}
use Rattle.assurance.proofs.Entering.{Unmoved, unmoved-turn, arrives-meets, arrives-turns}
use Rattle.assurance.proofs.Turns.{SameTurn, turn-same, turn-then}

-- what changed does not concern identifier k, and no port's turn
record Aside (k : ℕ) (v t : State) : Type 0 where
  like : Alike k v t
  turns : (q : ℕ) → q < 256 → SameTurn v t q

unmoved-aside : (k : ℕ) → k < 32 → {v t : State} → Unmoved v t → Aside k v t
unmoved-aside k l x = record { like = alike-front k l (λ i h. sym (x.front i (omega arith))); turns = unmoved-turn x }

module _ (plan : Plan) (kind k : ℕ) (s₀ s : State) where
  -- the code gets into device d, at port j
  pub record Came (d j : ℕ) : Type 0 where
    pub inside : j < 256
    pub there : j / 8 ≡ d
    pub sender : SendsIt plan k s kind (peer plan j)
    pub runs : running s₀ j ≡ 1
    pub may : may_receive kind (permissions plan j) ≡ true
    pub unbarred : bit (bars_at plan kind j) k ≡ 0

  -- at port j the code is taken in
  record Enters (j : ℕ) (v t : State) : Type 0 where
    sender : SendsIt plan k s kind (peer plan j)
    opens : Opens plan kind k j v
    taken : Took plan kind k (j / 8) j (router plan (j / 8)) v t

module _ (plan : Plan) (kind k : ℕ) (s₀ : State) (takers : ℕ → Type 0) (s : State) where
  -- after some arrivals, from p to v
  pub record Going (u : ℕ) (p v : State) : Type 0 where
    pub fit : Fit plan kind k s₀ takers u v
    pub turns : (q : ℕ) → q < 256 → SameTurn p v q
    -- what held the code or had it waiting goes on so
    pub keeping : (d : ℕ) → d < devices plan → bit (register p d) k ≡ 1 - kind → bit (register v d) k ≡ 1 - kind
    pub waits-on : (q : ℕ) → q < 256 → bit (waiting p kind q) k ≡ 1 → bit (waiting v kind q) k ≡ 1
    -- what holds it now held it, or it came in
    pub begins : (d : ℕ) → d < devices plan → bit (register v d) k ≡ 1 - kind → bit (register p d) k ≡ 1 - kind ⊎ ((j : ℕ) × Came plan kind k s₀ s d j)
    -- where it waits now it waited, or its device took it in and hands it on
    pub fresh : (q : ℕ) → q < 256 → bit (waiting v kind q) k ≡ 1 → bit (waiting p kind q) k ≡ 1
        ⊎ ((bit (register p (q / 8)) k ≡ kind) × (bit (register v (q / 8)) k ≡ 1 - kind) × (router plan (q / 8) ≡ true))
    -- a device that took it in and hands it on has it waiting at its ports, but where it came in
    pub relays : (q : ℕ) → q < 256 → q / 8 < devices plan → router plan (q / 8) ≡ true → running s₀ q ≡ 1 → may_send kind (permissions plan q) ≡ true
        → bit (register v (q / 8)) k ≡ 1 - kind
        → bit (register p (q / 8)) k ≡ 1 - kind ⊎ (bit (waiting v kind q) k ≡ 1 ⊎ SendsIt plan k s kind (peer plan q))

  -- only codes of this kind are sent of k
  pub of-kind : Held plan → kind < 2 → k < 32 → {u : ℕ} → Fit plan kind k s₀ takers u s → (c q : ℕ) → c < 2 → SendsIt plan k s c q → c ≡ kind
  of-kind held g l f c q h e =
      elim (ℕ_discrete c kind) [
        | yes o ↦ o
        | no ne ↦
            let is : c ≡ 1 - kind = omega arith in
            absurd (omega (arith, ap (λ i. bit (waiting s i q) k) is, sent-waits plan held k l s q (sends-inside plan k c s q l h e) c h e, f.other q (sends-small plan k c s q l h e)))
      ]

  module _ (held : Held plan) (g : kind < 2) (l : k < 32) (u : ℕ) where
    going-none : (p : State) → Fit plan kind k s₀ takers u p → Going u p p
    going-none p f =
        record {
          fit = f;
          turns = λ q h. turn-same p q;
          keeping = λ d h b. b;
          waits-on = λ q h b. b;
          begins = λ d h b. inl b;
          fresh = λ q h b. inl b;
          relays = λ q h i r a m b. inl b;
        }

    going-aside : {p v t : State} → Going u p v → Aside k v t → Sound plan t → Going u p t
    going-aside {p} {v} {t} x a y =
        let n = few plan held in
        let mark : (d : ℕ) → d < devices plan → bit (register v d) k ≡ bit (register t d) k = λ d h. a.like.marks d (omega arith) in
        let wait : (q : ℕ) → q < 256 → bit (waiting v kind q) k ≡ bit (waiting t kind q) k = λ q h. a.like.waits kind q g h in
        record {
          fit = fit-alike plan kind k s₀ takers held g u a.like y x.fit;
          turns = λ q h. turn-then (x.turns q h) (a.turns q h);
          keeping = λ d h b. sym (mark d h) ∙ x.keeping d h b;
          waits-on = λ q h b. sym (wait q h) ∙ x.waits-on q h b;
          begins = λ d h b. x.begins d h (mark d h ∙ b);
          fresh = λ q h b. elim (x.fresh q h (wait q h ∙ b)) [
            | inl c ↦ inl c
            | inr c ↦ inr (c.0, sym (a.like.marks (q / 8) (omega arith)) ∙ c.1, c.2)
          ];
          relays = λ q h i r e m b. elim (x.relays q h i r e m (mark (q / 8) i ∙ b)) [
            | inl c ↦ inl c
            | inr c ↦ inr (elim c [ inl w ↦ inl (sym (wait q h) ∙ w) | inr o ↦ inr o ])
          ];
        }

    module _ {p v t : State} (j : ℕ) (i : j < 8 * devices plan) (x : Going u p v) (e : Enters plan kind k s₀ s j v t) where
      abbrev got : Took plan kind k (j / 8) j (router plan (j / 8)) v t
      got = e.taken

      entered-other : (d : ℕ) → d < 32 → d ≢ j / 8 → bit (register t d) k ≡ bit (register v d) k
      entered-other d h ne = ap (λ r. bit r k) (got.others d h ne).0

      entered-keeps : (d : ℕ) → d < 32 → bit (register v d) k ≡ 1 - kind → bit (register t d) k ≡ 1 - kind
      entered-keeps d h b = elim (ℕ_discrete d (j / 8)) [ yes o ↦ rw o got.held | no ne ↦ entered-other d h ne ∙ b ]

      -- the device had not held the code
      was-new : bit (register p (j / 8)) k ≡ kind
      was-new =
          let two = bit-two (register p (j / 8)) k in
          elim (ℕ_discrete (bit (register p (j / 8)) k) kind) [
            | yes o ↦ o
            | no ne ↦ absurd (omega (arith, x.keeping (j / 8) (omega arith) (omega arith), e.opens.stood))
          ]

      entered-begins : (d : ℕ) → d < devices plan → bit (register t d) k ≡ 1 - kind → bit (register p d) k ≡ 1 - kind ⊎ ((j : ℕ) × Came plan kind k s₀ s d j)
      entered-begins d h b =
          let n = few plan held in
          elim (ℕ_discrete d (j / 8)) [
            | yes o ↦
                inr (
                  j,
                  record {
                    inside = omega arith;
                    there = sym o;
                    sender = e.sender;
                    runs = sym (x.fit.runs j (omega arith)) ∙ e.opens.runs;
                    may = e.opens.may;
                    unbarred = e.opens.unbarred;
                  },
                )
            | no ne ↦ x.begins d h (sym (entered-other d (omega arith) ne) ∙ b)
          ]

      entered-fresh : (q : ℕ) → q < 256 → bit (waiting t kind q) k ≡ 1 → bit (waiting p kind q) k ≡ 1
          ⊎ ((bit (register p (q / 8)) k ≡ kind) × (bit (register t (q / 8)) k ≡ 1 - kind) × (router plan (q / 8) ≡ true))
      entered-fresh q h b =
          elim (got.fresh q h b) [
            | inl c ↦ elim (x.fresh q h c) [ inl o ↦ inl o | inr o ↦ inr (o.0, entered-keeps (q / 8) (omega arith) o.1, o.2) ]
            | inr c ↦ inr (rw c.1.here was-new, rw c.1.here got.held, rw c.1.here c.0)
          ]

      entered-relays : (q : ℕ) → q < 256 → q / 8 < devices plan → router plan (q / 8) ≡ true → running s₀ q ≡ 1 → may_send kind (permissions plan q) ≡ true
          → bit (register t (q / 8)) k ≡ 1 - kind
          → bit (register p (q / 8)) k ≡ 1 - kind ⊎ (bit (waiting t kind q) k ≡ 1 ⊎ SendsIt plan k s kind (peer plan q))
      entered-relays q h c r a m b =
          elim (ℕ_discrete (q / 8) (j / 8)) [
            | yes o ↦ elim (ℕ_discrete q j) [
              | yes is ↦ inr (inr (rw is e.sender))
              | no ne ↦ inr (inl (got.all q h ne (rw o at r) (record { here = o; runs = x.fit.runs q h ∙ a; may = m })))
            ]
            | no ne ↦ elim (x.relays q h c r a m (sym (entered-other (q / 8) (omega arith) ne) ∙ b)) [
              | inl o ↦ inl o
              | inr o ↦ inr (elim o [ inl w ↦ inl (got.more q h w) | inr y ↦ inr y ])
            ]
          ]

      going-enters : (kind ≡ 0 → (d : ℕ) → d < devices plan → u < load_of plan d k) → Sound plan t → Going u p t
      going-enters loads y =
          let n = few plan held in
          record {
            fit = fit-took plan kind k s₀ takers held g u loads (omega arith) got y x.fit;
            turns = λ q b. turn-then (x.turns q b) (record { start = got.turns q; late = took-late got q });
            keeping = λ d h b. entered-keeps d (omega arith) (x.keeping d h b);
            waits-on = λ q h b. got.more q h (x.waits-on q h b);
            begins = entered-begins;
            fresh = entered-fresh;
            relays = entered-relays;
          }

    -- ---- one arrival

    module _ (f : Fit plan kind k s₀ takers (suc u) s) (loads : kind ≡ 0 → (d : ℕ) → d < devices plan → u < load_of plan d k) where
      module _ (j : ℕ) (i : j < 8 * devices plan) (w : World) where
        abbrev arrived : State
        arrived = (arrives plan (sent_bytes plan s) j w).state

        arrival : Sound plan w.state → Aside k w.state arrived ⊎ Enters plan kind k s₀ s j w.state arrived
        arrival x =
            let n = few plan held in
            elim (about k (get_or (sent_bytes plan s) (peer plan j) nothing)) [
              | inl c ↦
                  let e : SendsIt plan k s kind (peer plan j) = rw (of-kind held g l f c.0 (peer plan j) c.1 c.2) at c.2 in
                  arrives-meets plan j (omega arith) w k (λ t. Aside k w.state t ⊎ Enters plan kind k s₀ s j w.state t) (sent_bytes plan s) l kind g e
                  (λ shut t y. inl (unmoved-aside k l y))
                  (λ o. inr (record { sender = e; opens = o; taken = took plan kind k g l (j / 8) j (omega arith) w.state x.size (router plan (j / 8)) }))
              | inr none ↦
                  let same : Both k w.state w.state = record { like = alike_same k w.state; left = x.size; right = x.size } in
                  inl
                  (record {
                    like = alike-back (arrives-aside l plan j (omega arith) (sent_bytes plan s) w same none).like;
                    turns = arrives-turns plan (sent_bytes plan s) j (omega arith) w x.size;
                  })
            ]

        going-arrives : {p : State} → Going u p w.state → Going u p arrived
        going-arrives x =
            let y = arrives-sound plan held (sent_bytes plan s) j (omega arith) w x.fit.sound in
            elim (arrival x.fit.sound) [ inl a ↦ going-aside x a y | inr e ↦ going-enters j i x e loads y ]

      -- ---- all arrivals

      module _ (w : World) (fit : Fit plan kind k s₀ takers u w.state) where
        pub all-going : Going u w.state (reached plan (sent_bytes plan s) w).state
        unfolding reached
        all-going =
            keeps (arrives plan (sent_bytes plan s)) (λ v. Going u w.state v.state) (8 * devices plan) (λ j v i x. going-arrives j i v x) w
            (going-none w.state fit)

        -- what is sent gets in, where such codes are in use
        pub gets-in : is_used (events plan) kind k ≡ true → (d j : ℕ) → j < 8 * devices plan → Came plan kind k s₀ s d j → bit (register (reached plan (sent_bytes plan s) w).state d) k ≡ 1 - kind
        unfolding reached
        gets-in used d j i c =
            rw (← c.there)
            (hit (arrives plan (sent_bytes plan s)) (λ v. Fit plan kind k s₀ takers u v.state) (8 * devices plan)
            (λ q v b x. (going-arrives q b v (going-none v.state x)).fit) (λ v. bit (register v.state (j / 8)) k ≡ 1 - kind) j i mine
            (λ q v a b x y. (going-arrives q b v (going-none v.state x)).keeping (j / 8) (omega arith) y) w fit)
          where
            mine : (v : World) → Fit plan kind k s₀ takers u v.state → bit (register (arrives plan (sent_bytes plan s) j v).state (j / 8)) k ≡ 1 - kind
            mine v x =
                let n = few plan held in
                let two = bit-two (register v.state (j / 8)) k in
                arrives-meets plan j (omega arith) v k (λ t. bit (register t (j / 8)) k ≡ 1 - kind) (sent_bytes plan s) l kind g c.sender
                (λ shut t y. rw (y.front (register_at (j / 8)) (omega arith)) (elim (ℕ_discrete (bit (register v.state (j / 8)) k) kind) [
                  | yes o ↦ absurd (shut (record { runs = x.runs j (omega arith) ∙ c.runs; may = c.may; unbarred = c.unbarred; used = used; stood = o }))
                  | no ne ↦ omega arith
                ]))
                (λ o. (took plan kind k g l (j / 8) j (omega arith) v.state x.sound.size (router plan (j / 8))).held)

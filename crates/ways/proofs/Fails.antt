-- The cause that is computed at a port is the first that fails, and is at all where the port leads out.
use mathlib.Core.Path.{◌≡◌, refl, sym, ap, subst, ◌∙◌}
use mathlib.Core.Bool.{Bool, true, false, cond, not, ◌&&◌, false≢true}
use mathlib.Core.List.{List}
use mathlib.Core.Logic.{◌⊎◌, inl, inr}
use Prim.Native.Nat.{ℕ, zero, suc, ◌+◌, ◌*◌, ◌/◌, ◌%◌, ◌≤◌, ◌<◌}
use native.Mathlib.Nat.{add-zero}
use native.Mathlib.Omega.{arith}
use lib.Dec.{eqb, ltb}
use lib.ListN.{length, get_or}
use borrow.Author.Tests.{ltb-true, ltb-false, eqb-true, eqb-false}
use Rattle.answers.specs.Ordered.{Ordered}
use Rattle.lists.specs.Table.{table}
use Rattle.lists.proofs.Tables.{length-table, get_d-table}
use Rattle.bits.specs.Set.{bit}
use Rattle.device.specs.Permissions.{may_send, may_receive}
use Rattle.plan.specs.Fields.{nobody}
use Rattle.plan.specs.Reading.{Held}
use Rattle.plan.specs.declared.Plan.{Plan}
use Rattle.state.specs.State.{State, words, running}
use Rattle.state.specs.Network.{devices, router, peer, permissions, bars}
use Rattle.reach.specs.Walk.{Leads, Walk, stay, cross}
use Rattle.ways.specs.Cut.{marks, Out, go_asks, Cause, inside, out, AllCauses}
use Rattle.ways.specs.Inner.Layers.{at}
use Rattle.ways.specs.Inner.Causes.{first_failing, cause_at}
use Rattle.ways.proofs.LayerLaws.{Found}
use Rattle.ways.proofs.Steps.{ahead, role}
use Rattle.ways.proofs.Counted.{there, nowhere}

-- ---- what leads out and fails no other cause is at a device that does not forward

module _ (plan : Plan) (s : State) (d k q : ℕ) (o : Out plan s d k q) where
  -- it leads somewhere where the first four hold
  goes_over : running s q ≡ 1 → may_send 0 (permissions plan q) ≡ true → may_receive 0 (permissions plan (peer plan q)) ≡ true → bit (bars plan 0 (peer plan q)) k ≡ 0
      → Leads plan s 0 k q (peer plan q / 8)
  goes_over r t v a = record { runs = r; sends = t; joined = o.joined; receives = v; admits = a; there = refl }

  no-forward : Leads plan s 0 k q (peer plan q / 8) → (q / 8 ≡ d) ⊎ (router plan (q / 8) ≡ true) → ⊥
  no-forward leads on =
      let whole : q ≡ 8 * (q / 8) + q % 8 = omega arith in
      let leads' = subst (λ (i : ℕ). Leads plan s 0 k i (peer plan q / 8)) whole leads in
      elim on [
        | inl z ↦ o.beyond 1 (cross (subst (Walk plan s 0 k d 0) (sym z) stay) (inl refl) (q % 8) (omega arith) leads' tt)
        | inr r ↦ o.beyond _ (cross o.near.1 (inr r) (q % 8) (omega arith) leads' tt)
      ]

  -- so a port that leads out has a cause, one of the five
  pub some-cause : (c : ℕ) → Ordered (go_asks plan s d k q) c → (1 ≤ c) × (c ≤ 5)
  some-cause c (inl x) = omega (arith, x.1)
  some-cause c (inr (r, inl x)) = omega (arith, x.1)
  some-cause c (inr (r, inr (t, inl x))) = omega (arith, x.1)
  some-cause c (inr (r, inr (t, inr (v, inl x)))) = omega (arith, x.1)
  some-cause c (inr (r, inr (t, inr (v, inr (a, inl x))))) = omega (arith, x.1)
  some-cause c (inr (r, inr (t, inr (v, inr (a, inr (on, x)))))) = absurd (no-forward (goes_over r t v a) on)

-- ---- by the numbers that the layers have found

module _ (plan : Plan) (held : Held plan) (s : State) (k d : ℕ) (h : d < devices plan) (fits : length s ≡ words) (far : List ℕ)
    (found : Found (ahead plan s k fits) (role plan s k fits) d 31 far) where
  abbrev cause : ℕ → ℕ
  cause = cause_at plan.core.permissions plan.peers plan.barred s far k

  module _ (q : ℕ) (l : q < 256) where
    abbrev joined? : Bool
    joined? = ltb (peer plan q) nobody

    abbrev near? : Bool
    near? = ltb (at far (q / 8)) 32

    abbrev beyond? : Bool
    beyond? = ltb (at far (peer plan q / 8)) 32

    leads-out : joined? ≡ true → near? ≡ true → beyond? ≡ false → Out plan s d k q
    leads-out j n b =
        record {
          joined = ltb-true (peer plan q) nobody j;
          near = (_, there plan held s k d h fits far found (q / 8) (omega arith) (ltb-true (at far (q / 8)) 32 n));
          beyond = nowhere plan held s k d h fits far found (peer plan q / 8) (λ g. omega (arith, g, ltb-false (at far (peer plan q / 8)) 32 b));
        }

    -- whether the port at the other end admits it
    abbrev admits? : Bool
    admits? = eqb (bit (get_or plan.barred (2 * peer plan q) 0) k) 0

    -- the causes, one after the other
    first-cause : Out plan s d k q → (a b c f : Bool) → eqb (running s q) 1 ≡ a → may_send 0 (permissions plan q) ≡ b → may_receive 0 (permissions plan (peer plan q)) ≡ c → admits? ≡ f
        → Ordered (go_asks plan s d k q) (first_failing a b c f)
    unfolding first_failing
    first-cause o false b c f r t v w = inl (eqb-false (running s q) 1 r, refl)
    first-cause o true false c f r t v w = inr (eqb-true (running s q) 1 r, inl (λ e. false≢true (sym t ∙ e), refl))
    first-cause o true true false f r t v w = inr (eqb-true (running s q) 1 r, inr (t, inl (λ e. false≢true (sym v ∙ e), refl)))
    first-cause o true true true false r t v w =
        inr (eqb-true (running s q) 1 r, inr (t, inr (v, inl (λ e. eqb-false _ 0 w (rw add-zero at e), refl))))
    first-cause o true true true true r t v w =
        let runs = eqb-true (running s q) 1 r in
        let admits : bit (bars plan 0 (peer plan q)) k ≡ 0 = rw add-zero (eqb-true _ 0 w) in
        inr (runs, inr (t, inr (v, inr (admits, inl (no-forward plan s d k q o (goes_over plan s d k q o runs t v admits), refl)))))

    by_tests : (j n b : Bool) → joined? ≡ j → near? ≡ n → beyond? ≡ b
        → Cause plan s d k q
        (cond (j && n && not b)
        (first_failing (eqb (running s q) 1) (may_send 0 (permissions plan q)) (may_receive 0 (permissions plan (peer plan q))) admits?)
        0)
    by_tests false n b x y z = inside (λ o. omega (arith, o.joined, ltb-false (peer plan q) nobody x))
    by_tests true false b x y z = inside (λ o. nowhere plan held s k d h fits far found (q / 8) (λ g. omega (arith, g, ltb-false (at far (q / 8)) 32 y)) o.near.0 o.near.1)
    by_tests true true true x y z =
        inside (λ o. o.beyond _ (there plan held s k d h fits far found (peer plan q / 8) (omega (arith, o.joined)) (ltb-true (at far (peer plan q / 8)) 32 z)))
    by_tests true true false x y z = let o = leads-out x y z in out o (first-cause o _ _ _ _ refl refl refl refl)

    cause-at : Cause plan s d k q (cause q)
    unfolding cause_at
    cause-at = by_tests joined? near? beyond? refl refl refl

  same-marks : (n : ℕ) (f g : ℕ → ℕ) → ((i : ℕ) → i < n → f i ≡ g i) → marks n f ≡ marks n g
  unfolding marks
  same-marks zero f g e = refl
  same-marks (suc n) f g e = ap (λ (m : ℕ). m + cond (eqb (f n) 0) 0 1) (same-marks n f g (λ i l. e i (omega arith))) ∙ ap (λ (v : ℕ). marks n g + cond (eqb v 0) 0 1) (e n (omega arith))

  pub all-causes : (value : ℕ) (causes : List ℕ) → causes ≡ table 256 cause → value ≡ marks 256 cause → AllCauses plan s d k value causes
  all-causes value causes e m =
      let is : (q : ℕ) → q < 256 → get_or causes q 0 ≡ cause q = λ q l. ap (λ (c : List ℕ). get_or c q 0) e ∙ get_d-table 256 cause q 0 l in
      record {
        size = ap length e ∙ length-table 256 cause;
        each = λ q l. subst (Cause plan s d k q) (sym (is q l)) (cause-at q l);
        many = m ∙ sym (same-marks 256 (λ q. get_or causes q 0) cause is);
      }

-- What chain and cut answer, for whoever wrote both texts: the same things are asked, with an area more; a chain's ports and their number.
use mathlib.Core.Path.{◌≡◌, refl, sym, subst}
use mathlib.Core.Bool.{cond, Bool, true, false}
use mathlib.Core.List.{List, [], ◌∷◌}
use mathlib.Core.Logic.{inl, inr, dite}
use Prim.Native.Nat.{ℕ, zero, suc, ◌-◌, ◌≤◌, ◌<◌}
use native.Mathlib.Decide.{dec_lt}
use native.Mathlib.Omega.{arith}
use lib.Dec.{eqb}
use lib.ListN.{length, get_or, take, length-append}
use lib.Seq.{take-append_seam}
use Rattle.std.proofs.lemmas.List.{get_or_past}
use Rattle.answers.specs.Ordered.{Ordered}
use Rattle.answers.proofs.Outcomes.{Holds, holds, passed}
use Rattle.answers.proofs.Unique.{ordered-once}
use Rattle.lists.specs.Table.{table}
use Rattle.plan.specs.Fields.{nobody}
use Rattle.plan.specs.Reading.{Held}
use Rattle.plan.specs.declared.Plan.{Plan}
use Rattle.state.specs.State.{State}
use Rattle.state.specs.Network.{devices}
use Rattle.ways.specs.Calls.{way_asks}
use Rattle.ways.specs.Chain.{Chain, Shown, ChainTo, reached, not-reached, TellsChain}
use Rattle.ways.specs.Cut.{marks, go_asks, Cause, inside, out, AllCauses, TellsCut}
use Rattle.ways.proofs.Counted.{away-small}
use Rattle.ways.proofs.Agree.{shown-away}
use Rattle.reasons.specs.Why.{why_asks}
use Rattle.reasons.specs.Inner.Pieces.{Joined}

-- ---- what is asked

module _ (plan : Plan) (s : State) (d k e : ℕ) where
  -- an area that fits changes no answer
  pub less-area : {Fits : Type 0} {n : ℕ} → Fits → Ordered (way_asks plan s Fits d k e) n → Ordered (why_asks plan s d k e) n
  less-area f (inl p) = inl p
  less-area f (inr (held, inl p)) = inr (held, inl p)
  less-area f (inr (held, inr (sound, inl p))) = absurd (p.0 f)
  less-area f (inr (held, inr (sound, inr (g, o)))) = inr (held, inr (sound, o))

  pub more-area : {Fits : Type 0} {n : ℕ} → Fits → Ordered (why_asks plan s d k e) n → Ordered (way_asks plan s Fits d k e) n
  more-area f (inl p) = inl p
  more-area f (inr (held, inl p)) = inr (held, inl p)
  more-area f (inr (held, inr (sound, o))) = inr (held, inr (sound, inr (f, o)))

  module _ (o : Ordered (why_asks plan s d k e) 0) where
    all_hold : Holds (why_asks plan s d k e)
    all_hold = holds (why_asks plan s d k e) refl o refl

    pub there : d < devices plan
    there = all_hold.1.1.1.0

    -- of the source itself nothing more is asked
    pub of-source : Ordered (why_asks plan s d k d) 0
    of-source = passed (why_asks plan s d k d) [] 0 (all_hold.0, (all_hold.1.0, (there, all_hold.1.1.1))) refl

-- ---- a chain

-- it is not refused: nothing is
pub told : {plan : Plan} {s : State} {k d e number value : ℕ} {before after : List ℕ} → length before ≡ 32 → number ≡ 0 → TellsChain plan s k d e before number value after
    → Ordered (why_asks plan s d k e) 0 × ChainTo plan s k d e value after
told {plan} {s} {k} {d} {e} fits z t = (subst (Ordered (why_asks plan s d k e)) z (less-area plan s d k e fits t.answers), t.made z)

module _ (plan : Plan) (s : State) (k : ℕ) where
  -- its ports, and those at their other ends, are ports of 32 devices
  pub chain-joined : (ports : List ℕ) (d e : ℕ) → d < 32 → Chain plan s k d ports e → (i : ℕ) → i < length ports → Joined plan.peers (get_or ports i 0)
  chain-joined [] d e h c i l = absurd (omega (arith, l))
  chain-joined (q ∷ rest) d e h (m, go, c) zero l = (omega (arith, go.own), go.leads.joined)
  chain-joined (q ∷ rest) d e h (m, go, c) (suc i) l = chain-joined rest m e (omega (arith, go.leads.there, go.leads.joined)) c i (omega (arith, l))

  -- they stand in front of the area
  pub in-front : {d e n : ℕ} {area : List ℕ} → ChainTo plan s k d e n area → n < 32 → Shown plan s k d e (take n area) × (n ≤ length area)
  in-front {d} {e} (reached {ports} x) h = (subst (Shown plan s k d e) (sym (take-append_seam ports _)) x, omega (arith, length-append ports (table (32 - length ports) (λ _. nobody))))
  in-front (not-reached x) h = absurd (omega (arith, h))

  -- and where the number says that there is none, there is none
  pub nowhere : {d e n : ℕ} {area : List ℕ} → Held plan → d < devices plan → ChainTo plan s k d e n area → 32 ≤ n → (ports : List ℕ) → Chain plan s k d ports e → ⊥
  nowhere {d} {e} held h (reached {ports} x) far = absurd (omega (arith, far, away-small plan held s k d h (length ports) e (shown-away plan s k d e ports x)))
  nowhere held h (not-reached x) far = x

-- ---- a cut

marks-few : (n : ℕ) (f : ℕ → ℕ) → marks n f ≤ n
unfolding marks
marks-few zero f = omega arith
marks-few (suc n) f = omega (arith, marks-few n f, mark-few (eqb (f n) 0))
  where
    mark-few : (b : Bool) → cond b 0 1 ≤ 1
    mark-few true = omega arith
    mark-few false = omega arith

module _ {plan : Plan} {s : State} {d k number value : ℕ} {before after : List ℕ} where
  pub is_cut : Ordered (why_asks plan s d k d) 0 → length before ≡ 256 → TellsCut plan s d k before number value after → AllCauses plan s d k value after
  is_cut o fits t = t.made (ordered-once (way_asks plan s (length before ≡ 256) d k d) number 0 t.answers (more-area plan s d k d fits o))

pub few-lead-out : {plan : Plan} {s : State} {d k value : ℕ} {causes : List ℕ} → AllCauses plan s d k value causes → value ≤ 256
few-lead-out {causes = causes} a = omega (arith, a.many, marks-few 256 (λ q. get_or causes q 0))

-- each cause has a number up to 5
few-asked : (plan : Plan) (s : State) (d k q n : ℕ) → Ordered (go_asks plan s d k q) n → n ≤ 5
few-asked plan s d k q n (inl p) = omega (arith, p.1)
few-asked plan s d k q n (inr (_, inl p)) = omega (arith, p.1)
few-asked plan s d k q n (inr (_, inr (_, inl p))) = omega (arith, p.1)
few-asked plan s d k q n (inr (_, inr (_, inr (_, inl p)))) = omega (arith, p.1)
few-asked plan s d k q n (inr (_, inr (_, inr (_, inr (_, inl p))))) = omega (arith, p.1)
few-asked plan s d k q n (inr (_, inr (_, inr (_, inr (_, inr z))))) = omega (arith, z)

cause-few : {plan : Plan} {s : State} {d k q n : ℕ} → Cause plan s d k q n → n ≤ 5
cause-few (inside x) = omega arith
cause-few {plan} {s} {d} {k} {q} {n} (out x o) = few-asked plan s d k q n o

pub named-causes : {plan : Plan} {s : State} {d k value : ℕ} {causes : List ℕ} → AllCauses plan s d k value causes → (q : ℕ) → get_or causes q 0 ≤ 5
named-causes {causes = causes} a q =
    dite (dec_lt q 256) (λ l. cause-few (a.each q l)) (λ l. let e : get_or causes q 0 ≡ 0 = get_or_past causes q 0 (omega (arith, a.size)) in omega (arith, e))

-- What crossings, chain, cut and reach answer fits together: the numbers are those of reach's set, a chain is as long as its device's number, and
-- of each device there is a chain or none.
use mathlib.Core.Path.{◌≡◌, refl}
use mathlib.Core.List.{List, [], ◌∷◌}
use mathlib.Core.Logic.{◌⊎◌, inl, inr}
use Prim.Native.Nat.{ℕ, ◌≤◌, ◌<◌}
use native.Mathlib.Omega.{arith}
use lib.ListN.{length, get_or}
use Rattle.bits.specs.Set.{bit}
use Rattle.plan.specs.Reading.{Held}
use Rattle.plan.specs.declared.Plan.{Plan}
use Rattle.state.specs.State.{State}
use Rattle.state.specs.Network.{devices}
use Rattle.reach.specs.Walk.{Any, Walk}
use Rattle.reach.specs.Away.{Away, Farthest}
use Rattle.reach.specs.Reach.{Reached}
use Rattle.reach.proofs.Distances.{farthest-once}
use Rattle.ways.specs.Crossings.{none, Crossings, reached, not-reached, AllCrossings}
use Rattle.ways.specs.Chain.{Before, Shown, padded, ChainTo, reached as shown, not-reached as no-chain}
use Rattle.ways.specs.Cut.{Out, Cause, inside, out}
use Rattle.ways.proofs.Steps.{chain-walk, walk-chain}
use Rattle.ways.proofs.Counted.{away-small}
use Rattle.ways.proofs.Fails.{some-cause}
use Rattle.ways.proofs.Unique.{chain-once}

module _ (plan : Plan) (s : State) (k d : ℕ) where
  -- ---- a chain and the number of crossings

  -- a chain that is shown is as long as its end is away
  pub shown-away : (e : ℕ) (ports : List ℕ) → Shown plan s k d e ports → Away plan s 0 k d (length ports) e
  shown-away e ports x =
      record {
        there = chain-walk plan s k d e ports x.real;
        least = λ m l w. let c = walk-chain plan s k w in omega (arith, l, x.shortest c.0 c.2, c.1);
      }

  pub chain-crossings : (e n : ℕ) (area : List ℕ) → ChainTo plan s k d e n area → Crossings plan s d k e n
  chain-crossings e n area (shown {ports = ports} x) = reached (shown-away e ports x)
  chain-crossings e n area (no-chain x) = not-reached (λ m w. let c = walk-chain plan s k w in x c.0 c.2)

  -- to the source itself it is empty
  pub chain-itself : (n : ℕ) (area : List ℕ) → ChainTo plan s k d d n area → (n ≡ 0) × (area ≡ padded [])
  chain-itself n area x =
      chain-once plan s k d d n 0 area (padded []) x
      (shown (record { real = refl; shortest = λ other c. omega arith; first = λ other c len b. nothing-before other b }))
    where
      nothing-before : (other : List ℕ) → Before other [] → ⊥
      nothing-before [] b = b
      nothing-before (o ∷ rest) b = b

  -- ---- the most crossings

  -- the value is the D that demand 3 speaks of
  pub same-most : (D E : ℕ) (far : List ℕ) → AllCrossings plan s d k D far → Farthest plan s 0 k d E → D ≡ E
  same-most D E far x y = farthest-once plan s 0 k Any d D E x.most y

  -- ---- in a held plan

  module _ (held : Held plan) (h : d < devices plan) where
    -- a number below 32 says that the device is reached
    pub reached-below : (e n : ℕ) → Crossings plan s d k e n → (m : ℕ) → Walk plan s 0 k d m e → n < 32
    reached-below e n (reached a) m w = away-small plan held s k d h n e a
    reached-below e n (not-reached x) m w = absurd (x m w)

    pub below-reached : (e n : ℕ) → Crossings plan s d k e n → n < 32 → Walk plan s 0 k d n e
    below-reached e n (reached a) l = a.there
    below-reached e n (not-reached x) l = absurd (omega (arith, l))

    -- those are the devices in reach's set
    pub in-set : (D set : ℕ) (far : List ℕ) → AllCrossings plan s d k D far → Reached plan s d k set → (e : ℕ) → e < 32 → get_or far e 0 < 32 → bit set e ≡ 1
    in-set D set far x r e l g = (r.all _ e (below-reached e _ (x.each e l) g)).1

    pub has-number : (D set : ℕ) (far : List ℕ) → AllCrossings plan s d k D far → Reached plan s d k set → (e : ℕ) → e < 32 → bit set e ≡ 1 → get_or far e 0 < 32
    has-number D set far x r e l b = let w = r.only e l b in reached-below e _ (x.each e l) w.0 w.1

    -- of each device there is a chain or none; of none there is no walk, and that is what cut is for
    pub either : (e n : ℕ) (area : List ℕ) → ChainTo plan s k d e n area
        → ((ports : List ℕ) × Shown plan s k d e ports × (n ≡ length ports) × (n < 32)) ⊎ ((n ≡ none) × ((m : ℕ) → Walk plan s 0 k d m e → ⊥))
    either e n area (shown {ports = ports} x) = inl (ports, x, refl, away-small plan held s k d h n e (shown-away e ports x))
    either e n area (no-chain x) = inr (refl, λ m w. let c = walk-chain plan s k w in x c.0 c.2)

  -- ---- a port has a cause, one of the five, exactly where it leads out

  pub cause-out : (q c : ℕ) → Cause plan s d k q c → Out plan s d k q → (1 ≤ c) × (c ≤ 5)
  cause-out q c (inside x) o = absurd (x o)
  cause-out q c (out o x) _ = some-cause plan s d k q o c x

  pub out-cause : (q c : ℕ) → Cause plan s d k q c → (c ≡ 0 → ⊥) → Out plan s d k q
  out-cause q c (inside x) n = absurd (n refl)
  out-cause q c (out o x) n = o

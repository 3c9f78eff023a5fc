-- `reach::reach` meets its contract: what the visits find is what is reached. Assumes nothing.
use mathlib.Core.Path.{◌≡◌, refl, ◌∙◌}
use Prim.Native.Nat.{ℕ, ◌+◌, ◌<◌}
use native.Mathlib.Omega.{arith}
use lib.ListN.{drop}
use borrow.Author.Rules.{rules}
use Rattle.std.specs.Prelude.{Result, Ok, Err, IsErrAnd}
use Rattle.answers.specs.Ordered.{Ordered}
use Rattle.answers.specs.Refusals.{number_of, number_in}
use Rattle.answers.specs.declared.Refusal.{Refusal}
use Rattle.answers.proofs.Refusals.{positive}
use Rattle.answers.proofs.Outcomes.{Holds, holds, passed}
use Rattle.bits.specs.Set.{join}
use Rattle.plan.specs.Reading.{Held}
use Rattle.plan.specs.declared.Plan.{Plan}
use Rattle.state.specs.State.{State}
use Rattle.state.specs.Sound.{state_asks}
use Rattle.state.proofs.Plans.{few, most-ports}
use Rattle.reach.specs.Reach.{Reached, ports_examined, source_asks, reach_asks, devices_in, set_in, examined_in, Reaches}
use Rattle.reach.specs.Visits.{ahead_in, seen, port_visit, visited}
use Rattle.reach.specs.declared.answer.Reach.{Reach}
use Rattle.reach.specs.declared.visits.Seen.{Seen}
use Rattle.reach.specs.Inner.Depth.{left, Finds}
use Rattle.reach.proofs.Examined.{visits-examine}
use Rattle.reach.proofs.Found.{visits-reach}
use Rattle.reach.proofs.reach.Goals as goal

-- behind the first two conditions
behind : (plan : Plan) (s : State) (d k n : ℕ) → Holds (state_asks plan s) → Ordered (drop 2 (reach_asks plan s d k)) n → Ordered (reach_asks plan s d k) n
behind plan s d k = passed (state_asks plan s) (drop 2 (reach_asks plan s d k))

-- from the source alone
walked : (plan : Plan) (s : State) (d k start : ℕ) (r : Seen) → Held plan → d < 32 → start ≡ join 0 d
    → Finds (λ depth. port_visit plan.core.role plan.core.ports (ahead_in plan s k) depth d 0 (seen start 0)) (left start + 9) r
    → Reached plan s d k r.set × (r.examined ≡ ports_examined plan d r.set)
unfolding visited
walked plan s d k start r held h j w =
    let same : r ≡ visited plan s d k = w 330 (omega arith) ∙ rw j in
    rw same (visits-reach plan held s d k h, visits-examine plan held s d k h)

-- what the two tests say, passed
ready : (plan : Plan) (s : State) (d k : ℕ) → Ordered (state_asks plan s) 0 → Ordered (source_asks plan.core.devices plan.core.source d k) 0
    → Holds (state_asks plan s) × Holds (source_asks plan.core.devices plan.core.source d k) × (d < 32)
ready plan s d k o a =
    let plain = holds (state_asks plan s) refl o refl in
    let asked = holds (source_asks plan.core.devices plan.core.source d k) refl a refl in
    (plain, asked, omega (arith, few plan plain.0, asked.0))

nonzero : (r : Refusal) → number_of r ≡ 0 → ⊥
nonzero r z = omega (arith, positive r)

-- a refusal that is passed on
refused : (plan : Plan) (s : State) (d k : ℕ) (r : Result Reach Refusal) (e : Refusal) → IsErrAnd r (λ x. x ≡ e) → Ordered (reach_asks plan s d k) (number_of e)
    → Reaches plan s d k (number_in r) (devices_in r) (set_in r) (examined_in r)
refused plan s d k (Ok v) e w o = absurd w
refused plan s d k (Err x) e w o = record { answers = rw w o; made = λ z. absurd (nonzero x z); kept = λ _. (refl, refl, refl) }

pub overflow_cast-device : goal.overflow_cast-device
overflow_cast-device c = let r = ready _ _ _ _ c.in_ok-refusal.ensures c.in_ok-source_refusal.ensures in omega (arith, r.2)

pub each_port-seen-requires : goal.each_port-seen-requires
each_port-seen-requires c = most-ports _ (ready _ _ _ _ c.in_ok-refusal.ensures c.in_ok-source_refusal.ensures).0.0

pub unwrap-requires-2 : goal.unwrap-requires-2
unwrap-requires-2 c = c.new.ensures.there.1 (ready _ _ _ _ c.in_ok-refusal.ensures c.in_ok-source_refusal.ensures).2

pub returns-in_err-source_refusal : goal.returns-in_err-source_refusal
returns-in_err-source_refusal c =
    refused _ _ _ _ _ _ c.from_residual-in_err-source_refusal.ensures.1
    (behind _ _ _ _ _ (holds (state_asks _ _) refl c.in_ok-refusal.ensures refl) c.in_err-source_refusal.ensures)

pub returns : goal.returns
returns c =
    let r = ready _ _ _ _ c.in_ok-refusal.ensures c.in_ok-source_refusal.ensures in
    let same : c.unwrap.result.now ≡ c.args.state.now = search rules in
    let found = rw (rw c.unwrap-2.ensures at c.new.ensures.number) at c.each_port-seen.ensures in
    let seen = walked _ _ _ _ _ _ r.0.0 r.2 c.join-alone.ensures found in
    record {
      answers = behind _ _ _ _ _ r.0 c.in_ok-source_refusal.ensures;
      made = λ _. (rw same at seen.0, c.count.ensures, seen.1);
      kept = λ n. absurd (n refl);
    }

use Prim.Native.Nat.{ℕ, ◌+◌, ◌-◌, ◌*◌, ◌≤◌, ◌<◌}
use mathlib.Core.Path.{◌≡◌}
use mathlib.Core.List.{List}
use native.Mathlib.Omega.{arith}
use Rattle.lists.specs.Loop.{up_to}
use Rattle.plan.specs.declared.Plan.{Plan}
use Rattle.state.specs.State.{State}
use Rattle.state.specs.Network.{devices}
use Rattle.bench.specs.Round.{World, arrives}
use Rattle.bench.specs.Inner.Shown.{Leads}
use Rattle.bench.specs.declared.rounds.Told.{Told}
use Rattle.bench.proofs.Following.{turns-more, turns-still, turns-done}
use Rattle.bench.proofs.rounds.arrive_all.Given as goal

-- at the ports before q something has arrived, and at most one word was told at each
pub record Reached (plan : Plan) (sent : List ℕ) (s : State) (told : Told) (q : ℕ) (t : State) (now : Told) : Type 0 where
  pub within : q ≤ 8 * devices plan
  pub leads : Leads (up_to (arrives plan sent) q) q s told t now

module _ {plan : Plan} {sent : List ℕ} {s : State} {told : Told} {q : ℕ} {t : State} {now : Told} (v : Reached plan sent s told q t now) where
  pub again : q < 8 * devices plan → {u : State} {after : Told} → Leads (arrives plan sent q) 1 t now u after → Reached plan sent s told (q + 1) u after
  again h p = record { within = omega arith; leads = turns-more _ q v.leads p (omega arith) }

  -- at the ports up to e nothing arrives
  pub skip : {e : ℕ} → q ≤ e → e ≤ 8 * devices plan → ((j : ℕ) → q ≤ j → j < e → (w : World) → arrives plan sent j w ≡ w) → Reached plan sent s told e t now
  skip {e} l h none =
      record { within = h; leads = turns-done _ e (turns-still _ q v.leads l (λ w _ j a b. none j a b _)) (omega arith) l }

abbrev pub invariant-loop-q : goal.invariant-loop-q
invariant-loop-q l =
    ((s : State) (told : Told) → Reached l.plan l.sent s told l.first l.initial.state l.initial.told → Reached l.plan l.sent s told l.q l.state l.told)
    × (l.first ≤ l.q)
    × (l.q ≤ l.past)
    × (l.past ≤ 8 * devices l.plan)

abbrev pub decreases-loop-q : goal.decreases-loop-q
decreases-loop-q l = l.past - l.q

abbrev pub invariant-loop-d : goal.invariant-loop-d
invariant-loop-d l = Reached l.plan l.sent l.initial.state l.initial.told (8 * l.d) l.state l.told

abbrev pub decreases-loop-d : goal.decreases-loop-d
decreases-loop-d l = devices l.plan - l.d

-- Demand 3 between two rounds: calls for other identifiers leave k as it is, so what is so after all of them is so after any.
use mathlib.Core.Path.{◌≡◌, sym, ap, ◌∙◌}
use Prim.Native.Nat.{ℕ, ◌≤◌, ◌<◌}
use native.Mathlib.Omega.{arith}
use Rattle.bits.specs.Set.{bit}
use Rattle.plan.specs.declared.Plan.{Plan}
use Rattle.state.specs.State.{State, register, waiting}
use Rattle.state.specs.Network.{devices}
use Rattle.state.proofs.Plans.{few}
use Rattle.calls.specs.Calls.{called}
use Rattle.laws.specs.Alike.{Alike}
use Rattle.reach.proofs.Distances.{walk-device}
use Rattle.assurance.specs.Demand3.{Given, Follows, window}
use Rattle.assurance.specs.Between.{After, FollowsIn, Between}
use Rattle.assurance.proofs.Meanwhile.{course-alike}
use Rattle.assurance.proofs.Demand.{there, place, first, asked, follows}

module _ (plan : Plan) (k source D : ℕ) (s : State) (at : ℕ → State) (given : Given plan k source D s at) where
  said : Follows plan k source D s at
  said = follows given

  module _ (t : ℕ) (u : State) (to : t ≤ window D) (after : After plan k (called plan 0 source k s) at t u) where
    like : Alike k u (at t)
    like =
        course-alike plan given.held k (place (asked given)) (window D) (called plan 0 source k s) at
        (first (asked given)) given.course t u to after

    same : (e : ℕ) → e < devices plan → bit (register u e) k ≡ bit (register (at t) e) k
    same e h = like.marks e (omega (arith, few plan given.held))

    follows-in : FollowsIn plan k source D s t u
    follows-in =
        record {
          holds = λ n e w from.
              let h = walk-device plan given.held s 0 k source (there (asked given)) w in
              same e h ∙ said.holds n e t w from to;
          no_other = λ e h b. said.no_other e t h to (sym (same e h) ∙ b);
          gone = λ last kind q g h. like.waits kind q g h ∙ ap (λ r. bit (waiting (at r) kind q) k) last ∙ said.gone kind q g h;
        }

pub between : Between
unfolding Between
between = follows-in

-- The settling's loop: the two areas take turns.
use Rattle.std.proofs.Common.{◌≡◌, sym, subst, arith, List, ℕ, ◌+◌, ◌-◌, ◌<◌}
use Rattle.plan.specs.Reading.{Held}
use Rattle.plan.specs.declared.Plan.{Plan}
use Rattle.state.specs.State.{State}
use Rattle.state.specs.Network.{devices}
use Rattle.state.specs.Sound.{Sound}
use Rattle.bench.specs.Round.{round}
use Rattle.bench.specs.Inner.Idle.{Blank, Silent}
use Rattle.bench.specs.Settling.{Quiet}
use Rattle.bench.proofs.Idles.{sound-blank}
use Rattle.bench.proofs.RoundSound.{rounds-sound}
use Rattle.bench.proofs.SettlingLoop.{Ran, ran-more, place}
use Rattle.bench.proofs.settling.Turns.settle.Given as goal

-- what is known before each round
pub record Known (plan : Plan) (s : State) (allowance n : ℕ) (now next sent : List ℕ) : Type 0 where
  pub ran : Ran plan s allowance n now
  pub blank : Blank (devices plan) next
  pub silent : Silent (devices plan) plan.core.ports sent

module _ {plan : Plan} (held : Held plan) {s : State} (sound : Sound plan s) {allowance n : ℕ} {now next sent : List ℕ}
    (k : Known plan s allowance n now next sent)
  where
    -- the state is sound
    pub in_use : Sound plan now
    in_use = subst (Sound plan) (sym k.ran.is) (rounds-sound plan held s sound n)

    -- a round leads to the other area, and leaves this one
    pub known_more : {now' next' sent' : List ℕ} → (Quiet now → ⊥) → n < allowance → now' ≡ (round plan now).next → next' ≡ now
        → Silent (devices plan) plan.core.ports sent' → Known plan s allowance (n + 1) now' next' sent'
    known_more waits l e left mute =
        record {
          ran = ran-more k.ran waits (omega arith) e;
          blank = subst (Blank (devices plan)) (sym left) (sound-blank plan held in_use);
          silent = mute;
        }

abbrev pub invariant-loop-sent : goal.invariant-loop-sent
invariant-loop-sent l =
    record {
      known : Known l.plan l.initial.self.now.now l.allowance l.n l.self.now.now l.self.next.now l.sent;
      now_at : l.self.now.ghost_name ≡ place l.initial.self.now.ghost_name l.initial.self.next.ghost_name l.n;
      next_at : l.self.next.ghost_name ≡ place l.initial.self.next.ghost_name l.initial.self.now.ghost_name l.n;
    }

abbrev pub decreases-loop-sent : goal.decreases-loop-sent
decreases-loop-sent l = l.allowance - l.n

-- Sound states of a star whose links run as at the start: calls and rounds lead from one to another.
use mathlib.Core.Path.{refl, ◌∙◌}
use Prim.Native.Nat.{ℕ, suc, ◌<◌}
use native.Mathlib.Omega.{arith}
use Rattle.plan.specs.declared.Plan.{Plan}
use Rattle.state.specs.State.{State}
use Rattle.state.specs.Sound.{Sound}
use Rattle.state.specs.Start.{started}
use Rattle.state.proofs.Started.{started-sound}
use Rattle.calls.specs.Calls.{called}
use Rattle.calls.proofs.Called.{call-sound}
use Rattle.bench.specs.Settling.{rounds}
use Rattle.bench.proofs.RoundSound.{rounds-sound}
use Rattle.assurance.proofs.Taking.{called-took}
use Rattle.assurance.proofs.Flags.{rounds-run}
use Rattle.cycles.proofs.Stars.{Star}
use Rattle.cycles.proofs.Ways.{Links, node-there}

pub record Usual (plan : Plan) (s : State) : Type 0 where
  pub sound : Sound plan s
  pub links : Links plan s

module _ {plan : Plan} {n : ℕ} (x : Star plan n) where
  pub usual-start : Usual plan (started plan)
  usual-start = record { sound = started-sound plan x.held; links = λ q b. refl }

  module _ {s : State} (y : Usual plan s) where
    pub usual-rounds : (t : ℕ) → Usual plan (rounds plan t s)
    usual-rounds t =
        record { sound = rounds-sound plan x.held s y.sound t; links = λ q b. rounds-run plan x.held q b s y.sound t ∙ y.links q b }

    -- node i + 1 requests or acknowledges, whether it may or not
    pub usual-call : (kind i k : ℕ) → kind < 2 → i < n → k < 32 → Usual plan (called plan kind (suc i) k s)
    usual-call kind i k g h l =
        record {
          sound = call-sound plan x.held s y.sound kind (suc i) k g (node-there x i h) l;
          links = λ q b. (called-took plan kind k g l (suc i) (omega (arith, x.few)) s y.sound.size).runs q ∙ y.links q b;
        }

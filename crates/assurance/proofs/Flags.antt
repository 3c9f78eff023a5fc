-- Rounds leave every link as it is.
use mathlib.Core.Path.{◌≡◌, refl, ◌∙◌}
use Prim.Native.Nat.{ℕ, ◌*◌, ◌/◌, ◌<◌}
use native.Mathlib.Omega.{arith}
use Rattle.lists.proofs.Loops.{keeps}
use Rattle.plan.specs.Reading.{Held}
use Rattle.plan.specs.declared.Plan.{Plan}
use Rattle.state.specs.State.{State, port_at, running_at, running}
use Rattle.state.specs.Network.{devices, router}
use Rattle.state.specs.Sound.{Sound}
use Rattle.state.proofs.Plans.{few}
use Rattle.bench.specs.Round.{World, reached, sent_bytes, arrives, after_sending, round}
use Rattle.bench.specs.Settling.{rounds}
use Rattle.bench.proofs.RoundSound.{arrives-taken, arrives-sound, round-sound}
use Rattle.assurance.proofs.Taking.{took}
use Rattle.assurance.proofs.Posted.{posts-sound, posts-runs}

module _ (plan : Plan) (held : Held plan) (q : ℕ) (small : q < 256) where
  module _ (s : State) (x : Sound plan s) where
    -- as in s
    abbrev pub Same : World → Type 0
    Same w = Sound plan w.state × (running w.state q ≡ running s q)

    pub arrives-same : (p : ℕ) (w : World) → p < 8 * devices plan → Same w → Same (arrives plan (sent_bytes plan s) p w)
    arrives-same p w b y =
        let n = few plan held in (
          arrives-sound plan held (sent_bytes plan s) p (omega arith) w y.0,
          arrives-taken plan (sent_bytes plan s) p (omega arith) w (λ v. running v.state q ≡ running s q) (λ none v b. b.front (port_at q running_at) (omega arith) ∙ y.1)
              (λ kind k g l e o. (took plan kind k g l (p / 8) p (omega arith) w.state y.0.size (router plan (p / 8))).runs q ∙ y.1),
        )

    pub round-runs : running (round plan s).next q ≡ running s q
    unfolding round reached
    round-runs =
        (keeps (arrives plan (sent_bytes plan s)) Same (8 * devices plan) arrives-same (after_sending plan s) (posts-sound plan held x, posts-runs plan held x q small)).1

  pub rounds-run : (s : State) → Sound plan s → (n : ℕ) → running (rounds plan n s) q ≡ running s q
  rounds-run s x n =
      (keeps (λ i t. (round plan t).next) (λ t. Sound plan t × (running t q ≡ running s q)) n
      (λ i t b y. (round-sound plan held t y.0, round-runs t y.0 ∙ y.1)) s (x, refl)).1

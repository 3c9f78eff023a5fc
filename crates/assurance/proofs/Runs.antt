-- Rounds with calls after each, from a call that is taken, are a run of the flood.
use mathlib.Core.Path.{◌≡◌}
use mathlib.Core.Bool.{true}
use Prim.Native.Nat.{ℕ, zero, suc, ◌+◌, ◌-◌, ◌≤◌, ◌<◌}
use native.Mathlib.Omega.{arith}
use Rattle.bits.specs.Set.{bit}
use Rattle.device.specs.Reaction.{is_used}
use Rattle.plan.specs.Reading.{Held}
use Rattle.plan.specs.declared.Plan.{Plan}
use Rattle.state.specs.State.{State, register, timer, waiting}
use Rattle.state.specs.Network.{devices, events, load_of}
use Rattle.state.specs.Sound.{Sound}
use Rattle.calls.specs.Calls.{called}
use Rattle.bench.specs.Round.{round}
use Rattle.flood.specs.Flood.{Run}
use Rattle.assurance.specs.Demand3.{crossing}
use Rattle.assurance.proofs.Nets.{net}
use Rattle.assurance.proofs.Sights.{sight, sending, takers_of}
use Rattle.assurance.proofs.Fits.{Fit}
use Rattle.assurance.proofs.Wave.{step, fit-after}
use Rattle.assurance.proofs.Begun.{start, fit-first}
use Rattle.assurance.proofs.Meanwhile.{Beside}

-- device d takes code k in, in state s, where it waits nowhere; for so many rounds, and some after them, no timer of k ends
pub record Ready (plan : Plan) (kind k d last spare : ℕ) (s : State) : Type 0 where
  pub held : Held plan
  pub kinds : kind < 2
  pub place : k < 32
  pub there : d < devices plan
  pub sound : Sound plan s
  pub idle : (c q : ℕ) → c < 2 → q < 256 → bit (waiting s c q) k ≡ 0
  pub stood : bit (register s d) k ≡ kind
  -- and such codes are in use for it
  pub used : is_used (events plan) kind k ≡ true
  -- an interrupt loads timers
  pub loads : kind ≡ 0 → (e : ℕ) → e < devices plan → last + spare < load_of plan e k
  pub long : (e : ℕ) → e < devices plan → bit (register s e) k ≡ 1 → last + spare < timer s e k

module _ {plan : Plan} {kind k d last spare : ℕ} {s : State} (r : Ready plan kind k d last spare s) (at : ℕ → State) (first : Beside plan k (called plan kind d k s) (at 0))
    (later : (t : ℕ) → t < last → Beside plan k (round plan (at t)).next (at (suc t))) where
  enough : (u : ℕ) → u ≤ last + spare → kind ≡ 0 → (e : ℕ) → e < devices plan → u < load_of plan e k
  enough u b z e h = omega (arith, r.loads z e h)

  -- with u rounds to go
  pub fit : (t u : ℕ) → t ≤ last → u + t ≡ last + spare → Fit plan kind k s (takers_of kind k s) u (at t)
  fit zero u m e =
      fit-first plan r.held kind k r.kinds r.place d r.there r.sound r.idle first.like first.sound u (enough u (omega arith))
      (λ i b o. omega (arith, r.long i b o))
  fit (suc t) u m e =
      let z = later t (omega arith) in
      fit-after plan r.held kind k r.kinds r.place r.used s (takers_of kind k s) u (enough u (omega arith)) (fit t (suc u) (omega arith) (omega arith)) z.like z.sound

  pub run : Run (net plan kind k s (takers_of kind k s) d) crossing last (λ t. sight plan kind k s (takers_of kind k s) d (at t)) (λ t. sending plan kind k (at t))
  run =
      record {
        start = start plan r.held kind k r.kinds r.place d r.there r.sound r.idle first.like r.stood;
        step = λ t b.
            let z = later t b in
            step plan r.held kind k r.kinds r.place r.used s (takers_of kind k s) (last + spare - suc t) (enough (last + spare - suc t) (omega arith))
            (fit t (suc (last + spare - suc t)) (omega arith) (omega arith)) z.like z.turns d;
      }

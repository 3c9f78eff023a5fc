-- The first states of the examples are sound, and in them 30 and 31 are unset and wait nowhere; node 0's port has sent nothing.
use mathlib.Core.Path.{◌≡◌, refl, sym, ◌∙◌}
use mathlib.Core.Bool.{true}
use Prim.Native.Nat.{ℕ, ◌≤◌, ◌<◌}
use native.Mathlib.Omega.{arith}
use Rattle.lists.proofs.Loops.{keeps, hit}
use Rattle.bits.specs.Set.{bit}
use Rattle.device.specs.Permissions.{may_send}
use Rattle.plan.specs.Fields.{nobody}
use Rattle.state.specs.State.{State, register, waiting, next_at, next, running, time_at, lately}
use Rattle.state.specs.Network.{devices, peer, permissions}
use Rattle.state.specs.Sound.{Sound}
use Rattle.state.specs.Start.{started}
use Rattle.state.proofs.Plans.{few}
use Rattle.state.proofs.Started.{start-port, start-behind, start-joined, started-sound}
use Rattle.calls.specs.Calls.{called}
use Rattle.calls.proofs.Called.{call-sound}
use Rattle.laws.specs.Alike.{Alike}
use Rattle.laws.proofs.Apart.{alike_same, call-apart}
use Rattle.assurance.proofs.Meanwhile.{alike_then}
use Rattle.assurance.proofs.Taking.{called-took, took-late}
use Rattle.plan.specs.Reading.{Held}
use Rattle.plan.specs.declared.Plan.{Plan}
use Rattle.witness.specs.Line.{busy}
use Rattle.assurance.proofs.Instances.{start-rests}

-- after some requests: the state is sound, and nothing happened that concerns 30 or 31
record So (plan : Plan) (t : State) : Type 0 where
  sound : Sound plan t
  left : (j : ℕ) → 30 ≤ j → j < 32 → Alike j (started plan) t
  turn : (next t 0 ≡ 0) × (lately t 0 ≡ 0)

module _ (plan : Plan) (held : Held plan) (here : 0 < devices plan) where
  so-first : So plan (started plan)
  so-first =
      record {
        sound = started-sound plan held;
        left = λ j a b. alike_same j (started plan);
        turn = (start-port plan 0 (omega arith) next_at (omega arith), rw (start-behind plan (time_at 0) (omega arith)));
      }

  -- connected ports run
  so-runs : (t : State) → So plan t → (q : ℕ) → q < 256 → peer plan q < nobody → running t q ≡ 1
  so-runs t x q h l = sym ((x.left 31 (omega arith) (omega arith)).runs q h) ∙ start-joined plan q h l

  abbrev request : ℕ → State → State
  request = called plan 0 0

  so-next : (k : ℕ) (t : State) → k < 30 → So plan t → So plan (request k t)
  so-next k t l x =
      record {
        sound = call-sound plan held t x.sound 0 0 k (omega arith) here (omega arith);
        left = λ j a b. alike_then (x.left j a b) (call-apart plan held t x.sound j b 0 0 k (omega arith) here (omega arith) (λ e. omega arith));
        turn = let took = called-took plan 0 k (omega arith) (omega arith) 0 (omega arith) t x.sound.size in (took.turns 0 ∙ x.turn.0, took-late took 0 ∙ x.turn.1);
      }

  busy-so : So plan (busy plan)
  unfolding busy
  busy-so = keeps request (So plan) 30 so-next (started plan) so-first

  pub busy-sound : Sound plan (busy plan)
  busy-sound = busy-so.sound

  module _ (j : ℕ) (a : 30 ≤ j) (b : j < 32) where
    pub busy-unset : (e : ℕ) → e < devices plan → bit (register (busy plan) e) j ≡ 0
    busy-unset e h = sym ((busy-so.left j a b).marks e (omega (arith, h, few plan held))) ∙ (start-rests plan held j).unset e h

    pub busy-idle : (kind q : ℕ) → kind < 2 → q < 256 → bit (waiting (busy plan) kind q) j ≡ 0
    busy-idle kind q g h = sym ((busy-so.left j a b).waits kind q g h) ∙ (start-rests plan held j).idle kind q g h

  -- the node's first port has sent nothing
  pub busy-turn : (next (busy plan) 0 ≡ 0) × (lately (busy plan) 0 ≡ 0)
  busy-turn = busy-so.turn

  pub busy-runs : (q : ℕ) → q < 256 → peer plan q < nobody → running (busy plan) q ≡ 1
  busy-runs = so-runs (busy plan) busy-so

  -- other identifiers, 30 of them, are set at the node and wait at its port, where that is connected and may send
  pub busy-others : peer plan 0 < nobody → may_send 0 (permissions plan 0) ≡ true → (j : ℕ) → j < 30
      → (bit (register (busy plan) 0) j ≡ 1) × (bit (waiting (busy plan) 0 0) j ≡ 1)
  unfolding busy
  busy-others joined may j l =
      hit request (So plan) 30 so-next (λ t. (bit (register t 0) j ≡ 1) × (bit (waiting t 0 0) j ≡ 1)) j l
      (λ t x.
      let took = called-took plan 0 j (omega arith) (omega arith) 0 (omega arith) t x.sound.size in
      (took.held, took.all 0 (omega arith) (λ e. omega arith) refl (record { here = omega arith; runs = so-runs t x 0 (omega arith) joined; may = may })))
      (λ k t a b x y.
      let like = call-apart plan held t x.sound j (omega arith) 0 0 k (omega arith) here (omega arith) (λ e. omega arith) in
      (sym (like.marks 0 (omega arith)) ∙ y.0, sym (like.waits 0 0 (omega arith) (omega arith)) ∙ y.1))
      (started plan) so-first

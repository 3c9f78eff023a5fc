-- `ways::layers::Roads::layer` meets its contract: a turn for each device. Assumes nothing.
use mathlib.Core.Path.{◌≡◌, refl, sym, ◌∙◌}
use mathlib.Core.Bool.{Bool, true, false, false≢true}
use mathlib.Core.List.{List}
use mathlib.Core.Logic.{◌⊎◌, inl, inr}
use Prim.Native.Nat.{ℕ, ◌+◌, ◌<◌}
use Rattle.lists.proofs.Loops.{none, turn, done}
use Rattle.ways.specs.Inner.Layers.{goes_on, spread, layer}
use Rattle.ways.proofs.layers.Roads.layer.Invariants.{Turned}
use Rattle.ways.proofs.layers.Roads.layer.Goals.{then-goes_on, else-goes_on}
use Rattle.ways.proofs.layers.Roads.layer.Goals as goal

-- the device passes on, or nothing changes
again : (role to : List ℕ) (n d : ℕ) (first far next : List ℕ) (any more : Bool) {b : Bool} → b ≡ goes_on role n d far → Turned role to n first far d any → d < 32
    → ((b ≡ true) × (next ≡ spread to n d far) × (more ≡ true)) ⊎ ((b ≡ false) × (next ≡ far) × (more ≡ any))
    → Turned role to n first next (d + 1) more
again role to n d first far next any more e v h (inl w) = (turn v.0 h (rw (← e, w.0) w.1), λ z. absurd (false≢true (sym z ∙ w.2)))
again role to n d first far next any more e v h (inr w) = (turn v.0 h (rw (← e, w.0) w.1), λ z. w.1 ∙ v.1 (sym w.2 ∙ z))

pub loop-d-init : goal.loop-d-init
loop-d-init c = (none, λ _. refl)

pub loop-d-preserved : goal.loop-d-preserved
loop-d-preserved c =
    let same = rw c.unwrap-device.ensures at c.new.ensures.number in
    again _ _ _ _ _ _ _ _ _ (rw same at c.goes_on.ensures) c.loop-d.invariant c.loop-d-test.true (elim c.if-goes_on.branch [
      | then-goes_on w ↦ inl (w.if-goes_on.true, w.far-is ∙ (rw same at w.spread.ensures), w.any-is)
      | else-goes_on w ↦ inr (w.if-goes_on.false, w.far-is, w.any-is)
    ])

pub returns : goal.returns
unfolding layer
returns c = (done c.loop-d.invariant.0 c.loop-d-test.false, c.loop-d.invariant.1)

-- `ways::layers::Roads::walk` meets its contract: a turn for each layer. Assumes nothing.
use mathlib.Core.Path.{◌≡◌, sym, ◌∙◌}
use mathlib.Core.Bool.{Bool, false}
use mathlib.Core.List.{List}
use Prim.Native.Nat.{ℕ, ◌<◌}
use lib.ListN.{set}
use Rattle.lists.specs.Table.{table}
use Rattle.lists.proofs.Loops.{After, none, turn, done}
use Rattle.ways.specs.Inner.Layers.{layer, layers}
use Rattle.ways.proofs.LayerLaws.{layers-still}
use Rattle.ways.proofs.layers.Roads.walk.Goals as goal

-- where no device passed on, nothing has changed, and nothing does from there on
ends : (role to : List ℕ) (from n : ℕ) (far next : List ℕ) {b : Bool} → from < 32 → n < 31 → After (layer to role) 31 n (set (table 32 (λ _. 32)) from 0) far
    → (next ≡ layer to role n far) × (b ≡ false → next ≡ far) → b ≡ false → next ≡ layers to role from
ends role to from n far next h l v y z =
    let same = y.1 z in
    same ∙ layers-still to role from h n far l v.is (sym y.0 ∙ same)

pub loop-n-init : goal.loop-n-init
unfolding table
loop-n-init c = rw (← c.index.ensures.equal) none

pub returns-then-not-layer : goal.returns-then-not-layer
returns-then-not-layer c = ends _ _ _ _ _ _ (rw c.index.ensures.equal at c.index.ensures.below) c.loop-n-test.true c.loop-n.invariant c.layer.ensures c.if-not-layer.true

pub loop-n-preserved : goal.loop-n-preserved
loop-n-preserved c = turn c.loop-n.invariant c.loop-n-test.true c.layer.ensures.0

pub returns : goal.returns
unfolding layers
returns c = done c.loop-n.invariant c.loop-n-test.false

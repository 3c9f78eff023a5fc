-- `ways::layers::Roads::layer` meets its contract: a turn for each device. Assumes nothing.
use mathlib.Core.Path.{◌≡◌}
use mathlib.Core.Bool.{Bool, false}
use mathlib.Core.List.{List}
use Prim.Native.Nat.{ℕ}
use Rattle.lists.proofs.Loops.{After}
use Rattle.ways.specs.Inner.Layers.{turn_of}
use Rattle.ways.proofs.layers.Roads.layer.Given as goal

-- the turns so far, and that nothing has changed where no device passed on
abbrev pub Turned : List ℕ → List ℕ → ℕ → List ℕ → List ℕ → ℕ → Bool → Type 0
Turned role to n first far d any = After (turn_of to role n) 32 d first far × (any ≡ false → far ≡ first)

abbrev pub invariant-loop-d : goal.invariant-loop-d
invariant-loop-d l = Turned l.self.role.now l.self.to.now l.n l.initial.far l.far l.d l.any

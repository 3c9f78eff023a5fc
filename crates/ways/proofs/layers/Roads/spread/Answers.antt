-- `ways::layers::Roads::spread` meets its contract: a turn for each port. Assumes nothing.
use mathlib.Core.Path.{◌≡◌, ap, ◌∙◌}
use mathlib.Core.List.{List}
use Prim.Native.Nat.{ℕ, ◌+◌, ◌-◌, ◌*◌, ◌<◌, ◌≤◌}
use native.Mathlib.Omega.{arith}
use lib.ListN.{get_or, take, drop}
use Rattle.std.proofs.lemmas.List.{get_or-take, get_or-drop}
use Rattle.std.proofs.Common.{rules}
use Rattle.lists.proofs.Loops.{none, turn, done}
use Rattle.ways.specs.Inner.Layers.{meet, spread}
use Rattle.ways.proofs.layers.Roads.spread.Goals as goal

-- what stands at place k of the eight from a first one on
placed : (to : List ℕ) (first k : ℕ) → k < 8 → get_or (take (first + 8 - first) (drop first to)) k 0 ≡ get_or to (first + k) 0
placed to first k l = get_or-take (first + 8 - first) (drop first to) k 0 (omega arith) ∙ get_or-drop first to k 0

pub loop-e-init : goal.loop-e-init
loop-e-init c = none

pub loop-e-preserved : goal.loop-e-preserved
loop-e-preserved c =
    let l : c.loop-e.e-index < 8 = search rules in
    let to : List ℕ = c.args.self.now.to.now in
    let first : ℕ = 8 * c.index-first.result in
    turn c.loop-e.invariant l (c.meet.ensures ∙ ap (λ (e : ℕ). meet c.args.n e c.loop-e.far) (placed to first c.loop-e.e-index l))

pub returns : goal.returns
unfolding spread
returns c = let l : 8 ≤ c.loop-e.e-index = search rules in rw (← c.index-first.ensures.equal) (done c.loop-e.invariant l)

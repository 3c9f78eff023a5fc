-- No rules: a plan in which a node is fenced in, and what becomes of its request.
use Rattle.std.specs.Prelude.{◌∷◌, ◌++◌, ℕ, ◌^◌, replicate}
use Rattle.plan.specs.declared.Plan.{Plan}
use Rattle.state.specs.State.{State}
use Rattle.state.specs.Start.{started}
use Rattle.calls.specs.Calls.{called}
use Rattle.bench.specs.Settling.{rounds}
use Rattle.witness.specs.Line.{line}

-- the row of three devices, but the router bars interrupts of 31 at its port to node 0
unfoldable pub guarded : Plan
guarded = record { core = line.core; peers = line.peers; barred = replicate 16 0 ++ (2 ^ 31 ∷ replicate 495 0) }

-- node 0 requests 31, and rounds are played
unfoldable pub asks : ℕ → State
asks t = rounds guarded t (called guarded 0 0 31 (started guarded))

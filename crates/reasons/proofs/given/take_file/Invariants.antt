use Prim.Native.Nat.{◌*◌}
use Rattle.areas.proofs.Written.{Written}
use Rattle.plan.specs.Block.{number_at}
use Rattle.state.specs.State.{words}
use Rattle.reasons.proofs.given.take_file.Given as goal

abbrev pub invariant-loop-i : goal.invariant-loop-i
invariant-loop-i l = Written words (λ k. number_at l.bytes (4 * k) 4) l.state l.i

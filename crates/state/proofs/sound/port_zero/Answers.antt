-- `state::port_zero` meets its contract: the port's words are a part of the state's. Assumes nothing.
use native.Mathlib.Omega.{arith}
use Prim.Native.Nat.{ℕ, ◌+◌, ◌-◌, ◌*◌, ◌<◌}
use lib.ListN.{length, take, drop}
use mathlib.Core.Path.{◌≡◌, ◌∙◌}
use Rattle.areas.specs.Put.{all_zero}
use Rattle.areas.proofs.Parts.{part-zero}
use Rattle.state.specs.State.{State, words, word, ports_at, port_words}
use Rattle.state.specs.Inner.Tests.{port_zero}
use Rattle.state.proofs.sound.port_zero.Goals as goal

whole : (s : State) (at : ℕ) (q : ℕ) → length s ≡ words → q < 256 → at ≡ ports_at + port_words * q → all_zero (take (at + 4 - at) (drop at s)) ≡ port_zero s q
unfolding port_zero word
whole s at q long h e =
    let n : at + 4 - at ≡ 4 = omega arith in
    rw n (part-zero s at 4 (omega arith) ∙ rw e)

pub returns : goal.returns
returns c = c.zeros.ensures ∙ whole c.args.state.now (ports_at + port_words * c.index-q.result) c.args.port (omega arith) (omega arith) (omega arith)

-- `state::rest_zero` meets its contract. Assumes nothing.
use mathlib.Core.Path.{◌≡◌, ◌∙◌}
use mathlib.Core.Logic.{dite}
use Prim.Native.Nat.{ℕ, ◌-◌, ◌*◌, min}
use native.Mathlib.Decide.{dec_lt}
use native.Mathlib.Omega.{arith}
use lib.ListN.{length, take, drop}
use Rattle.lists.specs.Table.{every}
use Rattle.areas.specs.Put.{all_zero}
use Rattle.areas.proofs.Parts.{part-zero}
use Rattle.state.specs.State.{State, words, word, device_words, ports_at}
use Rattle.state.specs.Inner.Tests.{zeros_in, rest_zero}
use Rattle.state.proofs.sound.rest_zero.Goals as goal

-- behind 32 devices there is nothing
behind : (n m : ℕ) (s : State) → length s ≡ words → m ≡ min n 32 → all_zero (take (ports_at - device_words * m) (drop (device_words * m) s)) ≡ rest_zero n s
unfolding zeros_in word every
behind n m s long e =
    part-zero s (device_words * m) (ports_at - device_words * m) (omega arith)
    ∙ dite (dec_lt n 32) (λ h. let q : m ≡ n = omega arith in rw q)
    (λ h. let a : ports_at - device_words * m ≡ 0 = omega arith in let b : ports_at - device_words * n ≡ 0 = omega arith in rw (a, b))

pub returns : goal.returns
returns c = c.zeros.ensures ∙ behind c.args.n c.min-from.result c.args.state.now (omega arith) c.min-from.ensures

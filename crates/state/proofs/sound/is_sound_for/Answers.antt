-- `state::is_sound_for` meets its contract: the code computes `sounds`, which is true exactly of sound states. Assumes nothing.
use mathlib.Core.Path.{◌≡◌, sym, ◌∙◌}
use mathlib.Core.Bool.{Bool}
use Prim.Native.Nat.{ℕ, ◌^◌, ◌<◌}
use native.Mathlib.Omega.{arith}
use lib.ListN.{get_or}
use Rattle.answers.specs.Decides.{Decides}
use Rattle.plan.specs.declared.Plan.{Plan}
use Rattle.state.specs.State.{State, word}
use Rattle.state.specs.Sound.{Sound}
use Rattle.state.specs.Inner.Tests.{sounds}
use Rattle.state.proofs.Tested.{sounds-sound, sound-sounds}
use Rattle.state.proofs.sound.is_sound_for.Goals as goal

decided : (plan : Plan) (s : State) (r : Bool) → ((i : ℕ) → get_or s i 0 < 2 ^ 32) → r ≡ sounds plan s → Decides (Sound plan s) r
unfolding word
decided plan s r fits e = record { only = λ f. sounds-sound plan s fits (sym e ∙ f); all = λ x. e ∙ sound-sounds plan s x }

pub returns : goal.returns
returns c =
    let s = c.args.state.now in
    let area = c.in-Some.ensures.cases in
    let fits : (i : ℕ) → get_or s i 0 < 2 ^ 32 = λ i. omega (arith, c.type_inv.state i) in
    decided c.args.plan.now s c.tests.result fits (rw area.same at c.tests.ensures)

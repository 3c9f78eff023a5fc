-- `state::all_timed` meets its contract: it asks each device. Assumes nothing.
use mathlib.Core.Path.{◌≡◌, refl, ◌∙◌}
use mathlib.Core.List.{List}
use Prim.Native.Nat.{ℕ, min}
use lib.ListN.{get_or}
use borrow.Author.Tests.{tests}
use Rattle.std.proofs.Common.{rules}
use Rattle.lists.specs.Table.{every}
use Rattle.plan.proofs.Ranges.{every-asked}
use Rattle.state.specs.State.{State}
use Rattle.state.specs.Inner.Tests.{device_timed, all_timed}
use Rattle.state.proofs.sound.all_timed.Goals as goal

-- as many as a state has room for
room : (n m : ℕ) (loads roles : List ℕ) (s : State) → m ≡ min n 32 → every m (λ d. device_timed loads (get_or roles d 0) s d) ≡ all_timed n loads roles s
unfolding all_timed
room n m loads roles s e = rw e

pub returns : goal.returns
returns c =
    let core = c.args.plan.now.core in
    every-asked _ (λ d. device_timed core.loads (get_or core.role d 0) c.args.state.now d) _ _ _ c.all.ensures.ran refl (λ x b q k. search (rules, tests))
    ∙ room core.devices _ core.loads core.role c.args.state.now c.min-n.ensures

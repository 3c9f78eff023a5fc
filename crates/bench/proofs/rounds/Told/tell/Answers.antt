use mathlib.Core.Path.{sym, ap, ◌∙◌}
use Prim.Native.Nat.{◌+◌}
use lib.ListN.{set}
use lib.Seq.{set_out}
use Rattle.bench.specs.declared.rounds.Told.{Told}
use Rattle.bench.proofs.Following.{note-one}
use Rattle.bench.proofs.rounds.Told.tell.Goals as goal
use Rattle.bench.proofs.rounds.Told.tell.Goals.{then-self, else-self}

-- where there is no room, storing is nothing
pub returns : goal.returns
returns c =
    let a = c.args.self.now in
    let word = ap (set a.area.now a.count) c.told_word-word.ensures in
    elim c.if-self.branch [
      | then-self w ↦ note-one (ap (λ (t : Told). t.area.now) w.self-is ∙ word) (ap (λ (t : Told). t.count + 1) w.self-is) (ap (λ (t : Told). t.area.ghost_name) w.self-is)
      | else-self w ↦
          note-one (ap (λ (t : Told). t.area.now) w.self-is ∙ sym (set_out _ _ _ w.if-self.false) ∙ word) (ap (λ (t : Told). t.count + 1) w.self-is)
          (ap (λ (t : Told). t.area.ghost_name) w.self-is)
    ]

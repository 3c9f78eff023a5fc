use mathlib.Core.Path.{◌≡◌, ap}
use mathlib.Core.Logic.{inl, inr}
use native.Mathlib.Omega.{arith}
use lib.ListN.{get_or}
use Rattle.text.proofs.Within.{nothing, looser, same_word, lined-none, lined-room, lined-more, lined-all, none-joined, one-joined}
use Rattle.reasons.proofs.Parts.{outward-none}
use Rattle.reasons.specs.Why.{outward}
use Rattle.reasons.proofs.lines.put_outwards.Goals.{in-Ok, in_default}
use Rattle.reasons.proofs.lines.put_outwards.Goals as goal

pub loop-q-init : goal.loop-q-init
loop-q-init c = lined-none (none-joined _)

pub put_outward-requires : goal.put_outward-requires
put_outward-requires c = (omega arith, lined-room c.loop-q.invariant (omega arith) c.requires.1)

pub loop-q-preserved : goal.loop-q-preserved
loop-q-preserved c =
    let q = c.loop-q.q in
    elim c.match-try_from.branch [
      | in-Ok w ↦ rw w.page-is (lined-more c.loop-q.invariant (omega arith) c.requires.1 (one-joined _ q) (same_word w.put_outward.ensures (ap (outward q) w.in-Ok.ensures)))
      | in_default w ↦
          let none : get_or c.args.causes.now q 0 ≡ 0 = elim w.in_default.ensures.1 [ inl z ↦ z | inr l ↦ absurd (omega (arith, c.requires.0 q, l)) ] in
          rw w.page-is (lined-more c.loop-q.invariant (omega arith) c.requires.1 (one-joined _ q) (looser (same_word (nothing _) (outward-none q _ none)) (omega arith)))
    ]

pub returns : goal.returns
returns c = lined-all c.loop-q.invariant (omega arith)

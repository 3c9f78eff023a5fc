use mathlib.Core.Path.{ap}
use native.Mathlib.Omega.{arith}
use lib.ListN.{get_or}
use lib.Seq.{take-length}
use Rattle.text.specs.Text.{joint}
use Rattle.text.proofs.Parts.{joint-short}
use Rattle.text.proofs.Within.{same_word, within, lined-none, lined-more, lined-all}
use Rattle.reasons.specs.Inner.Pieces.{joints}
use Rattle.reasons.proofs.Parts.{joints-none, joints_one}
use Rattle.reasons.proofs.lines.put_crossings.Goals as goal

pub loop-q-init : goal.loop-q-init
loop-q-init c = lined-none (joints-none c.args.peers.now c.args.ports.now)

pub loop-q-preserved : goal.loop-q-preserved
loop-q-preserved c =
    let i = c.loop-q.q-index in
    let small = c.requires.0 i (omega arith) in
    lined-more c.loop-q.invariant (omega arith) c.requires.1 (joints_one _ _ i (omega arith))
    (same_word (within (joint-short _ _ small.0 (omega (arith, small.1, c.from.ensures))) c.joint.ensures) (ap (joint (get_or c.args.ports.now i 0)) c.from.ensures))

pub returns : goal.returns
returns c = same_word (lined-all c.loop-q.invariant (omega arith)) (ap (joints c.args.peers.now) (take-length c.args.ports.now))

use Rattle.std.proofs.Common.{refl, ap, ◌∙◌, not, arith}
use Rattle.answers.proofs.Outcomes.{denied}
use Rattle.bench.proofs.Idles.{held-laid, sound-idles, sound-blank, zeros-blank, silent-repeat}
use Rattle.bench.proofs.SettlingLoop.{turned, ran-none}
use Rattle.bench.proofs.settling.Turns.settle.Invariants.{in_use, known_more}
use Rattle.bench.proofs.settling.Turns.settle.Goals as goal

pub loop-sent-init : goal.loop-sent-init
loop-sent-init c =
    record { known = record { ran = ran-none; blank = zeros-blank _ c.requires.2; silent = silent-repeat _ _ }; now_at = refl; next_at = refl }

pub quiet-requires : goal.quiet-requires
quiet-requires c =
    let p = c.requires in
    ((held-laid _ p.0).few, sound-blank _ p.0 (in_use p.0 p.1 c.loop-sent.invariant.known))

pub play-requires : goal.play-requires
play-requires c =
    let p = c.requires in
    let k = c.loop-sent.invariant.known in
    (held-laid _ p.0, sound-idles _ p.0 (in_use p.0 p.1 k), k.blank, k.silent)

pub loop-sent-preserved : goal.loop-sent-preserved
loop-sent-preserved c =
    let p = c.requires in
    let l = c.loop-sent in
    let k = l.invariant.known in
    let e = c.play.ensures in
    record {
      known = known_more p.0 p.1 k (denied c.quiet.ensures (ap not c.loop-sent-test.true)) (omega (arith, k.ran.within, c.if-n-allowance.false)) e.played e.left e.mute;
      now_at = e.turned.0 ∙ l.invariant.next_at ∙ turned _ _ l.n;
      next_at = e.turned.1 ∙ l.invariant.now_at ∙ turned _ _ l.n;
    }

use Rattle.std.proofs.Common.{arith}
use Rattle.bench.proofs.Tried.{found-three}
use Rattle.bench.proofs.trial.try_all.Goals as goal

pub loop-i-preserved : goal.loop-i-preserved
loop-i-preserved c =
    let l = c.loop-i in
    record {
      within = omega arith;
      so_far = found-three l.invariant.so_far (omega arith) (c.three_words-place.ensures _ _ _ c.attempt.ensures.0);
      cleared = c.attempt.ensures.1;
    }

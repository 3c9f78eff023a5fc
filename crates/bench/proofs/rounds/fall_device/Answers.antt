use native.Mathlib.Omega.{arith}
use Rattle.state.specs.State.{word}
use Rattle.bench.proofs.Following.{turns-none}
use Rattle.bench.proofs.rounds.fall_device.Invariants.{again, done, less}
use Rattle.bench.proofs.rounds.fall_device.Goals as goal

pub loop-rest-init : goal.loop-rest-init
unfolding word
loop-rest-init c =
    record {
      at = 0;
      within = omega arith;
      fits = c.fits-state _;
      past = λ k h. absurd (omega arith);
      idle = λ k h l z. c.requires.1.rests k l (rw c.index.ensures.equal at z);
      leads = turns-none _;
    }

pub loop-rest-smaller : goal.loop-rest-smaller
loop-rest-smaller c =
    let l = c.loop-rest in
    rw c.leave-rest.ensures (less l.invariant (omega arith))

pub loop-rest-preserved : goal.loop-rest-preserved
loop-rest-preserved c =
    let l = c.loop-rest in
    rw c.leave-rest.ensures (again l.invariant (omega arith) c.fall_one.ensures)

pub returns : goal.returns
returns c = done c.loop-rest.invariant (omega arith)

-- `bench::rounds::post_all` meets its contract. The invariant: the ports before port q have sent, and those that are lacking have sent nothing. Assumes nothing.
use mathlib.Core.Path.{◌≡◌}
use Prim.Native.Nat.{◌/◌}
use native.Mathlib.Omega.{arith}
use Rattle.lists.proofs.Loops.{done}
use Rattle.bench.specs.Round.{posted, sent_bytes}
use Rattle.bench.proofs.rounds.post_all.Invariants.{again, all-sent, begun, skip}
use Rattle.bench.proofs.rounds.post_all.Goals as goal

pub loop-d-init : goal.loop-d-init
loop-d-init c = (begun _ _ _ _ _ c.requires.2, omega arith)

pub loop-q-preserved : goal.loop-q-preserved
loop-q-preserved c =
    let l = c.loop-q in
    let port = rw c.unwrap-port.ensures at c.new.ensures.number in
    let sent = rw port at c.post_one.ensures in
    (λ start v. again c.requires.0.few (l.invariant.0 start v) (omega (arith, l.invariant.2)) sent.0 sent.1, omega arith, l.invariant.2)

pub loop-d-preserved : goal.loop-d-preserved
loop-d-preserved c =
    let u = c.requires.1.unused c.loop-d.d (omega arith) in (
      skip c.requires.0.few (c.loop-q.invariant.0 _ c.loop-d.invariant.0) (omega (arith, u.most)) (omega arith) (λ j kind a b. u.unused j kind (omega arith) (omega arith)) (λ j a b. u.untimed j (omega arith) (omega arith))
          (λ j a b _. let device : j / 8 ≡ c.loop-d.d = omega (arith, u.most) in rw device (omega arith)),
      omega arith,
    )

pub returns : goal.returns
unfolding posted sent_bytes
returns c =
    let v = c.loop-d.invariant in
    (done v.0.after (omega arith), all-sent c.requires.0.few v.0 (omega arith))

use Prim.Native.Nat.{◌+◌, ◌*◌}
use native.Mathlib.Omega.{arith}
use Rattle.text.proofs.Within.{lined-none, lined-room, lined-more, lined-all, none-joined, one-joined}
use Rattle.mend.proofs.Claimed.{claimed-at}
use Rattle.mend.proofs.lines.put_ports.Goals as goal

pub loop-p-init : goal.loop-p-init
loop-p-init c = lined-none (none-joined _)

pub put_restored-requires : goal.put_restored-requires
put_restored-requires c =
    (omega arith, lined-room c.loop-p.invariant (omega arith) c.requires)

pub loop-p-preserved : goal.loop-p-preserved
loop-p-preserved c =
    let e = claimed-at c.args.claimants.now (8 * c.index-d.result + c.loop-p.p) (omega arith) in
    lined-more c.loop-p.invariant (omega arith) c.requires (one-joined _ _) (rw (← e) at c.put_restored.ensures)

pub returns : goal.returns
returns c = rw c.index-d.ensures.equal at (lined-all c.loop-p.invariant (omega arith))

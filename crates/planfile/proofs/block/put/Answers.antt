use mathlib.Core.Path.{◌≡◌}
use Prim.Native.Nat.{◌+◌, ◌-◌}
use native.Mathlib.Omega.{arith}
use Rattle.planfile.proofs.Numbers.{put-bytes}
use Rattle.planfile.proofs.block.put.Goals as goal

pub returns : goal.returns
returns c =
    let e : c.args.i + c.args.width - c.args.i ≡ c.args.width = omega arith in
    rw (e, c.copy_from_slice.ensures.after, c.to_le_bytes.ensures) (put-bytes c.args.block.now c.args.i c.args.width c.args.number c.requires.0 (omega arith))

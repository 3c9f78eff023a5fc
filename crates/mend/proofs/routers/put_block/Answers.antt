use mathlib.Core.Path.{◌≡◌}
use mathlib.Core.Bool.{Bool, true, false}
use mathlib.Core.List.{List, ◌++◌, append_assoc}
use Prim.Native.Nat.{ℕ, ◌+◌, ◌*◌, ◌-◌, ◌≤◌, ◌<◌}
use native.Mathlib.Omega.{arith}
use lib.ListN.{length, take, drop, replicate, length-take, length-drop}
use lib.Seq.{drop-drop}
use borrow.Author.Tests.{lt-ltb, eq-eqb}
use Rattle.plan.specs.declared.Core.{Core}
use Rattle.planfile.specs.Parts.{device_put}
use Rattle.mend.specs.Inner.Steps.{router_of}
use Rattle.mend.proofs.routers.put_block.Goals as goal

-- the length of the part that is lent for a block, as it is counted there
abbrev lent : ℕ → ℕ
lent d = 512 * (1 + d) + 512 - 512 * (1 + d)

module _ (mark : Bool) (core : Core) (peers : List (List ℕ)) (d : ℕ) (before : List ℕ) where
  kept : mark ≡ false → before ≡ router_of mark core peers d before
  unfolding router_of
  kept e = rw e

  -- that part becomes the block
  made : {part : List ℕ} → mark ≡ true → d < 32 → 512 * (2 + d) ≤ length before
      → part ≡ device_put core peers (replicate 512 0) d (take (lent d) (drop (512 * (1 + d)) before))
      → take (512 * (1 + d)) before ++ (part ++ drop (lent d) (drop (512 * (1 + d)) before)) ≡ router_of mark core peers d before
  unfolding router_of device_put
  made z h l p =
      let k : lent d ≡ 512 = omega arith in
      let long : length (take 512 (drop (512 * (1 + d)) before)) ≡ 512 = simp (length-take, length-drop) (omega arith) in
      let e : 512 * (1 + d) + 512 ≡ 512 * (2 + d) = omega arith in
      rw (p, k, lt-ltb d 32 h, eq-eqb _ 512 long, z, drop-drop, e, append_assoc)

pub returns-then-not-mark : goal.returns-then-not-mark
returns-then-not-mark c = kept _ _ _ _ _ c.if-not-mark.true

pub returns : goal.returns
returns c =
    let d = c.index-d.ensures in
    rw (← d.equal) (made _ _ _ _ _ c.if-not-mark.false d.below (rw (← d.equal) at c.requires) c.put_device.ensures)

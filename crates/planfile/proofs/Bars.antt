-- What the ports of a device bar, by the bytes of its block: the masks from one on are 0 where all bytes from there on are.
use mathlib.Core.Path.{◌≡◌, sym, ap, ◌∙◌}
use mathlib.Core.List.{List, []}
use Prim.Native.Nat.{ℕ, ◌+◌, ◌-◌, ◌*◌, ◌/◌, ◌%◌, ◌≤◌}
use native.Mathlib.Omega.{arith}
use lib.Dec.{eqb}
use Rattle.lists.specs.Table.{every}
use Rattle.lists.proofs.Facts.{facts}
use Rattle.lists.proofs.Tests.{same_truth}
use Rattle.plan.specs.Block.{byte}
use Rattle.plan.specs.Fields.{role_in, ports_in, bar_in, bar_fits}
use Rattle.plan.specs.Inner.Memory.{free_masks}
use Rattle.plan.proofs.Bars.{bars-behind}
use Rattle.plan.proofs.Bytes.{number_same}
use Rattle.planfile.specs.Inner.Zeros.{zeros_in}
use Rattle.planfile.proofs.Gaps.{zeros-at, zeros-all}
use Rattle.planfile.proofs.Numbers.{four-zeros}

masks-zero : (s : List ℕ) (free : ℕ) → free ≤ 16 → zeros_in (44 + 4 * free) 108 s ≡ every (16 - free) (λ i. eqb (bar_in s (free + i)) 0)
masks-zero s free h =
    same_truth _ _
    (λ z. simp facts (λ i l. number_same s [] (44 + 4 * (free + i)) 0 4 (λ k g. zeros-at (44 + 4 * free) 108 s z (44 + 4 * (free + i) + k) (omega arith) (omega arith))))
    (λ z. zeros-all (44 + 4 * free) 108 s (λ b l g.
    let i = (b - (44 + 4 * free)) / 4 in
    let k = (b - (44 + 4 * free)) % 4 in
    let e : 44 + 4 * (free + i) + k ≡ b = omega arith in
    ap (byte s) (sym e) ∙ four-zeros s (44 + 4 * (free + i)) ((simp facts at z) i (omega arith)) k (omega arith)))

pub bars-fit : (s : List ℕ) {free : ℕ} → free ≡ free_masks (role_in s) (ports_in s) → free ≤ 16
    → zeros_in (44 + 4 * free) 108 s ≡ every 16 (λ j. bar_fits (role_in s) (ports_in s) j (bar_in s j))
bars-fit s {free} e h = masks-zero s free h ∙ rw e (bars-behind (role_in s) (ports_in s) (bar_in s))

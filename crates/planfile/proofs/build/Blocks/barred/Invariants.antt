use mathlib.Core.List.{List}
use Prim.Native.Nat.{ℕ, ◌+◌, ◌-◌, ◌*◌, ◌/◌, ◌%◌, ◌≤◌}
use Rattle.plan.specs.Refusals.{device_block}
use Rattle.plan.specs.Fields.{bar_in}
use Rattle.lists.proofs.Filled.{Filled}
use Rattle.planfile.proofs.build.Blocks.barred.Given as goal

-- the masks of n devices, of which those before mask i are copied
abbrev pub Barred : List ℕ → ℕ → ℕ → List ℕ → Type 0
Barred file n i out = Filled 512 (16 * n) 0 (λ k. bar_in (device_block file (k / 16)) (k % 16)) i out

abbrev pub invariant-loop-j : goal.invariant-loop-j
invariant-loop-j l = Barred l.file l.n (16 * l.d + l.j) l.out × (l.j ≤ 16)

abbrev pub decreases-loop-j : goal.decreases-loop-j
decreases-loop-j l = 16 - l.j

abbrev pub invariant-loop-d : goal.invariant-loop-d
invariant-loop-d l = Barred l.file l.n (16 * l.d) l.out

abbrev pub decreases-loop-d : goal.decreases-loop-d
decreases-loop-d l = l.n - l.d

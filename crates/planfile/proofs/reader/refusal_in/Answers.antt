use mathlib.Core.List.{List}
use mathlib.Core.Path.{◌≡◌, sym, ◌∙◌}
use Prim.Native.Nat.{ℕ, ◌+◌, ◌-◌, ◌/◌, ◌<◌}
use native.Mathlib.Omega.{arith}
use lib.ListN.{length}
use borrow.Author.Tests.{le-ltb}
use Rattle.plan.specs.Block.{block, byte}
use Rattle.plan.specs.Refusals.{first, header_tests, device_tests}
use Rattle.planfile.specs.Parts.{refusal_in}
use Rattle.planfile.proofs.Scans.{header-refusal, device-refusal}
use Rattle.planfile.proofs.reader.refusal_in.Goals as goal

of-header : (file : List ℕ) (b : ℕ) → b ≡ 0 → b < length file / 512 → (first (header_tests (block file 0))).number ≡ refusal_in file b
of-header file b e h = rw e (sym (header-refusal file (omega arith)))

of-device : (file : List ℕ) (b : ℕ) → (b ≡ 0 → ⊥) → b < length file / 512
    → (first (device_tests (byte (block file 0) 1) (byte (block file 0) 10) (b - 1) (block file b))).number ≡ refusal_in file b
of-device file b z h =
    let e : b - 1 + 1 ≡ b = omega arith in
    let g : 1 + (b - 1) ≡ b = omega arith in
    sym (rw (e, g) at (device-refusal file (b - 1) (omega arith)))

pub returns-then-file-b : goal.returns-then-file-b
unfolding refusal_in
returns-then-file-b c = simp (le-ltb _ _ c.if-file-b.true)

pub returns-then-b-eq0 : goal.returns-then-b-eq0
returns-then-b-eq0 c =
    let a = c.args in
    c.refusal.ensures ∙ rw c.of.ensures (of-header a.file.now a.b c.if-b-eq0.true (omega arith))

pub returns : goal.returns
returns c =
    let a = c.args in
    c.refusal-2.ensures
    ∙ rw (c.of-2.ensures, c.from-n.ensures, c.of-front.ensures) (of-device a.file.now a.b c.if-b-eq0.false (omega arith))

use mathlib.Core.Path.{refl, sym, ap, ◌∙◌}
use mathlib.Core.List.{List, []}
use Prim.Native.Nat.{ℕ, ◌*◌, ◌/◌}
use native.Mathlib.Omega.{arith}
use lib.ListN.{length, get_or}
use Rattle.std.specs.Int.{w32, from_le_bytes}
use Rattle.areas.proofs.Written.{none, turn, done}
use Rattle.planfile.proofs.Numbers.{word-number}
use Rattle.planfile.proofs.Places.{runs}
use Rattle.reasons.proofs.Words.{not-words, words-in}
use Rattle.reasons.proofs.given.take_file.Goals as goal

pub returns-then-bytes-ne-STATE : goal.returns-then-bytes-ne-STATE
returns-then-bytes-ne-STATE c = (refl, not-words c.args.bytes.now (λ e. omega (arith, e)))

pub loop-i-init : goal.loop-i-init
loop-i-init c = none c.told-state

pub loop-i-preserved : goal.loop-i-preserved
loop-i-preserved c =
    let i = c.loop-i.i in
    let bytes = c.args.bytes.now in
    let front = ap (λ (l : List (List ℕ)). from_le_bytes w32 (get_or l i [])) c.as_chunks.ensures.front in
    let word = ap (from_le_bytes w32) (runs 4 (length bytes / 4) i bytes (omega arith)) in
    rw (c.from_le_bytes.ensures ∙ front ∙ word ∙ word-number bytes (4 * i)) (turn c.loop-i.invariant c.loop-i-test.true)

pub returns : goal.returns
returns c = done c.loop-i.invariant (omega arith) ∙ sym (words-in c.args.bytes.now (omega arith))

-- `planfile::header::rest_zero` meets its contract: what is tested are the gaps before the pairs and behind them; all other fields touch. Assumes nothing.
use mathlib.Core.Path.{◌≡◌, refl, sym}
use mathlib.Core.Bool.{◌&&◌}
use mathlib.Core.List.{List}
use Prim.Native.Nat.{ℕ}
use Rattle.lists.specs.Table.{joined}
use Rattle.plan.specs.Block.{rest_zero}
use Rattle.plan.specs.Header.{header_fields}
use Rattle.planfile.specs.Inner.Zeros.{zeros_in}
use Rattle.planfile.proofs.Gaps.{gaps}
use Rattle.planfile.proofs.header.rest_zero.Goals as goal

two-gaps : (s : List ℕ) → rest_zero header_fields s ≡ (zeros_in 11 16 s && zeros_in 144 510 s)
unfolding header_fields joined
two-gaps s = sym (gaps s header_fields refl)

pub returns-then-zeros : goal.returns-then-zeros
returns-then-zeros c = rw two-gaps (rw (← c.zeros.ensures, c.if-zeros.true) c.zeros-then-zeros.ensures)

pub returns-else-zeros : goal.returns-else-zeros
returns-else-zeros c = rw two-gaps (rw (← c.zeros.ensures, c.if-zeros.false))

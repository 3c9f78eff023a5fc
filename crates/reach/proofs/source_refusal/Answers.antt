-- `reach::source_refusal` meets its contract: behind the list nobody is a source. Assumes nothing.
use mathlib.Core.Path.{◌≡◌, refl, ap}
use mathlib.Core.List.{List}
use mathlib.Core.Logic.{inl, inr}
use Prim.Native.Nat.{ℕ, ◌≤◌}
use native.Mathlib.Omega.{arith}
use lib.ListN.{length, get_or, get_or-eq_default}
use Rattle.bits.specs.Set.{bit}
use Rattle.bits.proofs.Sets.{bit-zero}
use Rattle.reach.proofs.source_refusal.Goals as goal

no_source : (sources : List ℕ) (d k : ℕ) → length sources ≤ d → bit (get_or sources d 0) k ≡ 1 → ⊥
no_source sources d k h b = omega (arith, ap (λ x. bit x k) (get_or-eq_default sources 0 h), bit-zero k)

pub returns-then-sources-device : goal.returns-then-sources-device
returns-then-sources-device c =
    let a = c.args in
    inr (omega arith, inr (omega arith, inl (no_source a.sources.now a.device a.k (omega arith), refl)))

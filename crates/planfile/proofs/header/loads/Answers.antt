-- `planfile::header::loads` meets its contract. The invariant: the common loads and the first k pairs stand where they have to. Assumes nothing.
use mathlib.Core.Path.{◌≡◌, refl, sym, ◌∙◌}
use mathlib.Core.List.{List}
use Prim.Native.Nat.{ℕ, ◌+◌, ◌*◌, ◌<◌}
use native.Mathlib.Omega.{arith}
use Rattle.lists.proofs.Filled.{filled_none, filled_more, filled-whole}
use Rattle.lists.proofs.Tables.{is-table}
use Rattle.plan.specs.Block.{number_at}
use Rattle.plan.specs.Header.{header_in}
use Rattle.plan.specs.Inner.Memory.{at}
use Rattle.plan.proofs.Loads.{node_at, router-at, length-loads, pair-at}
use Rattle.planfile.proofs.header.loads.Goals as goal

module _ (s : List ℕ) (k v : ℕ) (h : k < 32) where
  node : v ≡ number_at s (18 + 4 * k) 2 → v ≡ at (header_in s).loads (2 + 2 * k)
  node e = rw (← node_at k) (e ∙ sym (pair-at s k 0 h (omega arith)))

  router : v ≡ number_at s (16 + 4 * k) 2 → v ≡ at (header_in s).loads (2 + 2 * k + 1)
  router e = rw (← router-at k) (e ∙ sym (pair-at s k 1 h (omega arith)))

pub loop-k-init : goal.loop-k-init
loop-k-init c = filled_more (filled_more (filled_none (omega arith)) (omega arith) c.two.ensures) (omega arith) c.two-2.ensures

pub loop-k-preserved : goal.loop-k-preserved
loop-k-preserved c =
    let s = c.args.block.now in
    let k = c.loop-k.k in
    let next : 2 + 2 * k + 1 + 1 ≡ 2 + 2 * (k + 1) = omega arith in
    rw next at (filled_more (filled_more c.loop-k.invariant (omega arith) (node s k _ (omega arith) c.two-in-loop-k.ensures)) (omega arith) (router s k _ (omega arith) c.two-in-loop-k-2.ensures))

pub returns : goal.returns
returns c =
    let s = c.args.block.now in
    filled-whole c.loop-k.invariant (omega arith) ∙ sym (is-table 66 _ (header_in s).loads 0 (length-loads s) (λ i h. refl))

-- `ways::causes::Border::put_causes` meets its contract: a call for each port, which changes nothing, and a count of what is not 0. Assumes nothing.
use mathlib.Core.Path.{◌≡◌, refl, sym, ap, ◌∙◌}
use mathlib.Core.Bool.{Bool, true, false, cond, not}
use mathlib.Core.List.{List, ◌∷◌}
use Prim.Native.Nat.{ℕ, zero, suc, ◌+◌}
use native.Mathlib.Omega.{arith}
use lib.Dec.{eqb}
use lib.ListN.{length}
use borrow.Author.Rules.{rules}
use Rattle.std.proofs.Common.{tests}
use Rattle.std.specs.List.{filter}
use Rattle.std.proofs.lemmas.Iterator.{YieldsList-from_slice}
use Rattle.std.proofs.lemmas.Iterator.Consumers.{count_from_yields_List, YieldsList-from_filter}
use Rattle.lists.specs.Table.{table}
use Rattle.plan.proofs.Ranges.{made}
use Rattle.ways.specs.Cut.{marks}
use Rattle.ways.specs.Inner.Causes.{caused}
use Rattle.ways.proofs.causes.Border.put_causes.Goals as goal

abbrev marked : ℕ → Bool
marked v = not (eqb v 0)

-- the first of them counts as the last does
from_first : (n : ℕ) (f : ℕ → ℕ) → marks (suc n) f ≡ cond (eqb (f 0) 0) 0 1 + marks n (λ k. f (suc k))
unfolding marks
from_first zero f = omega arith
from_first (suc n) f = let rest = from_first n f in omega (arith, rest)

-- one word more in front
one : (b : Bool) (v m : ℕ) (vs : List ℕ) → length (filter marked vs) ≡ m → length (cond (not b) (v ∷ filter marked vs) (filter marked vs)) ≡ cond b 0 1 + m
one true v m vs e = omega (arith, e)
one false v m vs e = omega (arith, e)

counted : (n : ℕ) (f : ℕ → ℕ) → length (filter marked (table n f)) ≡ marks n f
unfolding table marks
counted zero f = refl
counted (suc n) f = one (eqb (f 0) 0) (f 0) _ (table n (λ k. f (suc k))) (counted n (λ k. f (suc k))) ∙ sym (from_first n f)

pub returns : goal.returns
returns c =
    let border = c.args.self.now in
    let at : ℕ → ℕ = caused border.plan.now border.state.now border.far.now border.k in
    let placed : c.from_fn.result ≡ table 256 at = made at 0 c.from_fn.ensures.items (λ i y q l k. search rules) in
    let many : c.count.result ≡ length (filter marked c.from_fn.result) =
    count_from_yields_List c.filter.result _ c.count.ensures.ran
    (YieldsList-from_filter _ marked (YieldsList-from_slice c.from_fn.result cc) c.filter.ensures.closure (λ x b q k. search (rules, tests))) in
    (placed, many ∙ ap (λ (l : List ℕ). length (filter marked l)) placed ∙ counted 256 at)

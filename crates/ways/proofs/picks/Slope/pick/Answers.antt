-- `ways::picks::Slope::pick` meets its contract: the first of the ports that is one, or the one behind them. Assumes nothing.
use mathlib.Core.Path.{◌≡◌}
use mathlib.Core.Bool.{true, false}
use mathlib.Core.List.{List}
use Prim.Native.Nat.{ℕ, zero, suc, ◌+◌, ◌*◌, ◌≤◌, ◌<◌}
use native.Mathlib.Decide.{ℕ_discrete}
use native.Mathlib.Omega.{arith}
use borrow.Author.Rules.{rules}
use Rattle.std.specs.Prelude.{Option, Some, None, MatchOption}
use Rattle.std.specs.Option.{unwrap_or}
use Rattle.std.proofs.lemmas.Iterator.{first_from_Range}
use Rattle.ways.specs.Inner.Picked.{nearer, pick}
use Rattle.ways.proofs.picks.Slope.pick.Goals as goal

module _ (role to far : List ℕ) (n : ℕ) where
  abbrev Other : ℕ → Type 0
  Other q = nearer role to far n q ≡ false

  none : (m q : ℕ) → ((k : ℕ) → q ≤ k → k < q + m → Other k) → q + m ≡ pick role to far n m q
  unfolding pick
  none zero q h = omega arith
  none (suc m) q h = rw (h q (omega arith) (omega arith)) (let rest = none m (q + 1) (λ k l g. h k (omega arith) (omega arith)) in omega (arith, rest))

  found : (m q i : ℕ) → q ≤ i → i < q + m → nearer role to far n i ≡ true → ((k : ℕ) → q ≤ k → k < i → Other k) → i ≡ pick role to far n m q
  unfolding pick
  found zero q i l g e h = absurd (omega arith)
  found (suc m) q i l g e h =
      elim (ℕ_discrete i q) [
        | yes z ↦ rw (rw z at e) z
        | no z ↦ rw (h q (omega arith) (omega arith)) (found m (q + 1) i (omega arith) (omega arith) e (λ k a b. h k (omega arith) b))
      ]

  chosen : (q : ℕ) (r : Option ℕ)
      → MatchOption r ((k : ℕ) → q ≤ k → k < q + 7 → Other k) (λ i. (q ≤ i) × (i < q + 7) × (nearer role to far n i ≡ true) × ((k : ℕ) → q ≤ k → k < i → Other k))
      → (unwrap_or r (q + 7) ≡ pick role to far n 7 q) × (unwrap_or r (q + 7) < q + 8)
  chosen q None h = (none 7 q h, omega arith)
  chosen q (Some i) h = (found 7 q i h.0 h.1 h.2 h.3, omega (arith, h.1))

pub returns : goal.returns
returns c =
    let a = c.args in
    let role : List ℕ = a.self.now.role.now in
    let to : List ℕ = a.self.now.to.now in
    let far : List ℕ = a.self.now.far.now in
    let port =
    chosen role to far a.n (8 * c.index-first.result) c.find.result
    (first_from_Range _ _ _ c.find.result (λ q. nearer role to far a.n q ≡ true) (λ q. nearer role to far a.n q ≡ false) c.find.ensures.ran (λ x q k. search rules) (λ x q k. search rules)) in
    rw (c.unwrap_or.ensures, ← c.index-first.ensures.equal) (port.0, omega (arith, port.1))

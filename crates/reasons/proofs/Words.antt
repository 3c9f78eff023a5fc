-- The state that is taken: the words that a file holds, that a file of another length holds none, and the start state.
use mathlib.Core.Path.{◌≡◌}
use mathlib.Core.List.{List}
use Prim.Native.Nat.{ℕ, ◌*◌, ◌/◌, ◌%◌}
use native.Mathlib.Decide.{ℕ_discrete}
use native.Mathlib.Omega.{arith}
use lib.ListN.{length}
use borrow.Author.Tests.{eq-eqb, ne_eqb}
use Rattle.lists.specs.Table.{table}
use Rattle.lists.proofs.Tables.{length-table}
use Rattle.plan.specs.Block.{number_at}
use Rattle.state.specs.State.{words}
use Rattle.state.specs.Start.{start_of, begun}
use Rattle.reasons.specs.Why.{state_in}

module _ (bytes : List ℕ) where
  -- whole words
  whole : length bytes % 4 ≡ 0 → state_in bytes ≡ table (length bytes / 4) (λ i. number_at bytes (4 * i) 4)
  unfolding state_in
  whole z = rw (eq-eqb (length bytes % 4) 0 z)

  pub words-in : length bytes ≡ 4 * words → state_in bytes ≡ table words (λ i. number_at bytes (4 * i) 4)
  words-in e =
      let n : length bytes / 4 ≡ words = omega arith in
      rw n at (whole (omega arith))

  pub not-words : (length bytes ≡ 4 * words → ⊥) → length (state_in bytes) ≡ words → ⊥
  unfolding state_in
  not-words n e =
      elim (ℕ_discrete (length bytes % 4) 0) [
        | yes z ↦ n (omega (arith, e, rw (eq-eqb (length bytes % 4) 0 z, length-table) at e))
        | no z ↦ omega (arith, rw (ne_eqb (length bytes % 4) 0 z) at e)
      ]

pub begun-whole : (peers : List (List ℕ)) (area : List ℕ) → length area ≡ words → begun peers area ≡ start_of peers
unfolding begun
begun-whole peers area e = rw (eq-eqb (length area) words e)

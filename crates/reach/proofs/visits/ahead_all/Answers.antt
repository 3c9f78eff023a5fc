-- `reach::visits::ahead_all` meets its contract: what is ahead of each port, or no state. Assumes nothing.
use mathlib.Core.Path.{◌≡◌, ◌∙◌}
use mathlib.Core.List.{List}
use Prim.Native.Nat.{ℕ}
use lib.ListN.{length, replicate, length-replicate, get_or-replicate}
use borrow.Author.Tests.{eq-eqb, ne_eqb}
use Rattle.std.proofs.Common.{rules}
use Rattle.lists.specs.Table.{table}
use Rattle.lists.proofs.Tables.{is-table, same-table}
use Rattle.plan.proofs.Ranges.{made}
use Rattle.state.specs.State.{State, words}
use Rattle.reach.specs.Visits.{ahead, ahead_in, ahead_all}
use Rattle.reach.proofs.visits.ahead_all.Goals as goal

module _ (permissions : List ℕ) (peers : List (List ℕ)) (barred : List ℕ) (s : State) (k : ℕ) where
  no-state : (length s ≡ words → ⊥) → replicate 256 32 ≡ ahead_all permissions peers barred s k
  unfolding ahead_all
  no-state n = is-table 256 _ (replicate 256 32) 0 (length-replicate {A = ℕ} 256 32) (λ i h. get_or-replicate 256 i 32 0 h ∙ rw (ne_eqb (length s) words n))

  a-state : (out : List ℕ) → length s ≡ words → out ≡ table 256 (ahead permissions peers barred s k) → out ≡ ahead_all permissions peers barred s k
  unfolding ahead_all
  a-state out e f = f ∙ same-table 256 _ _ (λ i l. rw (eq-eqb (length s) words e))

pub returns-in_default : goal.returns-in_default
returns-in_default c = no-state _ _ _ _ _ (search rules)

pub returns : goal.returns
returns c =
    let a = c.args in
    a-state _ _ _ _ _ c.from_fn.result (search rules) (made (ahead_in a.plan.now a.state.now a.k) 0 c.from_fn.ensures.items (λ i y q l k. search rules))

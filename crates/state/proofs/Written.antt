-- The start state is written port by port, in an area of zeros: the flags alone are not 0.
use mathlib.Core.Path.{◌≡◌, refl, ap, ◌∙◌}
use mathlib.Core.Bool.{Bool, true, false, cond, not, ◌&&◌}
use mathlib.Core.List.{List}
use mathlib.Core.Logic.{◌⊎◌, inl, inr}
use Prim.Native.Nat.{ℕ, ◌+◌, ◌<◌, ◌≤◌}
use native.Mathlib.Decide.{ℕ_discrete}
use native.Mathlib.Omega.{arith}
use lib.Dec.{eqb}
use lib.ListN.{length}
use borrow.Author.Tests.{eq-eqb, ne_eqb}
use Rattle.lists.specs.Table.{table}
use Rattle.lists.proofs.Tables.{length-table, get_d-table}
use Rattle.plan.specs.Fields.{nobody}
use Rattle.state.specs.State.{State, words, word, put, running_at, register_at, timer_at, port_at, running, counter_at, time_at, drops_at}
use Rattle.state.specs.Network.{peer_in}
use Rattle.state.specs.Start.{start_of}
use Rattle.state.proofs.Words.{length-put, word_same, word-other}
use Rattle.state.proofs.Parts.{is_state}

module _ (peers : List (List ℕ)) where
  abbrev flag : ℕ → ℕ
  flag q = cond (not (eqb (peer_in peers q) nobody)) 1 0

  -- the flags before port q are written, and all else is 0
  pub record Begun (q : ℕ) (s : State) : Type 0 where
    pub long : length s ≡ words
    pub flags : (p : ℕ) → p < q → running s p ≡ flag p
    pub others : (i : ℕ) → ((p : ℕ) → p < q → i ≡ port_at p running_at → ⊥) → i < words → word s i ≡ 0

  pub begins : {s : State} → s ≡ table words (λ _. 0) → Begun 0 s
  unfolding word
  begins {s} e =
      record {
        long = ap length e ∙ length-table words (λ _. 0);
        flags = λ p l. absurd (omega arith);
        others = λ i n l. ap (λ (x : State). word x i) e ∙ get_d-table words (λ _. 0) i 0 l;
      }

  -- one port more, which leads somewhere or nowhere
  pub again : (q : ℕ) (s t : State) → q < 256 → Begun q s
      → ((peer_in peers q ≡ nobody → ⊥) × (t ≡ put s (port_at q running_at) 1)) ⊎ ((peer_in peers q ≡ nobody) × (t ≡ s)) → Begun (q + 1) t
  again q s t l b (inl (n, e)) =
      rw e
      (record {
        long = length-put s (port_at q running_at) 1 ∙ b.long;
        flags = λ p h. elim (ℕ_discrete p q) [
          | yes z ↦ rw (z, ne_eqb (peer_in peers q) nobody n) (word_same s (port_at q running_at) 1 (omega (arith, b.long)))
          | no z ↦ word-other s (port_at q running_at) 1 (port_at p running_at) (omega arith) ∙ b.flags p (omega arith)
        ];
        others = λ i z h. word-other s (port_at q running_at) 1 i (z q (omega arith)) ∙ b.others i (λ p m. z p (omega arith)) h;
      })
  again q s t l b (inr (z, e)) =
      rw e
      (record {
        long = b.long;
        flags = λ p h. elim (ℕ_discrete p q) [
          | yes y ↦ rw (y, eq-eqb (peer_in peers q) nobody z) (b.others (port_at q running_at) (λ o m. omega arith) (omega arith))
          | no y ↦ b.flags p (omega arith)
        ];
        others = λ i y h. b.others i (λ p m. y p (omega arith)) h;
      })

  -- all ports
  pub all-begun : {q : ℕ} {s : State} → 256 ≤ q → q ≤ 256 → Begun q s → s ≡ start_of peers
  all-begun {q} {s} l m b =
      is_state _ s b.long (λ d h. b.others (register_at d) (λ p o. omega arith) (omega arith))
      (λ d k h g. b.others (timer_at d k) (λ p o. omega arith) (omega arith))
      (λ p i h g. elim (ℕ_discrete i running_at) [
        | yes z ↦ rw z (b.flags p (omega arith) ∙ by-peer (eqb (peer_in peers p) nobody))
        | no n ↦ b.others (port_at p i) (λ o z. omega arith) (omega arith) ∙ rw (ne_eqb i running_at n)
      ])
      (λ d h. b.others (counter_at d) (λ o z. omega arith) (omega arith)) (λ p h. b.others (time_at p) (λ o z. omega arith) (omega arith))
      (λ p kind h g. b.others (drops_at p kind) (λ o z. omega arith) (omega arith))
    where
      by-peer : (t : Bool) → ◌≡◌ {A = ℕ} (cond (not t) 1 0) (cond (true && not t) 1 0)
      by-peer true = refl
      by-peer false = refl

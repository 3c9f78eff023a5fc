-- A list of m places, of which a loop fills n from the first on: those before d hold their values, the others what they began with.
use mathlib.Core.Path.{◌≡◌, sym, ap, ◌∙◌}
use mathlib.Core.Bool.{cond}
use mathlib.Core.List.{List}
use mathlib.Core.Logic.{dite}
use Prim.Native.Nat.{ℕ, ◌+◌, ◌≤◌, ◌<◌}
use native.Mathlib.Decide.{dec_lt}
use native.Mathlib.Omega.{arith}
use lib.Dec.{ltb}
use lib.ListN.{replicate, set, length-replicate, get_or-replicate}
use borrow.Author.Tests.{lt-ltb, le-ltb}
use Rattle.lists.specs.Table.{table}
use Rattle.lists.proofs.Tables.{is-table, same-table, set-table}

-- what stands at place k
abbrev pub filling : {A : Type 0} → A → (ℕ → A) → ℕ → ℕ → A
filling z f d k = cond (ltb k d) (f k) z

pub record Filled {A : Type 0} (m n : ℕ) (z : A) (f : ℕ → A) (d : ℕ) (out : List A) : Type 0 where
  pub within : d ≤ n
  pub room : n ≤ m
  pub same : out ≡ table m (filling z f d)

-- a turn changes what stands at d
other : {A : Type 0} (z : A) (f : ℕ → A) (d k : ℕ) → (k ≡ d → ⊥) → filling z f (d + 1) k ≡ filling z f d k
other z f d k q =
    dite (dec_lt k d)
    (λ h. simp (lt-ltb k d h, lt-ltb k (d + 1) (omega arith)))
    (λ h. simp (le-ltb k d (omega arith), le-ltb k (d + 1) (omega arith)))

module _ {A : Type 0} {m n : ℕ} {z : A} {f : ℕ → A} where
  pub filled_none : n ≤ m → Filled m n z f 0 (replicate m z)
  filled_none g =
      record {
        within = omega arith;
        room = g;
        same = is-table m (filling z f 0) (replicate m z) z (length-replicate m z) (λ i h. get_or-replicate m i z z h ∙ sym (simp (le-ltb i 0 (omega arith))));
      }

  pub filled_more : {d : ℕ} {out : List A} {v : A} → Filled m n z f d out → d < n → v ≡ f d → Filled m n z f (d + 1) (set out d v)
  filled_more {d} {out} {v} p h e =
      let g : n ≤ m = p.room in
      record {
        within = omega arith;
        room = g;
        same =
            ap (λ (l : List A). set l d v) p.same
            ∙ set-table m (filling z f d) (filling z f (d + 1)) d v (omega arith) (simp (lt-ltb d (d + 1) (omega arith)) (sym e)) (λ k l q. other z f d k q);
      }

  pub filled-all : {d : ℕ} {out : List A} → Filled m n z f d out → n ≤ d → out ≡ table m (filling z f n)
  filled-all {d} {out} p h =
      let e : d ≡ n = omega (arith, p.within) in p.same ∙ ap (λ (k : ℕ). table m (filling z f k)) e

-- all m places are filled
pub filled-whole : {A : Type 0} {m : ℕ} {z : A} {f : ℕ → A} {d : ℕ} {out : List A} → Filled m m z f d out → m ≤ d → out ≡ table m f
filled-whole {m} {z} {f} p h =
    filled-all p h ∙ same-table m (filling z f m) f (λ i l. simp (lt-ltb i m l))

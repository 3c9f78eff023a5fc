-- `state::counts_sound` meets its contract: the counts that are the device's own, and those behind them. Assumes nothing.
use mathlib.Core.Path.{◌≡◌, refl, sym, ap, ◌∙◌}
use mathlib.Core.Bool.{Bool, true, false, ◌&&◌}
use Prim.Native.Nat.{ℕ, ◌+◌, ◌-◌, ◌*◌, ◌≤◌, ◌<◌}
use native.Mathlib.Omega.{arith}
use lib.Dec.{eqb, ltb, leb-suc-suc}
use lib.ListN.{length, take, drop}
use borrow.Author.Tests.{lt-ltb, le-ltb}
use Rattle.lists.specs.Table.{every}
use Rattle.lists.proofs.Tests.{every-same, every-add}
use Rattle.areas.specs.Put.{all_zero, all_short}
use Rattle.areas.proofs.Parts.{part-every, part-zero}
use Rattle.state.specs.State.{State, words, word, drops_start, most_drops}
use Rattle.state.specs.Inner.Tests.{count_sound, counts_sound}
use Rattle.state.proofs.sound.counts_sound.Goals as goal

module _ (s : State) (d own : ℕ) (long : length s ≡ words) (h : d < 32) (l : own ≤ 16) where
  abbrev start : ℕ
  start = drops_start + 16 * d

  abbrev sound : ℕ → Bool
  sound j = count_sound own j (word s (start + j))

  front : all_short (take (start + own - start) (drop start s)) ≡ every own sound
  unfolding all_short count_sound word
  front =
      let n : start + own - start ≡ own = omega arith in
      rw n
      (part-every (λ w. ltb w 65536) s start own (omega arith)
      ∙ every-same own (λ i. ltb (word s (start + i)) 65536) sound (λ i k. rw (lt-ltb i own k) (leb-suc-suc (word s (start + i)) most_drops)))

  back : all_zero (take (start + 16 - (start + own)) (drop (start + own) s)) ≡ every (16 - own) (λ i. sound (own + i))
  unfolding count_sound word
  back =
      let n : start + 16 - (start + own) ≡ 16 - own = omega arith in
      rw n
      (part-zero s (start + own) (16 - own) (omega arith)
      ∙ every-same (16 - own) (λ i. eqb (word s (start + own + i)) 0) (λ i. sound (own + i))
      (λ i k. let a : start + own + i ≡ start + (own + i) = omega arith in rw (a, le-ltb (own + i) own (omega arith))))

  both : (a b : Bool) → a ≡ all_short (take (start + own - start) (drop start s)) → b ≡ all_zero (take (start + 16 - (start + own)) (drop (start + own) s))
      → (a && b) ≡ counts_sound s d own
  unfolding counts_sound
  both a b p q =
      let n : own + (16 - own) ≡ 16 = omega arith in
      rw (p, q, front, back) (sym (every-add own (16 - own) sound) ∙ ap (λ m. every m sound) n)

pub returns-then-short : goal.returns-then-short
returns-then-short c =
    let a = c.args in
    let is : c.index.result ≡ a.device = c.index.ensures.equal in
    rw is at (both a.state.now c.index.result a.own (omega arith) (omega arith) (omega arith) true _ (sym c.if-short.true ∙ c.short.ensures) c.zeros.ensures)

pub returns-else-short : goal.returns-else-short
returns-else-short c =
    let a = c.args in
    let is : c.index.result ≡ a.device = c.index.ensures.equal in
    c.if-short.false ∙ rw is at (both a.state.now c.index.result a.own (omega arith) (omega arith) (omega arith) false _ (sym c.if-short.false ∙ c.short.ensures) refl)

-- `state::drops_sound` meets its contract: each device's counts, and at once all that is behind them. Assumes nothing.
use mathlib.Core.Path.{◌≡◌, refl, sym, ap, ◌∙◌}
use mathlib.Core.Bool.{Bool, true, false, ◌&&◌}
use mathlib.Core.List.{List}
use Prim.Native.Nat.{ℕ, ◌+◌, ◌-◌, ◌*◌, ◌≤◌, ◌<◌, min}
use native.Mathlib.Omega.{arith}
use lib.Dec.{eqb}
use lib.ListN.{length, take, drop, get_or}
use borrow.Author.Tests.{lt-ltb, le-ltb, tests}
use Rattle.std.proofs.Common.{rules}
use Rattle.lists.specs.Table.{every}
use Rattle.lists.proofs.Tests.{every-same, every-add, every-rows}
use Rattle.areas.specs.Put.{all_zero}
use Rattle.areas.proofs.Parts.{part-zero}
use Rattle.plan.specs.Inner.Memory.{free_masks}
use Rattle.plan.proofs.Ranges.{every-asked}
use Rattle.state.specs.State.{State, words, word, drops_start}
use Rattle.state.specs.Inner.Tests.{count_sound, counts_sound, own_counts, drops_sound}
use Rattle.state.proofs.sound.drops_sound.Goals as goal

module _ (n : ℕ) (role ports : List ℕ) (s : State) (m : ℕ) (e : m ≡ min n 32) where
  abbrev Sounds : ℕ → Bool
  Sounds d = counts_sound s d (own_counts n role ports d)

  -- of the devices that there are
  front : every m (λ d. counts_sound s d (free_masks (get_or role d 0) (get_or ports d 0))) ≡ every m Sounds
  unfolding own_counts
  front = every-same m _ Sounds (λ d h. let there : d < n = omega arith in rw (lt-ltb d n there))

  -- of one that there is not, all counts are 0
  none : (d j : ℕ) → n ≤ d → count_sound (own_counts n role ports d) j (word s (drops_start + 16 * d + j)) ≡ eqb (word s (drops_start + 16 * d + j)) 0
  unfolding own_counts count_sound
  none d j h = rw (le-ltb d n h, le-ltb j 0 (omega arith))

  -- device by device, or all words from the first of them on
  words-zero : every (512 - 16 * m) (λ i. eqb (word s (drops_start + 16 * m + i)) 0) ≡ every (32 - m) (λ d. Sounds (m + d))
  unfolding counts_sound
  words-zero =
      let all : 512 - 16 * m ≡ 16 * (32 - m) = omega arith in
      ap (λ k. every k flat) all
      ∙ sym (every-rows 16 (32 - m) flat)
      ∙ every-same (32 - m) _ (λ d. Sounds (m + d)) (λ d k. every-same 16 _ _ (λ j l.
      let at : drops_start + 16 * m + (16 * d + j) ≡ drops_start + 16 * (m + d) + j = omega arith in
      ap (λ i. eqb (word s i) 0) at ∙ sym (none (m + d) j (omega arith))))
    where
      flat : ℕ → Bool
      flat i = eqb (word s (drops_start + 16 * m + i)) 0

  -- all that is behind the devices
  back : length s ≡ words → all_zero (take (words - (drops_start + 16 * m)) (drop (drops_start + 16 * m) s)) ≡ every (32 - m) (λ d. Sounds (m + d))
  unfolding word
  back long =
      let k : words - (drops_start + 16 * m) ≡ 512 - 16 * m = omega arith in
      rw k (part-zero s (drops_start + 16 * m) (512 - 16 * m) (omega arith) ∙ words-zero)

  both : length s ≡ words → (a b : Bool) → a ≡ every m (λ d. counts_sound s d (free_masks (get_or role d 0) (get_or ports d 0)))
      → b ≡ all_zero (take (words - (drops_start + 16 * m)) (drop (drops_start + 16 * m) s)) → (a && b) ≡ drops_sound n role ports s
  unfolding drops_sound
  both long a b p q =
      let k : m + (32 - m) ≡ 32 = omega arith in
      rw (p, q, front, back long) (sym (every-add m (32 - m) Sounds) ∙ ap (λ i. every i Sounds) k)

pub returns-then-own : goal.returns-then-own
returns-then-own c =
    let core = c.args.plan.now.core in
    let s = c.args.state.now in
    both core.devices core.role core.ports s _ c.min-n.ensures (omega arith) true _
    (sym c.if-own.true ∙ every-asked _ (λ d. counts_sound s d (free_masks (get_or core.role d 0) (get_or core.ports d 0))) _ _ _ c.all-own.ensures.ran refl (λ x b q k. search (rules, tests)))
    c.zeros.ensures

pub returns-else-own : goal.returns-else-own
returns-else-own c =
    let core = c.args.plan.now.core in
    let s = c.args.state.now in
    c.if-own.false
    ∙ both core.devices core.role core.ports s _ c.min-n.ensures (omega arith) false _
    (sym c.if-own.false ∙ every-asked _ (λ d. counts_sound s d (free_masks (get_or core.role d 0) (get_or core.ports d 0))) _ _ _ c.all-own.ensures.ran refl (λ x b q k. search (rules, tests)))
    refl

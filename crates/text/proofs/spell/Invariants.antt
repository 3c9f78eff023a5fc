use mathlib.Core.Path.{◌≡◌, sym, ap, ◌∙◌}
use mathlib.Core.List.{List, [], ◌∷◌, ◌++◌, append_assoc}
use Prim.Native.Nat.{ℕ, suc, ◌+◌, ◌-◌, ◌/◌, ◌%◌, ◌≤◌, ◌<◌}
use native.Mathlib.Omega.{arith}
use lib.ListN.{length, take, drop, set, length-set, length-append, length-drop, take-append-drop}
use lib.Seq.{append_snoc, drop-cons, drop-set-lt, get_or-set_same, take-set-le, take-take}
use Rattle.areas.specs.Put.{put_at}
use Rattle.text.specs.Text.{digit, decimal}
use Rattle.text.proofs.Decimal.{decimal_digit, decimal_step, decimal-some, length-digit, length-step}
use Rattle.areas.proofs.Puts.{put_whole}
use Rattle.text.proofs.spell.Given as goal

-- the digits of `rest` are left to write before i; behind i they are written
pub record Spelled (area₀ : List ℕ) (end n : ℕ) (area : List ℕ) (i rest : ℕ) : Type 0 where
  pub whole : end ≤ length area₀
  pub within : i ≤ end
  pub left : length (decimal rest) ≤ i
  pub long : length area ≡ length area₀
  pub before : take i area ≡ take i area₀
  pub behind : decimal rest ++ drop i area ≡ decimal n ++ drop end area₀

-- a store before i, and what then stands from there on
pub stored : (area : List ℕ) (i d : ℕ) → 0 < i → i ≤ length area → drop (i - 1) (set area (i - 1) d) ≡ d ∷ drop i area
stored area i d h l =
    let e : suc (i - 1) ≡ i = omega arith in
    drop-cons (set area (i - 1) d) (i - 1) 0 (omega (arith, length-set area (i - 1) d))
    ∙ rw (get_or-set_same area (i - 1) d 0 (omega arith), e, drop-set-lt i area (i - 1) d (omega arith))

-- and what still stands before it
pub kept : (area₀ area : List ℕ) (i d : ℕ) → take i area ≡ take i area₀ → take (i - 1) (set area (i - 1) d) ≡ take (i - 1) area₀
kept area₀ area i d e =
    take-set-le (i - 1) area (i - 1) d (omega arith)
    ∙ sym (take-take (i - 1) i area (omega arith)) ∙ ap (take (i - 1)) e ∙ take-take (i - 1) i area₀ (omega arith)

module _ {area₀ : List ℕ} {end n : ℕ} {area : List ℕ} {i rest : ℕ} (v : Spelled area₀ end n area i rest) where
  pub turn : (d : ℕ) → d ≡ digit (rest % 10) → 10 ≤ rest → Spelled area₀ end n (set area (i - 1) d) (i - 1) (rest / 10)
  turn d e h =
      let p : 0 < i = omega (arith, decimal-some rest) in
      record {
        whole = v.whole;
        within = omega arith;
        left = omega (arith, length-step rest h);
        long = length-set area (i - 1) d ∙ v.long;
        before = kept area₀ area i d v.before;
        behind =
            ap (λ l. decimal (rest / 10) ++ l) (stored area i d p (omega arith))
            ∙ sym (append_snoc (decimal (rest / 10)) d (drop i area))
            ∙ ap (λ l. l ++ drop i area) (ap (λ x. decimal (rest / 10) ++ (x ∷ [])) e ∙ sym (decimal_step rest h))
            ∙ v.behind;
      }

  -- how long the number is follows from what stands behind
  pub sizes : rest < 10 → 1 + (length area₀ - i) ≡ length (decimal n) + (length area₀ - end)
  sizes h = omega (arith, length-digit rest h, simp (length-append, length-drop) at (ap length v.behind), v.long)

  -- the last digit to write is the number's first
  pub done : (d : ℕ) → d ≡ digit rest → rest < 10 → set area (i - 1) d ≡ put_at area₀ (end - length (decimal n)) (decimal n)
  done d e h =
      let p : 0 < i = omega (arith, decimal-some rest) in
      let q : i - 1 ≡ end - length (decimal n) = omega (arith, sizes h) in
      let r : end - length (decimal n) + length (decimal n) ≡ end = omega (arith, sizes h) in
      sym (take-append-drop (i - 1) (set area (i - 1) d))
      ∙ rw (kept area₀ area i d v.before, stored area i d p (omega arith))
      (ap (λ l. take (i - 1) area₀ ++ l) (ap (λ l. l ++ drop i area) (ap (λ x. x ∷ []) e ∙ sym (decimal_digit rest h)) ∙ v.behind)
      ∙ rw q
      (sym (append_assoc (take (end - length (decimal n)) area₀) (decimal n) (drop end area₀))
      ∙ sym (put_whole area₀ (end - length (decimal n)) (decimal n) (omega arith) ∙ rw r)))

abbrev pub invariant-loop-rest : goal.invariant-loop-rest
invariant-loop-rest l = Spelled l.initial.area l.end l.n l.area l.i l.rest

abbrev pub decreases-loop-rest : goal.decreases-loop-rest
decreases-loop-rest l = l.rest

-- Sources: that of two devices whatever both are sources of are events, said by identifier; and the same of some devices together.
use mathlib.Core.Path.{◌≡◌, ap, ap₂}
use mathlib.Core.Bool.{true, ◌&&◌}
use mathlib.Core.Logic.{dite}
use Prim.Native.Nat.{ℕ, zero, suc, ◌+◌, ◌^◌, ◌<◌, ◌≤◌}
use native.Mathlib.Decide.{dec_lt, ℕ_discrete}
use native.Mathlib.Numerals.{add-one}
use native.Mathlib.Omega.{arith}
use lib.Bits.{bit_and, bit_or, and_le_l}
use native.Mathlib.Nat.{pow-suc}
use borrow.Author.Tests.{eqb-true, eq-eqb}
use Rattle.lists.specs.Table.{every}
use Rattle.lists.proofs.Tests.{both, same_truth, every-at, every-all, every-same, and_left, and_right}
use Rattle.bits.specs.Set.{bit}
use Rattle.bits.proofs.Sets.{bit-two, bit-zero, bit-or, bit-and, same-members}
use Rattle.plan.specs.Fields.{share_events, sources_fit}

below_power : (n : ℕ) → n < 2 ^ n
below_power zero = omega arith
below_power (suc n) = omega (arith, below_power n, pow-suc 2 n)

module _ (events : ℕ) where
  -- an identifier of both is an event
  abbrev Shared : ℕ → ℕ → Type 0
  Shared a b = (k : ℕ) → bit a k ≡ 1 → bit b k ≡ 1 → bit events k ≡ 1

  pub share-event : (a b : ℕ) → share_events events a b ≡ true → Shared a b
  unfolding share_events
  share-event a b e k x y =
      let same : bit (bit_and (bit_and a b) events) k ≡ bit (bit_and a b) k = ap (λ s. bit s k) (eqb-true _ _ e) in
      omega (arith, same, bit-and k (bit_and a b) events, bit-and k a b, bit-two events k)

  pub events-share : (a b : ℕ) → Shared a b → share_events events a b ≡ true
  unfolding share_events
  events-share a b s =
      eq-eqb _ _
      (same-members a _ _ (omega (arith, below_power a, and_le_l (bit_and a b) events, and_le_l a b)) (omega (arith, below_power a, and_le_l a b))
      (λ k l. by_bits k (ℕ_discrete (bit a k) 1) (ℕ_discrete (bit b k) 1)))
    where
      by_bits : (k : ℕ) → Dec (bit a k ≡ 1) → Dec (bit b k ≡ 1) → bit (bit_and (bit_and a b) events) k ≡ bit (bit_and a b) k
      by_bits k (yes x) (yes y) = omega (arith, bit-and k (bit_and a b) events, bit-and k a b, s k x y)
      by_bits k (no x) e = omega (arith, bit-and k (bit_and a b) events, bit-and k a b, bit-two a k)
      by_bits k (yes x) (no y) = omega (arith, bit-and k (bit_and a b) events, bit-and k a b, bit-two b k)

  -- what some devices have together shares events alone exactly where what each of them has does
  pub share-more : (a b c : ℕ) → share_events events (bit_or a b) c ≡ (share_events events a c && share_events events b c)
  share-more a b c =
      same_truth _ _
      (λ e. let s = share-event (bit_or a b) c e in both _ _
      (events-share a c (λ k x y. s k (omega (arith, bit-or k a b, bit-two b k)) y))
      (events-share b c (λ k x y. s k (omega (arith, bit-or k a b, bit-two a k)) y)))
      (λ e. events-share (bit_or a b) c (λ k x y. by_bit k (ℕ_discrete (bit a k) 1) x y
      (share-event a c (and_left (share_events events a c) (share_events events b c) e) k) (share-event b c (and_right (share_events events a c) (share_events events b c) e) k)))
    where
      by_bit : (k : ℕ) → Dec (bit a k ≡ 1) → bit (bit_or a b) k ≡ 1 → bit c k ≡ 1 → (bit a k ≡ 1 → bit c k ≡ 1 → bit events k ≡ 1) → (bit b k ≡ 1 → bit c k ≡ 1 → bit events k ≡ 1)
          → bit events k ≡ 1
      by_bit k (yes x) m y p q = p x y
      by_bit k (no x) m y p q = q (omega (arith, bit-or k a b, bit-two a k)) y

  pub share-none : (c : ℕ) → share_events events 0 c ≡ true
  share-none c = events-share 0 c (λ k x y. absurd (omega (arith, bit-zero k)))

  -- one device more
  pub sources-more : (n : ℕ) (f : ℕ → ℕ) → sources_fit events f (n + 1) ≡ (sources_fit events f n && every n (λ d. share_events events (f d) (f n)))
  unfolding sources_fit every
  sources-more n f = rw add-one

  -- of fewer devices where of more
  pub sources-fewer : (n m : ℕ) (f : ℕ → ℕ) → n ≤ m → sources_fit events f m ≡ true → sources_fit events f n ≡ true
  unfolding sources_fit
  sources-fewer n m f l e = every-all n _ (λ d h. every-at m _ e d (omega arith))

  -- the same sources
  pub sources-same : (n : ℕ) (f g : ℕ → ℕ) → ((d : ℕ) → d < n → f d ≡ g d) → sources_fit events f n ≡ sources_fit events g n
  unfolding sources_fit
  sources-same n f g h =
      every-same n _ _ (λ e l. every-same e _ _ (λ d m. ap₂ (share_events events) (h d (omega arith)) (h e l)))

  -- so an identifier that is no event has one source
  pub one-source : (n : ℕ) (f : ℕ → ℕ) → sources_fit events f n ≡ true → (k : ℕ) → bit events k ≡ 0
      → (d e : ℕ) → d < n → e < n → bit (f d) k ≡ 1 → bit (f e) k ≡ 1 → d ≡ e
  unfolding sources_fit
  one-source n f s k none d e l m x y =
      let pair : (a b : ℕ) → a < b → b < n → bit (f a) k ≡ 1 → bit (f b) k ≡ 1 → bit events k ≡ 1 =
      λ a b i j u v. share-event (f a) (f b) (every-at b _ (every-at n _ s b j) a i) k u v in
      dite (dec_lt d e) (λ i. absurd (omega (arith, pair d e i m x y)))
      (λ i. dite (dec_lt e d) (λ j. absurd (omega (arith, pair e d j l y x))) (λ j. omega arith))

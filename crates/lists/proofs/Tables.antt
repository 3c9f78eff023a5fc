-- Lists said by their places: their lengths, what stands where, when two are equal, and lists joined in order.
use mathlib.Core.Path.{◌≡◌, refl, sym, ap, ap₂, ◌∙◌}
use mathlib.Core.List.{List, ◌∷◌, ◌++◌}
use mathlib.Core.Logic.{◌≢◌}
use Prim.Native.Nat.{ℕ, zero, suc, ◌+◌, ◌*◌, ◌≤◌, ◌<◌}
use native.Mathlib.Decide.{ℕ_discrete}
use native.Mathlib.Nat.{mul-suc, mul-zero, zero-add, suc-add, mul-le-mul_left}
use native.Mathlib.Omega.{arith}
use lib.ListN.{length, get_or, set, length-append, length-set, get_or-append}
use lib.Seq.{ext_get_or, get_or-set_same, get_or-set_other, get_or-append-add}
use Rattle.lists.specs.Table.{table, joined}

-- ---- tables

module _ {A : Type 0} where
  pub length-table : (n : ℕ) (f : ℕ → A) → length (table n f) ≡ n
  unfolding table
  length-table zero f = refl
  length-table (suc n) f = ap suc (length-table n (λ k. f (suc k)))

  pub get_d-table : (n : ℕ) (f : ℕ → A) (i : ℕ) (d : A) → i < n → get_or (table n f) i d ≡ f i
  unfolding table
  get_d-table zero f i d h = absurd (omega arith)
  get_d-table (suc n) f zero d h = refl
  get_d-table (suc n) f (suc i) d h = get_d-table n (λ k. f (suc k)) i d (omega arith)

  -- a list of which every place is known
  pub is-table : (n : ℕ) (f : ℕ → A) (l : List A) (d : A) → length l ≡ n → ((i : ℕ) → i < n → get_or l i d ≡ f i) → l ≡ table n f
  is-table n f l d e h =
      ext_get_or d l (table n f) (e ∙ sym (length-table n f)) (λ i g. h i (omega arith) ∙ sym (get_d-table n f i d (omega arith)))

  pub same-table : (n : ℕ) (f g : ℕ → A) → ((i : ℕ) → i < n → f i ≡ g i) → table n f ≡ table n g
  unfolding table
  same-table zero f g h = refl
  same-table (suc n) f g h = ap₂ (λ (a : A) (l : List A). a ∷ l) (h 0 (omega arith)) (same-table n (λ k. f (suc k)) (λ k. g (suc k)) (λ i l. h (suc i) (omega arith)))

  -- a store changes one place
  pub set-table : (n : ℕ) (f g : ℕ → A) (i : ℕ) (v : A) → i < n → g i ≡ v → ((k : ℕ) → k < n → k ≢ i → g k ≡ f k) → set (table n f) i v ≡ table n g
  set-table n f g i v h e other =
      is-table n g (set (table n f) i v) v (length-set (table n f) i v ∙ length-table n f)
      (λ k l. elim (ℕ_discrete k i) [
        | yes q ↦ ap (λ (m : ℕ). get_or (set (table n f) i v) m v) q ∙ get_or-set_same (table n f) i v v (omega (arith, length-table n f)) ∙ sym e ∙ ap g (sym q)
        | no q ↦ get_or-set_other (table n f) i k v v q ∙ get_d-table n f k v l ∙ sym (other k l q)
      ])

-- ---- lists joined in order, each of m elements

-- d whole runs of m lie within n
within : (m d n : ℕ) → d < n → m * suc d ≤ m * n
within m d n h = mul-le-mul_left m h

module _ {A : Type 0} (m : ℕ) (f : ℕ → List A) where
  pub length-joined : (n : ℕ) → ((d : ℕ) → d < n → length (f d) ≡ m) → length (joined n f) ≡ m * n
  unfolding joined
  length-joined zero h = sym (mul-zero m)
  length-joined (suc n) h =
      length-append (joined n f) (f n) ∙ ap₂ (λ (a b : ℕ). a + b) (length-joined n (λ d l. h d (omega arith))) (h n (omega arith)) ∙ sym (mul-suc m n)

  pub get_d-joined : (n : ℕ) → ((d : ℕ) → d < n → length (f d) ≡ m) → (d i : ℕ) (z : A) → d < n → i < m → get_or (joined n f) (m * d + i) z ≡ get_or (f d) i z
  unfolding joined
  get_d-joined zero h d i z l g = absurd (omega arith)
  get_d-joined (suc n) h d i z l g =
      let long : length (joined n f) ≡ m * n = length-joined n (λ e k. h e (omega arith)) in
      elim (ℕ_discrete d n) [
        | yes q ↦
            ap (λ (k : ℕ). get_or (joined n f ++ f n) (m * k + i) z) q ∙ ap (λ (k : ℕ). get_or (joined n f ++ f n) (k + i) z) (sym long)
            ∙ get_or-append-add (joined n f) (f n) i z ∙ ap (λ (k : ℕ). get_or (f k) i z) (sym q)
        | no q ↦
            get_or-append (joined n f) (f n) z (m * d + i) (omega (arith, mul-suc m d, within m d n (omega arith)))
            ∙ get_d-joined n (λ e k. h e (omega arith)) d i z (omega arith) g
      ]

-- a table in two parts
pub table-add : {A : Type 0} (a b : ℕ) (f : ℕ → A) → table (a + b) f ≡ table a f ++ table b (λ i. f (a + i))
unfolding table
table-add zero b f = ap (λ (k : ℕ). table k f) (zero-add b) ∙ same-table b f (λ i. f (0 + i)) (λ i l. ap f (sym (zero-add i)))
table-add (suc a) b f =
    ap (λ (k : ℕ). table k f) (suc-add a b)
    ∙ ap (λ (l : List _). f 0 ∷ l) (table-add a b (λ k. f (suc k)) ∙ ap (λ (l : List _). table a (λ k. f (suc k)) ++ l) (same-table b (λ i. f (suc (a + i))) (λ i. f (suc a + i)) (λ i l. ap f (sym (suc-add a i)))))

-- tables of m elements joined are one table
pub joined-tables : {A : Type 0} (m n : ℕ) (f : ℕ → A) → joined n (λ d. table m (λ i. f (m * d + i))) ≡ table (m * n) f
unfolding joined table
joined-tables m zero f = ap (λ (k : ℕ). table k f) (sym (mul-zero m))
joined-tables m (suc n) f =
    ap (λ (l : List _). l ++ table m (λ i. f (m * n + i))) (joined-tables m n f) ∙ sym (table-add (m * n) m f) ∙ ap (λ (k : ℕ). table k f) (sym (mul-suc m n))

-- only what is joined counts
pub same-joined : {A : Type 0} (n : ℕ) (f g : ℕ → List A) → ((d : ℕ) → d < n → f d ≡ g d) → joined n f ≡ joined n g
unfolding joined
same-joined zero f g h = refl
same-joined (suc n) f g h = ap₂ (λ (a b : List _). a ++ b) (same-joined n f g (λ d l. h d (omega arith))) (h n (omega arith))

-- The promise of each public function allows one answer, one value and one exit of its area.
use mathlib.Core.Path.{◌≡◌, refl, sym, ap, ◌∙◌}
use mathlib.Core.List.{List, [], ◌∷◌}
use mathlib.Core.Logic.{◌⊎◌, inl, inr}
use Prim.Native.Nat.{ℕ, ◌<◌}
use native.Mathlib.Decide.{ℕ_discrete, dec_lt}
use native.Mathlib.Omega.{arith}
use lib.ListN.{length, get_or}
use lib.Seq.{ext_get_or}
use Rattle.answers.proofs.Unique.{ordered-once, tells-once}
use Rattle.plan.specs.declared.Plan.{Plan}
use Rattle.state.specs.State.{State}
use Rattle.reach.specs.Away.{Away}
use Rattle.reach.specs.Walk.{Any}
use Rattle.reach.proofs.Distances.{farthest-once}
use Rattle.ways.specs.Calls.{way_asks}
use Rattle.ways.specs.Crossings.{Crossings, reached, not-reached, AllCrossings, TellsCrossings}
use Rattle.ways.specs.Chain.{Before, Shown, padded, ChainTo, reached as shown, not-reached as no-chain, TellsChain}
use Rattle.ways.specs.Cut.{marks, go_asks, Cause, inside, out, AllCauses, TellsCut}

-- two lists of which each place allows one number
same-places : (size : ℕ) (P : ℕ → ℕ → Type 0) → ((i v w : ℕ) → P i v → P i w → v ≡ w) → (a b : List ℕ) → length a ≡ size → length b ≡ size
    → ((i : ℕ) → i < size → P i (get_or a i 0)) → ((i : ℕ) → i < size → P i (get_or b i 0)) → a ≡ b
same-places size P once a b la lb pa pb =
    ext_get_or 0 a b (la ∙ sym lb) (λ i h. once i (get_or a i 0) (get_or b i 0) (pa i (omega (arith, h, la))) (pb i (omega (arith, h, la))))

module _ (plan : Plan) (s : State) where
  -- ---- crossings

  module _ (d k : ℕ) where
    away-once : (e m n : ℕ) → Away plan s 0 k d m e → Away plan s 0 k d n e → m ≡ n
    away-once e m n x y =
        elim (ℕ_discrete m n) [
          | yes z ↦ z
          | no z ↦ elim (dec_lt m n) [ yes l ↦ absurd (y.least m l x.there) | no l ↦ absurd (x.least n (omega (arith, z, l)) y.there) ]
        ]

    pub crossings-once : (e v w : ℕ) → Crossings plan s d k e v → Crossings plan s d k e w → v ≡ w
    crossings-once e v w (reached x) (reached y) = away-once e v w x y
    crossings-once e v w (reached x) (not-reached y) = absurd (y v x.there)
    crossings-once e v w (not-reached x) (reached y) = absurd (x w y.there)
    crossings-once e v w (not-reached x) (not-reached y) = refl

    pub all-crossings-once : (v w : ℕ) (a b : List ℕ) → AllCrossings plan s d k v a → AllCrossings plan s d k w b → (v ≡ w) × (a ≡ b)
    all-crossings-once v w a b x y =
        (farthest-once plan s 0 k Any d v w x.most y.most, same-places 32 (Crossings plan s d k) crossings-once a b x.size y.size x.each y.each)

    pub crossings-unique : (before : List ℕ) (m n v w : ℕ) (a b : List ℕ) → TellsCrossings plan s d k before m v a → TellsCrossings plan s d k before n w b
        → (m ≡ n) × (v ≡ w) × (a ≡ b)
    crossings-unique before = tells-once (way_asks plan s (length before ≡ 32) d k d) (AllCrossings plan s d k) all-crossings-once before

    -- ---- cut

    cause-once : (q v w : ℕ) → Cause plan s d k q v → Cause plan s d k q w → v ≡ w
    cause-once q v w (inside x) (inside y) = refl
    cause-once q v w (inside x) (out o y) = absurd (x o)
    cause-once q v w (out o x) (inside y) = absurd (y o)
    cause-once q v w (out o x) (out p y) = ordered-once (go_asks plan s d k q) v w x y

    pub causes-once : (v w : ℕ) (a b : List ℕ) → AllCauses plan s d k v a → AllCauses plan s d k w b → (v ≡ w) × (a ≡ b)
    causes-once v w a b x y =
        let same = same-places 256 (Cause plan s d k) cause-once a b x.size y.size x.each y.each in
        (x.many ∙ ap (λ (l : List ℕ). marks 256 (λ q. get_or l q 0)) same ∙ sym y.many, same)

    pub cut-unique : (before : List ℕ) (m n v w : ℕ) (a b : List ℕ) → TellsCut plan s d k before m v a → TellsCut plan s d k before n w b
        → (m ≡ n) × (v ≡ w) × (a ≡ b)
    cut-unique before = tells-once (way_asks plan s (length before ≡ 256) d k d) (AllCauses plan s d k) causes-once before

  -- ---- chain

  -- of two lists of one length one comes before the other, or they are the same
  before-or-same : (a b : List ℕ) → length a ≡ length b → (a ≡ b) ⊎ (Before a b ⊎ Before b a)
  before-or-same [] [] e = inl refl
  before-or-same [] (y ∷ ys) e = absurd (omega (arith, e))
  before-or-same (x ∷ xs) [] e = absurd (omega (arith, e))
  before-or-same (x ∷ xs) (y ∷ ys) e =
      elim (ℕ_discrete x y) [
        | no n ↦ elim (dec_lt x y) [ yes l ↦ inr (inl (inl l)) | no l ↦ inr (inr (inl (omega (arith, n, l)))) ]
        | yes z ↦ elim (before-or-same xs ys (omega (arith, e))) [
          | inl r ↦ inl (λ i. z i ∷ r i)
          | inr o ↦ elim o [ inl b ↦ inr (inl (inr (z, b))) | inr b ↦ inr (inr (inr (sym z, b))) ]
        ]
      ]

  module _ (k d e : ℕ) where
    pub shown-once : (a b : List ℕ) → Shown plan s k d e a → Shown plan s k d e b → a ≡ b
    shown-once a b x y =
        let size : length a ≡ length b = omega (arith, x.shortest b y.real, y.shortest a x.real) in
        elim (before-or-same a b size) [
          | inl z ↦ z
          | inr o ↦ elim o [ inl l ↦ absurd (y.first a x.real size l) | inr l ↦ absurd (x.first b y.real (sym size) l) ]
        ]

    pub chain-once : (v w : ℕ) (a b : List ℕ) → ChainTo plan s k d e v a → ChainTo plan s k d e w b → (v ≡ w) × (a ≡ b)
    chain-once v w a b (shown {ports = p} x) (shown {ports = q} y) = let z = shown-once p q x y in (ap length z, ap padded z)
    chain-once v w a b (shown {ports = p} x) (no-chain y) = absurd (y p x.real)
    chain-once v w a b (no-chain x) (shown {ports = q} y) = absurd (x q y.real)
    chain-once v w a b (no-chain x) (no-chain y) = (refl, refl)

    pub chain-unique : (before : List ℕ) (m n v w : ℕ) (a b : List ℕ) → TellsChain plan s k d e before m v a → TellsChain plan s k d e before n w b
        → (m ≡ n) × (v ≡ w) × (a ≡ b)
    chain-unique before = tells-once (way_asks plan s (length before ≡ 32) d k e) (ChainTo plan s k d e) chain-once before

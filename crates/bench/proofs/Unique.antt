-- Each public function's promise allows one answer and one exit of the areas.
use mathlib.Core.Path.{◌≡◌, refl, sym, ap, ◌∙◌}
use mathlib.Core.List.{List}
use Prim.Native.Nat.{ℕ, ◌+◌, ◌*◌, ◌/◌, ◌%◌, ◌<◌}
use native.Mathlib.Decide.{ℕ_discrete}
use native.Mathlib.Omega.{arith}
use lib.ListN.{get_or}
use lib.Seq.{ext_get_or}
use Rattle.std.specs.Prelude.{Result, Ok, Err}
use Rattle.answers.specs.Refusals.{number_in}
use Rattle.answers.specs.declared.Refusal.{Refusal}
use Rattle.answers.proofs.Refusals.{positive, refusal-once}
use Rattle.answers.proofs.Unique.{ordered-once}
use Rattle.plan.specs.declared.Plan.{Plan}
use Rattle.state.specs.State.{State}
use Rattle.state.specs.Start.{started}
use Rattle.calls.specs.Calls.{call_asks}
use Rattle.bench.specs.Round.{Areas}
use Rattle.bench.specs.RoundCall.{round_asks, Plays}
use Rattle.bench.specs.Settling.{Least, Pair, settle_asks, after, rounds_in, Settles}
use Rattle.bench.specs.Trials.{requested, Answered, held_after, Tries, refused, settled, waiting, found_words, Finds, Lent, trials_asks, TriesAll}

pub round-unique : (plan : Plan) (old : State) (before : Areas) (m n v w : ℕ) (a b : Areas)
    → Plays plan old before m v a → Plays plan old before n w b → (m ≡ n) × (v ≡ w) × (a ≡ b)
round-unique plan old before m n v w a b p q =
    let e = ordered-once (round_asks plan old before) m n p.answers q.answers in
    elim (ℕ_discrete m 0) [
      | yes z ↦ let y = sym e ∙ z in (e, (p.made z).1 ∙ sym (q.made y).1, (p.made z).0 ∙ sym (q.made y).0)
      | no z ↦ let y : n ≡ 0 → ⊥ = λ u. z (e ∙ u) in (e, (p.kept z).1 ∙ sym (q.kept y).1, (p.kept z).0 ∙ sym (q.kept y).0)
    ]

-- neither of two least numbers is below the other
pub least-once : (plan : Plan) (s : State) (m n : ℕ) → Least plan s m → Least plan s n → m ≡ n
least-once plan s m n p q =
    let a : m < n → ⊥ = λ l. q.least m l p.quiet in
    let b : n < m → ⊥ = λ l. p.least n l q.quiet in
    omega arith

pub settle-unique : (plan : Plan) (before : Pair) (allowance m n v w : ℕ) (a b : Pair)
    → Settles plan before allowance m v a → Settles plan before allowance n w b → (m ≡ n) × (v ≡ w) × (a ≡ b)
settle-unique plan before allowance m n v w a b p q = let r = by_number (ℕ_discrete m 0) (ℕ_discrete m 12) in (e, r.0, r.1)
  where
    e : m ≡ n
    e = ordered-once (settle_asks plan before allowance) m n p.answers q.answers

    by_number : Dec (m ≡ 0) → Dec (m ≡ 12) → (v ≡ w) × (a ≡ b)
    by_number (yes z) d =
        let x = p.made z in
        let y = q.made (sym e ∙ z) in
        let s = least-once plan before.state v w x.0 y.0 in
        (s, x.1 ∙ ap (after plan before.state) s ∙ sym y.1)
    by_number (no z) (yes t) =
        let x = p.still t in
        let y = q.still (sym e ∙ t) in
        (x.0 ∙ sym y.0, x.1 ∙ sym y.1)
    by_number (no z) (no t) =
        let x = p.kept z t in
        let y = q.kept (λ u. z (e ∙ u)) (λ u. t (e ∙ u)) in
        (x.0 ∙ sym y.0, x.1 ∙ sym y.1)

-- the answer of a settling, by its number and its rounds
pub rounds-once : (allowance : ℕ) (r s : Result ℕ Refusal) → number_in r ≡ number_in s → rounds_in allowance r ≡ rounds_in allowance s → r ≡ s
rounds-once allowance (Ok v) (Ok w) e f = ap Ok f
rounds-once allowance (Ok v) (Err s) e f = let p = positive s in absurd (omega arith)
rounds-once allowance (Err r) (Ok w) e f = let p = positive r in absurd (omega arith)
rounds-once allowance (Err r) (Err s) e f = ap Err (refusal-once r s e)

-- ---- the trials

module _ (plan : Plan) (d k : ℕ) where
  same_number : {m n : ℕ} → Answered plan d k m → Answered plan d k n → m ≡ n
  same_number {m} {n} o p = ordered-once (call_asks plan 0 d k (started plan)) m n o p

  pub tries-once : {m n v w a b : ℕ} → Tries plan d k m v a → Tries plan d k n w b → (m ≡ n) × (v ≡ w) × (a ≡ b)
  tries-once (refused o z) (refused p y) = (same_number o p, refl, refl)
  tries-once (refused o z) (settled p l y) = absurd (z (same_number o p))
  tries-once (refused o z) (waiting p y) = absurd (z (same_number o p))
  tries-once (settled o l z) (refused p y) = absurd (y (same_number p o))
  tries-once (settled o l z) (settled p m y) = let e = least-once plan (requested plan d k) _ _ z y in (refl, e, ap (held_after plan d k) e)
  tries-once (settled {n} o l z) (waiting p y) = absurd (y n l z.quiet)
  tries-once (waiting o z) (refused p y) = absurd (y (same_number p o))
  tries-once (waiting o z) (settled {n} p m y) = absurd (z n m y.quiet)
  tries-once (waiting o z) (waiting p y) = (refl, refl, refl)

pub finds-once : (plan : Plan) (a b : List ℕ) → Finds plan a → Finds plan b → a ≡ b
finds-once plan a b p q = ext_get_or 0 a b (p.size ∙ sym q.size) (λ j l. word j (omega (arith, l, p.size)))
  where
    -- the words of place i
    place : (i : ℕ) → i < 1024 → (get_or a (3 * i) 0 ≡ get_or b (3 * i) 0) × (get_or a (3 * i + 1) 0 ≡ get_or b (3 * i + 1) 0) × (get_or a (3 * i + 2) 0 ≡ get_or b (3 * i + 2) 0)
    place i h = tries-once plan (i / 32) (i % 32) (p.each i h) (q.each i h)

    word : (j : ℕ) → j < found_words → get_or a j 0 ≡ get_or b j 0
    word j l =
        let x = place (j / 3) (omega arith) in
        let first : j % 3 ≡ 0 → 3 * (j / 3) ≡ j = λ e. omega arith in
        let second : j % 3 ≡ 1 → 3 * (j / 3) + 1 ≡ j = λ e. omega arith in
        elim (ℕ_discrete (j % 3) 0) [
          | yes e ↦ rw (first e) at x.0
          | no n ↦
              elim (ℕ_discrete (j % 3) 1) [
                | yes e ↦ rw (second e) at x.1
                | no m ↦ let third : 3 * (j / 3) + 2 ≡ j = omega arith in rw third at x.2
              ]
        ]

pub trials-unique : (plan : Plan) (before : Lent) (m n : ℕ) (a b : Lent) → TriesAll plan before m a → TriesAll plan before n b → (m ≡ n) × (a ≡ b)
trials-unique plan before m n a b p q =
    let e = ordered-once (trials_asks plan before) m n p.answers q.answers in
    elim (ℕ_discrete m 0) [
      | yes z ↦
          let x = p.made z in
          let y = q.made (sym e ∙ z) in
          let f = finds-once plan a.found b.found x.0 y.0 in
          let s = x.1 ∙ sym y.1 in
          let t = x.2 ∙ sym y.2 in
          (e, λ i. record { state = s i; second = t i; found = f i })
      | no z ↦ (e, p.kept z ∙ sym (q.kept (λ u. z (e ∙ u))))
    ]

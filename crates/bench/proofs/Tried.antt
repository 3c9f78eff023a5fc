-- What one trial comes to, and the trials of all places.
use mathlib.Core.Path.{◌≡◌, refl, sym, ap, subst, ◌∙◌}
use mathlib.Core.List.{List, ◌∷◌}
use mathlib.Core.Logic.{inl, inr}
use Prim.Native.Nat.{ℕ, zero, suc, ◌+◌, ◌-◌, ◌*◌, ◌/◌, ◌%◌, ◌≤◌, ◌<◌}
use native.Mathlib.Numerals.{add-one}
use native.Mathlib.Omega.{arith}
use lib.ListN.{length, get_or, set, length-set}
use lib.Seq.{get_or-set_same, get_or-set_other}
use borrow.Rule.Slice.PartMut.{mid_of, put_mid, mid_len, same_len_mid}
use Rattle.std.proofs.lemmas.Grind.{elements}
use Rattle.std.specs.Prelude.{Result, Ok, Err}
use Rattle.std.specs.Result.{IsErrAnd}
use borrow.Author.Tests.{eq-eqb}
use borrow.Author.Count.{below_none, below_more}
use Rattle.answers.specs.Ordered.{Condition, ask, Ordered}
use Rattle.answers.specs.Refusals.{number_of}
use Rattle.answers.specs.declared.Refusal.{Refusal}
use Rattle.answers.proofs.Outcomes.{Holds, holds}
use Rattle.answers.proofs.Refusals.{positive}
use Rattle.lists.specs.Table.{table}
use Rattle.bits.specs.Set.{bit}
use Rattle.bits.proofs.Sets.{bit-two}
use Rattle.device.specs.Reaction.{is_used}
use Rattle.plan.specs.Reading.{Held}
use Rattle.plan.specs.declared.Plan.{Plan}
use Rattle.state.specs.State.{State, words, register}
use Rattle.state.specs.Network.{devices, source}
use Rattle.state.specs.Sound.{Sound}
use Rattle.state.specs.Start.{start_of, begun, started}
use Rattle.calls.specs.Calls.{device_asks, own_asks, send_asks, called}
use Rattle.bench.specs.Settling.{Pair, most_rounds, after, pair}
use Rattle.bench.specs.Inner.Ends.{Ends}
use Rattle.bench.specs.Inner.Trial.{Comes}
use Rattle.bench.specs.declared.trial.Tried.{Tried as TriedPlace}
use Rattle.bench.specs.Trials.{holders, requested, Answered, held_after, Tries, refused, settled, waiting, FoundAt, found_words, Finds, Fits, TriesAll, lent}
use Rattle.calls.proofs.Asked.{call-foreign, call-answered}
use Rattle.state.proofs.Started.{started-sound}
use Rattle.calls.proofs.Called.{call-sound}

-- ---- the count of the devices

pub holders-few : (n k : ℕ) (s : State) → holders n k s ≤ n
unfolding holders
holders-few zero k s = omega arith
holders-few (suc n) k s = omega (arith, holders-few n k s, bit-two (register s n) k)

-- one device more
pub holders-more : (n k : ℕ) (s : State) {held one : ℕ} → held ≡ holders n k s → one ≡ bit (register s n) k → held + one ≡ holders (n + 1) k s
unfolding holders
holders-more n k s e f = rw (e, f, add-one n)

-- ---- one device and one identifier

-- a refusal is not done
pub not-done : (r : Refusal) → number_of r ≡ 0 → ⊥
not-done r z = let p = positive r in omega arith

-- the same three numbers
same : {plan : Plan} {d k a b c x y z : ℕ} → Tries plan d k a b c → a ≡ x → b ≡ y → c ≡ z → Tries plan d k x y z
same {plan} {d} {k} {a} {b} {y = y} {z = z} t p q r =
    subst (λ n. Tries plan d k n y z) p (subst (λ n. Tries plan d k a n z) q (subst (λ n. Tries plan d k a b n) r t))

-- the start state, in an area of its length
pub is-begun : (peers : List (List ℕ)) (area : State) {s : State} → length area ≡ words → s ≡ begun peers area → s ≡ start_of peers
unfolding begun
is-begun peers area long e = e ∙ rw (eq-eqb (length area) words long)

-- the second area ends as zeros
pub ends-second : {plan : Plan} {s : State} {allowance number value : ℕ} {u w : State} → Ends plan s allowance number value (pair u w) → w ≡ table words (λ i. 0)
ends-second (inl p) = ap (λ (x : Pair). x.second) p.3
ends-second (inr p) = ap (λ (x : Pair). x.second) p.3

module _ (plan : Plan) (held : Held plan) (d k : ℕ) where
  -- the plan lacks the device
  pub is-absent : devices plan ≤ d → Tries plan d k 4 0 0
  is-absent l = refused (inr (held, inr (started-sound plan held, inl ((λ h. omega arith), refl)))) (omega arith)

  module _ (there : d < devices plan) where
    begins : Holds (device_asks plan d (started plan))
    begins = (held, (started-sound plan held, (there, tt)))

    -- the device is no source of the identifier
    pub is-foreign : (r : Refusal) → Ordered (own_asks (source plan d) k) (number_of r) → Tries plan d k (number_of r) 0 0
    is-foreign r o = refused (call-foreign plan d (started plan) 0 k begins refl o (not-done r)) (not-done r)

    module _ (own : Ordered (own_asks (source plan d) k) 0) where
      pub is-small : k < 32
      is-small = (holds (own_asks (source plan d) k) refl own refl).0

      module _ {s : State} (fresh : s ≡ started plan) where
        abbrev asks : List Condition
        asks = ask 4 (d < 32) ∷ send_asks plan.core.permissions 0 d k s

        answered : (number : ℕ) → Ordered asks number → Answered plan d k number
        unfolding is_used
        answered number a =
            call-answered plan d (started plan) 0 k begins refl own refl refl
            (subst (λ (x : State). Ordered (ask 4 (d < 32) ∷ send_asks plan.core.permissions 0 d k x) number) fresh a)

        pub is-refused : (r : Refusal) → Ordered asks (number_of r) → Tries plan d k (number_of r) 0 0
        is-refused r a = refused (answered (number_of r) a) (not-done r)

        module _ (a : Ordered asks 0) {t : State} (e : t ≡ called plan 0 d k s) where
          asked : t ≡ requested plan d k
          asked = e ∙ ap (called plan 0 d k) fresh

          sound : Sound plan (requested plan d k)
          sound = call-sound plan held (started plan) (started-sound plan held) 0 d k (omega arith) there is-small

          pub is-sound : Sound plan t
          is-sound = subst (Sound plan) (sym asked) sound

          module _ {count : ℕ} {u w : State} (h : count ≡ holders (devices plan) k u) where
            -- the devices that are counted are those after as many rounds
            again : (m : ℕ) → pair u w ≡ after plan (requested plan d k) m → held_after plan d k m ≡ count
            again m g = sym (h ∙ ap (holders (devices plan) k) (ap (λ (x : Pair). x.state) g))

            module _ {n v : ℕ} (r : Ends plan t most_rounds n v (pair u w)) where
              ends : Ends plan (requested plan d k) most_rounds n v (pair u w)
              ends = subst (λ (x : State). Ends plan x most_rounds n v (pair u w)) asked r

              -- it settles
              pub is-settled : n ≡ 0 → Tries plan d k 0 v count
              is-settled z = elim ends [
                | inl p ↦ same (settled (answered 0 a) p.1 p.2) refl refl (again v p.3)
                | inr p ↦ absurd (omega (arith, p.0))
              ]

              -- or waits on
              pub is-waiting : (n ≡ 0 → ⊥) → Tries plan d k 12 most_rounds count
              is-waiting z = elim ends [
                | inl p ↦ absurd (z p.0)
                | inr p ↦ same (waiting (answered 0 a) p.2) refl refl (again most_rounds p.3)
              ]

-- a refusal is what comes of the place
pub comes-refused : {plan : Plan} {d k : ℕ} (x : Result TriedPlace Refusal) (r : Refusal) → IsErrAnd x (λ e. e ≡ r) → Tries plan d k (number_of r) 0 0 → Comes plan d k x
comes-refused (Err e) r i t = rw i t
comes-refused (Ok v) r i t = absurd i

-- ---- the places, one after the other

-- what is found of those before i
pub record Found (plan : Plan) (i : ℕ) (found : List ℕ) : Type 0 where
  pub size : length found ≡ found_words
  pub each : (j : ℕ) → j < i → FoundAt plan found j

module _ {plan : Plan} {found : List ℕ} where
  pub found_none : length found ≡ found_words → Found plan 0 found
  found_none e = record { size = e; each = below_none _ }

  module _ {i : ℕ} (f : Found plan i found) where
    pub found_all : 1024 ≤ i → Finds plan found
    found_all h = record { size = f.size; each = λ j l. f.each j (omega arith) }

    -- the words of place i are stored
    module _ (h : i < 1024) (place : List ℕ) (as-many : length place ≡ length (mid_of (3 * i) (3 * i + 3 - 3 * i) found)) where
      abbrev stored : List ℕ
      stored = put_mid (3 * i) (3 * i + 3 - 3 * i) found place

      count : 3 * i + 3 - 3 * i ≡ 3
      count = omega arith

      three : length place ≡ 3
      three = as-many ∙ mid_len (3 * i) (3 * i + 3) found (omega (arith, f.size)) ∙ count

      size : length stored ≡ found_words
      size = same_len_mid (3 * i) (3 * i + 3 - 3 * i) found place as-many ∙ f.size

      before : (m : ℕ) → m < 3 * i → get_or found m 0 ≡ get_or stored m 0
      before m l = let n = f.size in let t = three in rw count (grind (arith, elements))

      here : (j : ℕ) → j < 3 → get_or place j 0 ≡ get_or stored (3 * i + j) 0
      here j l = let n = f.size in let t = three in rw count (grind (arith, elements))

      first : get_or place 0 0 ≡ get_or stored (3 * i + 0) 0 → get_or place 0 0 ≡ get_or stored (3 * i) 0
      first e = let z : 3 * i + 0 ≡ 3 * i = omega arith in rw z at e

      pub found-more : Tries plan (i / 32) (i % 32) (get_or place 0 0) (get_or place 1 0) (get_or place 2 0) → Found plan (i + 1) stored
      found-more t =
          record {
            size = size;
            each = below_more _ i (λ j l. same (f.each j l) (before (3 * j) (omega arith)) (before (3 * j + 1) (omega arith)) (before (3 * j + 2) (omega arith)))
                (same t (first (here 0 (omega arith))) (here 1 (omega arith)) (here 2 (omega arith)));
          }

module _ {plan : Plan} {found : List ℕ} {i : ℕ} (f : Found plan i found) where
  -- the words of place i are stored one by one
  module _ (h : i < 1024) {a b c : ℕ} (t : Tries plan (i / 32) (i % 32) a b c) where
    abbrev one : List ℕ
    one = set found (3 * i) a

    abbrev two : List ℕ
    two = set one (3 * i + 1) b

    abbrev stored-three : List ℕ
    stored-three = set two (3 * i + 2) c

    before-three : (m : ℕ) → m < 3 * i → get_or found m 0 ≡ get_or stored-three m 0
    before-three m l =
        sym (get_or-set_other two (3 * i + 2) m c 0 (λ e. omega arith) ∙ get_or-set_other one (3 * i + 1) m b 0 (λ e. omega arith) ∙ get_or-set_other found (3 * i) m a 0 (λ e. omega arith))

    size-one : length one ≡ found_words
    size-one = length-set found (3 * i) a ∙ f.size

    size-two : length two ≡ found_words
    size-two = length-set one (3 * i + 1) b ∙ size-one

    here-three : FoundAt plan stored-three i
    here-three =
        same t
        (sym (get_or-set_other two (3 * i + 2) (3 * i) c 0 (λ e. omega arith) ∙ get_or-set_other one (3 * i + 1) (3 * i) b 0 (λ e. omega arith) ∙ get_or-set_same found (3 * i) a 0 (omega (arith, f.size))))
        (sym (get_or-set_other two (3 * i + 2) (3 * i + 1) c 0 (λ e. omega arith) ∙ get_or-set_same one (3 * i + 1) b 0 (omega (arith, size-one))))
        (sym (get_or-set_same two (3 * i + 2) c 0 (omega (arith, size-two))))

    pub found-three : Found plan (i + 1) stored-three
    found-three =
        record {
          size = length-set two (3 * i + 2) c ∙ size-two;
          each = below_more _ i (λ j l. same (f.each j l) (before-three (3 * j) (omega arith)) (before-three (3 * j + 1) (omega arith)) (before-three (3 * j + 2) (omega arith))) here-three;
        }

-- ---- the promise, at each return

module _ (plan : Plan) (state second found : List ℕ) where
  pub not-held : (Held plan → ⊥) → TriesAll plan (lent state second found) 1 (lent state second found)
  not-held h = record { answers = inl (h, refl); made = λ z. absurd (omega (arith, z)); kept = λ _. refl }

  module _ (held : Held plan) where
    pub misfits : (Fits (length state) (length second) (length found) → ⊥) → TriesAll plan (lent state second found) 3 (lent state second found)
    misfits m = record { answers = inr (held, inl (m, refl)); made = λ z. absurd (omega (arith, z)); kept = λ _. refl }

    pub finds : {s u f : List ℕ} → Fits (length state) (length second) (length found) → Finds plan f
        → s ≡ table words (λ i. 0) → u ≡ table words (λ i. 0) → TriesAll plan (lent state second found) 0 (lent s u f)
    finds fits x p q =
        record { answers = inr (held, inr (fits, refl)); made = λ _. (x, p, q); kept = λ z. absurd (z refl) }

-- Words told into an area, and how steps of the code follow steps of the rules.
use mathlib.Core.Path.{◌≡◌, refl, sym, ap, ap₂, subst, ◌∙◌}
use mathlib.Core.List.{List, [], ◌∷◌, ◌++◌, append-nil, append_assoc}
use mathlib.Core.Logic.{dite}
use Prim.Native.Nat.{ℕ, suc, ◌+◌, ◌≤◌, ◌<◌}
use native.Mathlib.Decide.{dec_lt}
use native.Mathlib.Numerals.{add-one}
use native.Mathlib.Omega.{arith}
use lib.ListN.{length, take, drop, set, length-append, length-take, drop_of_length-le}
use lib.Seq.{take_all, take-append-le, drop-cons, set-append_seam, set_out}
use Rattle.lists.specs.Loop.{up_to}
use Rattle.lists.proofs.Loops.{up_to-step, up_to-same, up_to-add, up_to-still}
use Rattle.state.specs.State.{State}
use Rattle.codes.specs.declared.Code.{Code}
use Rattle.codes.specs.declared.Code.TheVariants.{Time, Interrupt, Acknowledge, Reserved}
use Rattle.bench.specs.Round.{World, tells}
use Rattle.bench.specs.Inner.Shown.{shown, Notes, Seen, seen, Shows, Follows, Leads}
use Rattle.bench.specs.declared.rounds.Told.{Told}

-- ---- the area

pub shown-none : (before : List ℕ) → shown before [] ≡ before
unfolding shown
shown-none before = ap (λ (l : List ℕ). l ++ before) (take_all (length before) [] (omega arith))

-- one word more, with room or without
pub shown-more : (before words : List ℕ) (v : ℕ) → shown before (words ++ (v ∷ [])) ≡ set (shown before words) (length words) v
unfolding shown
shown-more before words v = dite (dec_lt (length words) (length before)) room none
  where
    long : length (words ++ (v ∷ [])) ≡ suc (length words)
    long = length-append words (v ∷ []) ∙ add-one (length words)

    room : length words < length before → shown before (words ++ (v ∷ [])) ≡ set (shown before words) (length words) v
    room h =
        let front : take (length before) words ≡ words = take_all (length before) words (omega arith) in
        let all : take (length before) (words ++ (v ∷ [])) ≡ words ++ (v ∷ []) = take_all (length before) (words ++ (v ∷ [])) (omega (arith, long)) in
        rw (all, front, long, drop-cons before (length words) 0 h)
        (append_assoc words (v ∷ []) (drop (suc (length words)) before) ∙ sym (set-append_seam words _ _ v))

    none : (length words < length before → ⊥) → shown before (words ++ (v ∷ [])) ≡ set (shown before words) (length words) v
    none h =
        let late : length before ≤ length words = omega arith in
        let end : drop (length (words ++ (v ∷ []))) before ≡ [] = drop_of_length-le before {i = length (words ++ (v ∷ []))} (omega (arith, long)) in
        let stop : drop (length words) before ≡ [] = drop_of_length-le before {i = length words} late in
        rw (take-append-le (length before) words (v ∷ []) late, end, stop)
        (sym (set_out _ (length words) v (simp (length-append, length-take) (omega arith))))

pub note-one : {v : ℕ} {told after : Told} → after.area.now ≡ set told.area.now told.count v → after.count ≡ told.count + 1
    → after.area.ghost_name ≡ told.area.ghost_name → Notes (v ∷ []) told after
note-one {v} p q same =
    record {
      notes = λ before l e n. (
        p ∙ ap₂ (λ (l : List ℕ) (k : ℕ). set l k v) e n ∙ sym (shown-more before l v),
        q ∙ ap (λ (k : ℕ). k + 1) n ∙ sym (length-append l (v ∷ [])),
      );
      more = q;
      same = same;
    }

pub note-none : {told : Told} → Notes [] told told
note-none =
    record {
      notes = λ before l e n. (e ∙ ap (shown before) (sym (append-nil l)), n ∙ ap length (sym (append-nil l)));
      more = omega arith;
      same = refl;
    }

-- a host is told one word of a code, or none
pub tells-few : (d : ℕ) (code : Code) → length (tells d code) ≤ 1
unfolding tells
tells-few d (Interrupt k) = omega arith
tells-few d (Acknowledge k) = omega arith
tells-few d (Time v) = omega arith
tells-few d (Reserved top low) = omega arith

-- ---- following a rule

abbrev pub world : State → List ℕ → World
world state told = record { state = state; told = told }

-- the rule is another one from another state on
from-there : {f g : World → World} {s t : State} {a : List ℕ} {n : ℕ} {y : Seen} → ((l : List ℕ) → f (world s l) ≡ g (world t l)) → Follows g (seen t a n) y
    → Follows f (seen s a n) y
from-there {f} {g} {s} {t} {y = y} h p =
    record {
      follows = λ before w v.
          let e : f w ≡ g (world t w.told) = ap (λ (z : State). f (world z w.told)) (sym v.state) ∙ h w.told in
          subst (λ (x : World). Shows before x y) (sym e) (p.follows before (world t w.told) (record { state = refl; area = v.area; count = v.count }));
    }

module _ {f : World → World} {s t : State} {told : Told} {n : ℕ} where
  pub leads : {g : World → World} {u : State} {after : Told} → ((l : List ℕ) → f (world s l) ≡ g (world t l)) → Leads g n t told u after → Leads f n s told u after
  leads h p = record { follows = from-there h p.follows; more = p.more; same = p.same }

  -- nothing is told
  pub silent : ((l : List ℕ) → f (world s l) ≡ world t l) → Leads f n s told t told
  silent h = leads {g = λ w. w} h (record { follows = record { follows = λ before w v. v }; more = omega arith; same = refl })

  -- words are told
  pub noted : {words : List ℕ} {after : Told} → ((l : List ℕ) → f (world s l) ≡ world t (l ++ words)) → length words ≤ n → Notes words told after
      → Leads f n s told t after
  noted {words} h few p =
      leads {g = λ w. world w.state (w.told ++ words)} h
      (record {
        follows = record {
          follows = λ before w v.
              let q = p.notes before w.told v.area v.count in
              record { state = v.state; area = q.0; count = q.1 };
        };
        more = omega (arith, p.more);
        same = p.same;
      })

-- ---- turns of a loop

module _ (f : ℕ → World → World) {s : State} {told : Told} where
  pub turns-none : Leads (up_to f 0) 0 s told s told
  unfolding up_to
  turns-none = record { follows = record { follows = λ before w v. v }; more = omega arith; same = refl }

  module _ (i : ℕ) {n : ℕ} {t : State} {now : Told} (p : Leads (up_to f i) n s told t now) where
    pub turns-more : {m k : ℕ} {u : State} {after : Told} → Leads (f i) m t now u after → n + m ≤ k → Leads (up_to f (i + 1)) k s told u after
    turns-more q l =
        record {
          follows = record { follows = λ before w v. rw up_to-step (q.follows.follows before (up_to f i w) (p.follows.follows before w v)) };
          more = omega (arith, p.more, q.more);
          same = q.same ∙ p.same;
        }

    -- the loop is left
    pub turns-done : {m k : ℕ} → i ≡ m → n ≤ k → Leads (up_to f m) k s told t now
    turns-done e l =
        record {
          follows = subst (λ (j : ℕ). Follows (up_to f j) (seen s told.area.now told.count) (seen t now.area.now now.count)) e p.follows;
          more = omega (arith, p.more);
          same = p.same;
        }

    -- turns that change nothing, as it is known of the state from which all began
    pub turns-still : {m : ℕ} → i ≤ m → ((w : World) → w.state ≡ s → (j : ℕ) → i ≤ j → j < m → f j (up_to f i w) ≡ up_to f i w) → Leads (up_to f m) n s told t now
    turns-still {m} l h =
        record {
          follows = record {
            follows = λ before w v.
                subst (λ (u : World). Shows before u (seen t now.area.now now.count)) (sym (up_to-still f i m l w (h w (sym v.state)))) (p.follows.follows before w v);
          };
          more = p.more;
          same = p.same;
        }

    -- b turns more, which go by another name
    pub turns-block : (g : ℕ → World → World) (b : ℕ) {m k : ℕ} {u : State} {after : Told} → Leads (up_to g b) m t now u after
        → ((j : ℕ) (w : World) → j < b → f (i + j) w ≡ g j w) → n + m ≤ k → Leads (up_to f (i + b)) k s told u after
    turns-block g b {u = u} {after} q h l =
        record {
          follows = record {
            follows = λ before w v.
                let e : up_to f (i + b) w ≡ up_to g b (up_to f i w) = up_to-add f i b w ∙ up_to-same (λ j. f (i + j)) g b h (up_to f i w) in
                subst (λ (x : World). Shows before x (seen u after.area.now after.count)) (sym e) (q.follows.follows before (up_to f i w) (p.follows.follows before w v));
          };
          more = omega (arith, p.more, q.more);
          same = q.same ∙ p.same;
        }

-- no word was told yet
pub shows-none : (s : State) (a : List ℕ) {n : ℕ} → n ≡ 0 → Shows a (world s []) (seen s a n)
shows-none s a e = record { state = refl; area = sym (shown-none a); count = e }

-- Where an identifier waits nowhere, and nobody calls for it, nothing of it is sent and none of it begins to wait; where it is unset besides, it
-- stays so, and no host is told anything of it.
use mathlib.Core.Path.{◌≡◌, refl, sym, ◌∙◌}
use mathlib.Core.Bool.{false}
use mathlib.Core.List.{Memᴰ}
use Prim.Native.Nat.{ℕ, suc, ◌+◌, ◌*◌, ◌≤◌, ◌<◌}
use native.Mathlib.Decide.{le_ind}
use native.Mathlib.Nat.{le_refl}
use native.Mathlib.Omega.{arith}
use Rattle.lists.proofs.Loops.{keeps}
use Rattle.bits.specs.Set.{bit}
use Rattle.bits.proofs.Sets.{bit-two}
use Rattle.plan.specs.Reading.{Held}
use Rattle.plan.specs.declared.Plan.{Plan}
use Rattle.state.specs.State.{State, register, waiting, running}
use Rattle.state.specs.Network.{devices, router, peer}
use Rattle.state.specs.Sound.{Sound}
use Rattle.state.proofs.Plans.{few}
use Rattle.bench.specs.Round.{of_interrupt, told_word, sent_bytes, arrives, reached, after_sending, round}
use Rattle.bench.proofs.RoundSound.{round-sound}
use Rattle.laws.specs.Alike.{SendsIt}
use Rattle.laws.proofs.Apart.{Both, arrives-aside, alike_same}
use Rattle.laws.proofs.Telling.{none_told, told-some}
use Rattle.assurance.specs.Demand3.{Calls, Course, SendsK}
use Rattle.assurance.specs.Return.{Told}
use Rattle.assurance.specs.Cycle.{AtRest}
use Rattle.assurance.proofs.Choices.{sends-small, sends-inside, sent-waits}
use Rattle.assurance.proofs.Posted.{posts-sound, posts-runs, posts-marks, posts-waited}
use Rattle.assurance.proofs.Meanwhile.{Beside, calls-beside, course-begins, course-goes-on}
use Rattle.assurance.proofs.Hearing.{adds-up, none-sent}

-- k waits nowhere
abbrev pub Idle : ℕ → State → Type 0
Idle k s = (kind q : ℕ) → kind < 2 → q < 256 → bit (waiting s kind q) k ≡ 0

-- where no port sends it, nothing that arrives concerns it
pub unsent-aside : (plan : Plan) → Held plan → (k : ℕ) → k < 32 → {s : State} → Sound plan s → ((q : ℕ) → SendsK plan k s q → ⊥)
    → Both k (round plan s).next (after_sending plan s).state
unfolding round reached
unsent-aside plan held k l {s} x none =
    let n = few plan held in
    let posts = (after_sending plan s).state in
    let size = (posts-sound plan held x).size in
    keeps (arrives plan (sent_bytes plan s)) (λ v. Both k v.state posts) (8 * devices plan)
    (λ j v b p. arrives-aside l plan j (omega arith) (sent_bytes plan s) v p (λ kind g e. none (peer plan j) (kind, g, e)))
    (after_sending plan s) (record { like = alike_same k posts; left = size; right = size })

module _ (plan : Plan) (held : Held plan) (k : ℕ) (l : k < 32) {s : State} (x : Sound plan s) (idle : Idle k s) where
  -- no port sends it
  pub none-sends : (q : ℕ) → SendsK plan k s q → ⊥
  none-sends q y =
      let i = sends-inside plan k y.0 s q l y.1 y.2 in
      omega (arith, sent-waits plan held k l s q i y.0 y.1 y.2, idle y.0 q y.1 (sends-small plan k y.0 s q l y.1 y.2))

  -- no host is told of it
  pub unheard : (d : ℕ) → d < devices plan → (kind : ℕ) → kind < 2 → Memᴰ (told_word (of_interrupt + kind) d k) (round plan s).told → ⊥
  unheard d h kind g m =
      omega (arith, told-some plan (of_interrupt + kind) d k s m, none_told plan held s x d k h l kind g (λ q e. none-sends q (kind, g, e)))

  arrivals-aside : Both k (round plan s).next (after_sending plan s).state
  arrivals-aside = unsent-aside plan held k l x none-sends

  module _ {t : State} (after : Beside plan k (round plan s).next t) where
    pub idle-on : Idle k t
    idle-on kind q g h =
        let same = sym (after.like.waits kind q g h) ∙ arrivals-aside.like.waits kind q g h in
        let none : bit (waiting t kind q) k ≡ 1 → ⊥ = λ b. omega (arith, posts-waited plan held x k l kind q g h (sym same ∙ b), idle kind q g h) in
        omega (arith, bit-two (waiting t kind q) k)

    pub unset-on : (d : ℕ) → d < devices plan → bit (register s d) k ≡ 0 → bit (register t d) k ≡ 0
    unset-on d h off =
        let n = few plan held in
        sym (after.like.marks d (omega arith)) ∙ arrivals-aside.like.marks d (omega arith) ∙ posts-marks plan held x k l d h (λ b. absurd (omega arith)) ∙ off

    pub links-on : (q : ℕ) → q < 256 → running t q ≡ running s q
    links-on q h = sym (after.like.runs q h) ∙ arrivals-aside.like.runs q h ∙ posts-runs plan held x q h

-- from a round on in which it waits nowhere, as long as nobody calls for it
module _ (plan : Plan) (held : Held plan) (k : ℕ) (l : k < 32) (at : ℕ → State) (last : ℕ) (sound : (t : ℕ) → t ≤ last → Sound plan (at t))
    (later : (t : ℕ) → t < last → Beside plan k (round plan (at t)).next (at (suc t))) (from : ℕ) (idle : Idle k (at from)) where
  pub idle-lasts : (t : ℕ) → from ≤ t → t ≤ last → Idle k (at t)
  idle-lasts =
      le_ind (λ t. t ≤ last → Idle k (at t)) (λ b. idle)
      (λ t since before b. idle-on plan held k l (sound t (omega arith)) (before (omega arith)) (later t b))

-- ---- k is at rest, for some rounds in which nobody calls for it

-- it is at rest in t, where the links run as in s
pub record Rests (plan : Plan) (k : ℕ) (s t : State) : Type 0 where
  pub at_rest : AtRest plan k t
  pub links : (q : ℕ) → q < 256 → running t q ≡ running s q

module _ (plan : Plan) (held : Held plan) (k : ℕ) (l : k < 32) where
  rest-on : {r s t : State} → Rests plan k r s → Calls plan k (round plan s).next t → Rests plan k r t
  rest-on {s = s} x calls =
      let y = x.at_rest in
      let after = calls-beside plan held k l (round-sound plan held s y.sound) calls in
      record {
        at_rest = record {
          sound = after.sound;
          unset = λ d h. unset-on plan held k l y.sound y.idle after d h (y.unset d h);
          idle = idle-on plan held k l y.sound y.idle after;
        };
        links = λ q h. links-on plan held k l y.sound y.idle after q h ∙ x.links q h;
      }

  pub rest-lasts : (at : ℕ → State) (from last : ℕ) → AtRest plan k (at from)
      → ((t : ℕ) → from ≤ t → t < last → Calls plan k (round plan (at t)).next (at (suc t))) → (t : ℕ) → from ≤ t → t ≤ last → Rests plan k (at from) (at t)
  rest-lasts at from last r on =
      le_ind (λ t. t ≤ last → Rests plan k (at from) (at t)) (λ b. record { at_rest = r; links = λ q h. refl }) (λ t since before b. rest-on (before (omega arith)) (on t since b))

module _ (plan : Plan) (held : Held plan) (k : ℕ) (l : k < 32) {rounds : ℕ} {s : State} {at : ℕ → State} (r : AtRest plan k s) (course : Course plan k rounds s at) where
  later : (t : ℕ) → t < rounds → Beside plan k (round plan (at t)).next (at (suc t))
  later = course-goes-on plan held k l rounds s at r.sound course

  first : AtRest plan k (at 0)
  first =
      let n = few plan held in
      let calls = course-begins plan held k l rounds s at r.sound course in
      record {
        sound = calls.sound;
        unset = λ d h. sym (calls.like.marks d (omega arith)) ∙ r.unset d h;
        idle = λ kind q g h. sym (calls.like.waits kind q g h) ∙ r.idle kind q g h;
      }

  pub rests : (t : ℕ) → t ≤ rounds → AtRest plan k (at t)
  rests t b = (rest-lasts plan held k l at 0 rounds first (λ u since c. course.goes_on u c) t (omega arith) b).at_rest

  pub rests-untold : (e : ℕ) → e < devices plan → router plan e ≡ false → Told plan k e rounds at 0 0 0
  rests-untold e h node =
      let sounds : (t : ℕ) → t ≤ rounds → Sound plan (at t) = λ t b. (rests t b).sound in
      let none : (kind : ℕ) → kind < 2 → (q t : ℕ) → t < rounds → SendsIt plan k (at t) kind q → ⊥ =
      λ kind g q t b y. none-sends plan held k l (rests t (omega arith)).sound (rests t (omega arith)).idle q (kind, g, y) in
      let interrupts = none-sent plan held k l at rounds sounds e h 0 (omega arith) (none 0 (omega arith)) rounds (le_refl _) in
      let acknowledges = none-sent plan held k l at rounds sounds e h 1 (omega arith) (none 1 (omega arith)) rounds (le_refl _) in
      record {
        of-interrupts = interrupts;
        of-acknowledges = acknowledges;
        of-timeouts = omega (arith, adds-up plan held k l at rounds sounds e h later node rounds (le_refl _), first.unset e h);
      }

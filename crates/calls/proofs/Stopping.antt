-- What a link leaves as it was, and what a stop changes.
use mathlib.Core.Path.{◌≡◌, refl, ◌∙◌}
use mathlib.Core.Bool.{Bool, true, false}
use mathlib.Core.Logic.{◌≢◌}
use Prim.Native.Nat.{ℕ, ◌+◌, ◌*◌, ◌<◌}
use native.Mathlib.Decide.{ℕ_discrete}
use native.Mathlib.Omega.{arith}
use lib.ListN.{length}
use Rattle.answers.proofs.Outcomes.{Holds, holds}
use Rattle.plan.specs.declared.Plan.{Plan}
use Rattle.state.specs.State.{State, words, word, put, register_at, timer_at, port_at, waiting, next_at, running_at, counter_at, time_at, time, drops_at}
use Rattle.state.specs.Network.{peer}
use Rattle.state.proofs.Words.{length-put, word_same, word-other}
use Rattle.state.proofs.Plans.{FarEnd, port-there, far-end}
use Rattle.state.proofs.Keeping.{both-kinds}
use Rattle.calls.specs.Calls.{drained, flagged, link_asks, switched}
use Rattle.calls.specs.Stopping.{Keeps, Stopped, LinkKeeps, LinkStops}

-- ---- a port's two sets and its word of Time-Codes become 0

module _ (s : State) (q : ℕ) where
  abbrev first : State
  first = put s (port_at q 0) 0

  abbrev second : State
  second = put first (port_at q 1) 0

  drained-other : (i : ℕ) → i ≢ port_at q 0 → i ≢ port_at q 1 → i ≢ time_at q → word (drained q s) i ≡ word s i
  drained-other i a b c = word-other second (time_at q) 0 i c ∙ word-other first (port_at q 1) 0 i b ∙ word-other s (port_at q 0) 0 i a

  first-size : length first ≡ length s
  first-size = length-put s (port_at q 0) 0

  second-size : length second ≡ length s
  second-size = length-put first (port_at q 1) 0 ∙ first-size

  drained-size : length (drained q s) ≡ length s
  drained-size = length-put second (time_at q) 0 ∙ second-size

  module _ (long : length s ≡ words) (h : q < 256) where
    drained-there : (kind : ℕ) → kind < 2 → waiting (drained q s) kind q ≡ 0
    drained-there =
        both-kinds (λ kind. waiting (drained q s) kind q ≡ 0)
        (word-other second (time_at q) 0 (port_at q 0) (omega arith) ∙ word-other first (port_at q 1) 0 (port_at q 0) (omega arith) ∙ word_same s (port_at q 0) 0 (omega arith))
        (word-other second (time_at q) 0 (port_at q 1) (omega arith) ∙ word_same first (port_at q 1) 0 (omega (arith, first-size)))

    drained-time : time (drained q s) q ≡ 0
    drained-time = word_same second (time_at q) 0 (omega (arith, second-size))

-- those of two ports
module _ (s : State) (q far : ℕ) (long : length s ≡ words) (near-small : q < 256) (far-small : far < 256) (ne : far ≢ q) where
  pub both-drained : (kind : ℕ) → kind < 2 → (waiting (drained far (drained q s)) kind q ≡ 0) × (waiting (drained far (drained q s)) kind far ≡ 0)
  both-drained kind g = (
    drained-other (drained q s) far (port_at q kind) (omega arith) (omega arith) (omega arith) ∙ drained-there s q long near-small kind g,
    drained-there (drained q s) far (drained-size s q ∙ long) far-small kind g,
  )

  pub both-timeless : (time (drained far (drained q s)) q ≡ 0) × (time (drained far (drained q s)) far ≡ 0)
  both-timeless = (
    drained-other (drained q s) far (time_at q) (omega arith) (omega arith) (omega arith) ∙ drained-time s q long near-small,
    drained-time (drained q s) far (drained-size s q ∙ long) far-small,
  )

-- ---- a link is switched

-- word i is no flag, no waiting set and no Time-Code of port p
abbrev Elsewhere : ℕ → ℕ → Type 0
Elsewhere i p = (i ≢ port_at p 0) × (i ≢ port_at p 1) × (i ≢ port_at p running_at) × (i ≢ time_at p)

flagged-other : (flag q far : ℕ) (s : State) (i : ℕ) → i ≢ port_at q running_at → i ≢ port_at far running_at → word (flagged flag q far s) i ≡ word s i
flagged-other flag q far s i a b = word-other (put s (port_at q running_at) flag) (port_at far running_at) flag i b ∙ word-other s (port_at q running_at) flag i a

module _ (plan : Plan) (q : ℕ) (s : State) where
  abbrev far : ℕ
  far = peer plan q

  switched_other : (runs : Bool) (i : ℕ) → Elsewhere i q → Elsewhere i far → word (switched plan runs q s) i ≡ word s i
  unfolding switched
  switched_other true i a b = flagged-other 1 q far s i a.2 b.2
  switched_other false i a b =
      flagged-other 0 q far _ i a.2 b.2 ∙ drained-other (drained q s) far i b.0 b.1 b.3 ∙ drained-other s q i a.0 a.1 a.3

  pub switched-keeps : q < 256 → far < 256 → (runs : Bool) → Keeps plan q s (switched plan runs q s)
  switched-keeps a b runs =
      record {
        registers = λ d h. switched_other runs (register_at d) (omega arith, omega arith, omega arith, omega arith) (omega arith, omega arith, omega arith, omega arith);
        timers = λ d k h l. switched_other runs (timer_at d k) (omega arith, omega arith, omega arith, omega arith) (omega arith, omega arith, omega arith, omega arith);
        counters = λ d h. switched_other runs (counter_at d) (omega arith, omega arith, omega arith, omega arith) (omega arith, omega arith, omega arith, omega arith);
        nexts = λ p h. switched_other runs (port_at p next_at) (omega arith, omega arith, omega arith, omega arith) (omega arith, omega arith, omega arith, omega arith);
        others = λ p i h l m n. switched_other runs (port_at p i) (omega arith, omega arith, omega arith, omega arith) (omega arith, omega arith, omega arith, omega arith);
        times = λ p h m n. switched_other runs (time_at p) (omega arith, omega arith, omega arith, omega arith) (omega arith, omega arith, omega arith, omega arith);
        counts = λ p kind h l. switched_other runs (drops_at p kind) (omega arith, omega arith, omega arith, omega arith) (omega arith, omega arith, omega arith, omega arith);
      }

  switched-stops : length s ≡ words → q < 256 → far < 256 → far ≢ q → Stopped plan q (switched plan false q s)
  unfolding switched
  switched-stops long h l ne =
      let t = drained far (drained q s) in
      let size : length t ≡ words = drained-size (drained q s) far ∙ drained-size s q ∙ long in
      let at : (kind p : ℕ) → kind < 2 → waiting (flagged 0 q far t) kind p ≡ waiting t kind p =
      λ kind p g. flagged-other 0 q far t (port_at p kind) (omega arith) (omega arith) in
      record {
        flags = (
          word-other (put t (port_at q running_at) 0) (port_at far running_at) 0 (port_at q running_at) (omega arith) ∙ word_same t (port_at q running_at) 0 (omega arith),
          word_same (put t (port_at q running_at) 0) (port_at far running_at) 0 (omega (arith, length-put t (port_at q running_at) 0)),
        );
        sets = λ kind g. let none = both-drained s q far long h l ne kind g in (at kind q g ∙ none.0, at kind far g ∙ none.1);
        times = (
          flagged-other 0 q far t (time_at q) (omega arith) (omega arith) ∙ (both-timeless s q far long h l ne).0,
          flagged-other 0 q far t (time_at far) (omega arith) (omega arith) ∙ (both-timeless s q far long h l ne).1,
        );
      }

-- ---- the call

-- what the tests of a link say of its two ends
ends-small : (plan : Plan) (runs : Bool) (d p : ℕ) (s : State) → Holds (link_asks plan runs d p s) → (8 * d + p < 256) × (peer plan (8 * d + p) < 256)
ends-small plan runs d p s (held, (sound, (there, (has, (joined, rest))))) = ((port-there plan held d p there has).0, joined)

pub link-keeps : LinkKeeps
unfolding LinkKeeps
link-keeps plan d p runs before number after call =
    elim (ℕ_discrete number 0) [
      | yes z ↦
          let ends = ends-small plan runs d p before (holds (link_asks plan runs d p before) refl call.answers z) in
          rw (call.made z) (switched-keeps plan (8 * d + p) before ends.0 ends.1 runs)
      | no n ↦ rw (call.kept n) (record {
        registers = λ e h. refl;
        timers = λ e k h l. refl;
        counters = λ e h. refl;
        nexts = λ q h. refl;
        others = λ q i h l a b. refl;
        times = λ q h a b. refl;
        counts = λ q kind h l. refl;
      })
    ]

pub link-stops : LinkStops
unfolding LinkStops
link-stops plan d p before after call = known (holds (link_asks plan false d p before) refl call.answers refl)
  where
    known : Holds (link_asks plan false d p before) → Stopped plan (8 * d + p) after
    known (held, (sound, (there, (has, (joined, rest))))) =
        let port = port-there plan held d p there has in
        let end : FarEnd plan (8 * d + p) = far-end plan held (8 * d + p) port.0 port.1 joined in
        rw (call.made refl) (switched-stops plan (8 * d + p) before sound.size port.0 joined end.other)

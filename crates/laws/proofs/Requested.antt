-- A source that has requested k holds it, whatever links do, until it takes the acknowledge or its timer ends.
use mathlib.Core.Path.{◌≡◌, refl}
use mathlib.Core.Bool.{false}
use mathlib.Core.Logic.{◌⊎◌, inl, inr}
use Prim.Native.Nat.{ℕ, zero, suc, ◌+◌, ◌-◌, ◌≤◌, ◌<◌}
use native.Mathlib.Decide.{ℕ_discrete}
use native.Mathlib.Omega.{arith}
use Rattle.answers.proofs.Outcomes.{Holds, holds}
use Rattle.bits.specs.Set.{bit}
use Rattle.plan.specs.Reading.{Held}
use Rattle.plan.specs.declared.Plan.{Plan}
use Rattle.state.specs.State.{State, timer}
use Rattle.state.specs.Network.{devices, router, source, load_of}
use Rattle.state.specs.Sound.{Sound}
use Rattle.state.proofs.Plans.{few, masked, load_fits}
use Rattle.calls.specs.Calls.{call_asks}
use Rattle.calls.proofs.Called.{call-sound}
use Rattle.bench.specs.Round.{of_interrupt, of_acknowledge, of_timeout, round}
use Rattle.bench.proofs.RoundSound.{round-sound}
use Rattle.laws.specs.Telling.{told_in}
use Rattle.laws.specs.Timing.{NoneAccepted}
use Rattle.laws.specs.Requested.{Requested, StillHolds, Acknowledged, TimedOut, Hears, HoldsOn, IsHeard}
use Rattle.laws.proofs.Timers.{timed-bit, runs_on, round-falls, request-loads, timeout-told}
use Rattle.laws.proofs.Staying.{calls-stay}
use Rattle.laws.proofs.Telling.{by-none, told-some, some-told, no-timeout, accepted-told, told-accepted, untold}

-- what is so of an interrupt, an acknowledge and a timeout
three : (P : ℕ → Type 0) → P of_interrupt → P of_acknowledge → P of_timeout → (kind : ℕ) → of_interrupt ≤ kind → kind ≤ of_timeout → P kind
three P a b c zero low high = absurd (omega arith)
three P a b c (suc zero) low high = a
three P a b c (suc (suc zero)) low high = b
three P a b c (suc (suc (suc zero))) low high = c
three P a b c (suc (suc (suc (suc n)))) low high = absurd (omega arith)

module _ (plan : Plan) (held : Held plan) (d k : ℕ) (h : d < devices plan) (l : k < 32) (requests : bit (source plan d) k ≡ 1) where
  small : d < 32
  small = omega (arith, few plan held)

  -- its host does not acknowledge what it requests
  no_answer : (s : State) → Holds (call_asks plan 1 d k s) → ⊥
  no_answer s (_, (_, (_, (_, (own, _))))) = omega (arith, (masked plan held d k h (omega arith)).1)

  -- ---- rounds run its timer down

  module _ (rounds : ℕ) (s : State) (at : ℕ → State) (given : Requested plan d k rounds s at) where
    abbrev load : ℕ
    load = load_of plan d k

    going : (t : ℕ) → t ≤ rounds → t < load → ((i : ℕ) → i < t → NoneAccepted plan (at i) d 1 k) → Sound plan (at t) × StillHolds plan d k at t
    unfolding round
    going zero b c quiet =
        let x = call-sound plan held s given.sound 0 d k (omega arith) h l in
        let loads = request-loads plan held s given.sound d k h l in
        let y = calls-stay plan held d k h l no_answer x ((timed-bit (x.timers d k h small l)).1 (omega arith)) given.begins in
        (y.sound, record { holds = y.holds; timed = omega (arith, y.timed) })
    going (suc t) b c quiet =
        let y = going t (omega arith) (omega arith) (λ i m. quiet i (omega arith)) in
        let stands = y.1.timed in
        let stood = timer (at t) d k in
        let fell = round-falls plan held (at t) y.0 d k h l (stood - 1) (omega arith) (runs_on plan held (at t) y.0 d k h l (omega arith) (quiet t (omega arith))) in
        let z = calls-stay plan held d k h l no_answer (round-sound plan held (at t) y.0) (fell.runs (omega arith)) (given.goes_on t (omega arith)) in
        (z.sound, record { holds = z.holds; timed = omega (arith, z.timed, fell.now) })

  -- ---- so its host hears

  module _ (s : State) (at : ℕ → State) (given : Requested plan d k (load_of plan d k) s at) where
    node : router plan d ≡ false
    node = rw (masked plan held d k h (omega arith)).0

    -- no acknowledge of k in the first n rounds
    abbrev Quiet : ℕ → Type 0
    Quiet n = (t : ℕ) → t < n → NoneAccepted plan (at t) d 1 k

    still : (n t : ℕ) → n < load_of plan d k → Quiet n → t ≤ n → Sound plan (at t) × StillHolds plan d k at t
    still n t b quiet c = going (load_of plan d k) s at given t (omega arith) (omega arith) (λ i m. quiet i (omega arith))

    -- a round before its last one tells nothing
    hushed : (n t : ℕ) → n < load_of plan d k → Quiet n → t < n → (kind : ℕ) → of_interrupt ≤ kind → kind ≤ of_timeout → told_in plan kind d k (at t) ≡ 0
    hushed n t b quiet c kind low high =
        let y = still n t b quiet (omega arith) in
        let stands = y.1.timed in
        let none = runs_on plan held (at t) y.0 d k h l (omega arith) (quiet t c) in
        let codes : (c : ℕ) → c < 2 → NoneAccepted plan (at t) d c k → told_in plan (of_interrupt + c) d k (at t) ≡ 0 = untold plan held (at t) y.0 d k h l in
        three (λ i. told_in plan i d k (at t) ≡ 0) (codes 0 (omega arith) none.0) (codes 1 (omega arith) none.1)
        (no-timeout plan held (at t) y.0 d k h l (omega arith)) kind low high

    heard : (n : ℕ) → n < load_of plan d k → Quiet n → Acknowledged plan d k at n ⊎ TimedOut plan d k at n → Hears plan d k at n
    heard n b quiet then =
        record {
          until = λ t c. (still n t b quiet c).1;
          silent = λ kind low high. by-none plan kind d k at n (λ t c. hushed n t b quiet c kind low high) n (omega arith);
          then = then;
        }

    -- after n rounds in which it accepted none, so many are left before the last
    search-on : (left n : ℕ) → suc (n + left) ≡ load_of plan d k → Quiet n → (m : ℕ) × Hears plan d k at m
    search-on zero n e quiet =
        let y = still n n (omega arith) quiet (omega arith) in
        let stands = y.1.timed in
        (n, heard n (omega arith) quiet (inr (record { last = omega arith; told = timeout-told plan held (at n) y.0 d k h l node (omega arith) })))
    search-on (suc left) n e quiet =
        let y = still n n (omega arith) quiet (omega arith) in
        elim (ℕ_discrete (told_in plan of_acknowledge d k (at n)) 0) [
          | no ne ↦
              let word = some-told plan of_acknowledge d k (at n) (omega arith) in
              let accepted = told-accepted plan held (at n) y.0 d k h l 1 (omega arith) word in
              (n, heard n (omega arith) quiet (inl (record { before = omega arith; accepted = accepted; told = word })))
          | yes z ↦
              let none : NoneAccepted plan (at n) d 1 k =
              λ p c a. omega (arith, told-some plan of_acknowledge d k (at n) (accepted-told plan held (at n) y.0 d k h l 1 (omega arith) node p c a)) in
              search-on left (suc n) (omega arith) (λ t c. elim (ℕ_discrete t n) [ yes is ↦ rw is none | no ne ↦ quiet t (omega arith) ])
        ]

-- ---- what a source is assured of

pub holds_on : HoldsOn
unfolding HoldsOn
holds_on plan d k rounds s at given few-rounds quiet = known (holds (call_asks plan 0 d k s) refl given.taken refl)
  where
    known : Holds (call_asks plan 0 d k s) → StillHolds plan d k at rounds
    known (held, (_, (there, (place, (own, _))))) = (going plan held d k there place own rounds s at given rounds (omega arith) few-rounds quiet).1

pub is-heard : IsHeard
unfolding IsHeard
is-heard plan d k s at given = known (holds (call_asks plan 0 d k s) refl given.taken refl)
  where
    known : Holds (call_asks plan 0 d k s) → (n : ℕ) × Hears plan d k at n
    known (held, (_, (there, (place, (own, _))))) =
        let load = load_fits plan held d k there in
        search-on plan held d k there place own s at given (load_of plan d k - 1) 0 (omega arith) (λ t c. absurd (omega arith))

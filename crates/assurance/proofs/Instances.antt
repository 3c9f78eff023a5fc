-- What worked instances need, over any plan: when a plan is held, what rests at the start, how far is farthest, and rounds with no call between them, or with a tick before each.
use mathlib.Core.Path.{◌≡◌, refl, ap, ◌∙◌}
use mathlib.Core.Bool.{Bool, true, ◌&&◌}
use mathlib.Core.List.{List, []}
use mathlib.Core.Logic.{dite}
use Prim.Native.Nat.{ℕ, suc, ◌+◌, ◌*◌, ◌≤◌, ◌<◌}
use native.Mathlib.Decide.{dec_lt}
use native.Mathlib.Nat.{le_trans}
use native.Mathlib.Omega.{arith}
use lib.Dec.{eqb, ltb}
use lib.ListN.{length, get_or, replicate, get_or-replicate, get_or-eq_default}
use Rattle.lists.specs.Loop.{up_to}
use Rattle.lists.specs.Table.{every}
use Rattle.lists.proofs.Facts.{facts}
use Rattle.lists.proofs.Loops.{keeps}
use Rattle.answers.proofs.Outcomes.{passed, outcome-done}
use Rattle.bits.specs.Set.{bit}
use Rattle.bits.proofs.Sets.{bit-zero}
use Rattle.device.specs.Permissions.{may_send, may_receive}
use Rattle.plan.specs.Reading.{Held}
use Rattle.plan.specs.declared.Plan.{Plan}
use Rattle.plan.specs.Inner.Memory.{at, right}
use Rattle.plan.proofs.Shape.{Numbers}
use Rattle.plan.proofs.BothWays.{right-held}
use Rattle.state.specs.State.{State, register_at, port_at, running_at, running}
use Rattle.state.specs.Network.{devices, bars}
use Rattle.state.specs.Start.{started}
use Rattle.state.specs.Sound.{Sound}
use Rattle.state.proofs.Plans.{few}
use Rattle.state.proofs.Started.{start-device, start-port, started-sound}
use Rattle.state.proofs.Keeping.{both-kinds}
use Rattle.calls.specs.Calls.{tick_asks, advanced}
use Rattle.calls.proofs.Called.{tick-sound, tick-left}
use Rattle.bench.specs.Round.{round}
use Rattle.bench.proofs.RoundSound.{round-sound}
use Rattle.bench.specs.Settling.{rounds}
use Rattle.reach.specs.Walk.{Walk}
use Rattle.reach.specs.Away.{Away, Farthest}
use Rattle.reach.proofs.Distances.{walk-device}
use Rattle.assurance.specs.Demand3.{Calls, none, tick, Course}
use Rattle.assurance.specs.Ticking.{ticking}
use Rattle.assurance.specs.Cycle.{AtRest}
use Rattle.assurance.proofs.Crossings.{away-least}
use Rattle.assurance.proofs.Flags.{round-runs}

-- ---- two computed tests are true of a plan that some accepted file holds

-- so many numbers, each below a bound
abbrev pub fits : ℕ → ℕ → List ℕ → Bool
fits size bound l = eqb (length l) size && every size (λ i. ltb (at l i) bound)

module _ {l : List ℕ} {size bound : ℕ} (pos : 0 < bound) where
  numbers : (length l ≡ size) × ((i : ℕ) → i < size → at l i < bound) → Numbers l size bound
  numbers f =
      record {
        long = f.0;
        small = λ i. dite (dec_lt i size) (f.1 i) (λ h. let past : length l ≤ i = omega (arith, f.0) in omega (arith, get_or-eq_default l 0 past));
      }

-- a plan has the shape that its types give it
abbrev pub shaped : Plan → Bool
shaped plan =
    ltb plan.core.events 4294967296
    && fits 66 65536 plan.core.loads
    && fits 32 256 plan.core.role
    && fits 32 256 plan.core.ports
    && fits 32 4294967296 plan.core.source
    && fits 32 4294967296 plan.core.handler
    && fits 256 256 plan.core.permissions
    && fits 512 4294967296 plan.barred
    && eqb (length plan.peers) 32
    && every 32 (λ d. fits 8 65536 (get_or plan.peers d []))

pub tested-held : (plan : Plan) → shaped plan ≡ true → right plan ≡ true → Held plan
tested-held plan e =
    let f = simp facts at e in
    let g = f.0.0.0.0 in
    right-held plan (record {
      events = g.0.0.0.0.0;
      loads = numbers (omega arith) g.0.0.0.0.1;
      role = numbers (omega arith) g.0.0.0.1;
      ports = numbers (omega arith) g.0.0.1;
      source = numbers (omega arith) g.0.1;
      handler = numbers (omega arith) g.1;
      permissions = numbers (omega arith) f.0.0.0.1;
      barred = numbers (omega arith) f.0.0.1;
      rows = f.0.1;
      row = λ d h. numbers (omega arith) (f.1 d h);
    })

-- where nothing is barred, k is not
pub none-barred : (plan : Plan) → plan.barred ≡ replicate 512 0 → (k kind q : ℕ) → kind < 2 → q < 256 → bit (bars plan kind q) k ≡ 0
none-barred plan e k kind q g h =
    ap (λ l. bit (get_or l (2 * q + kind) 0) k) e ∙ ap (λ v. bit v k) (get_or-replicate 512 (2 * q + kind) 0 0 (omega arith)) ∙ bit-zero k

-- ---- what is so of a held plan

module _ (plan : Plan) (held : Held plan) where
  -- at the start every identifier is at rest
  pub start-rests : (k : ℕ) → AtRest plan k (started plan)
  start-rests k =
      record {
        sound = started-sound plan held;
        unset = λ d h. ap (λ v. bit v k) (start-device plan (register_at d) (omega (arith, h, few plan held))) ∙ bit-zero k;
        idle = λ kind q g h. ap (λ v. bit v k) (start-port plan q h kind (omega arith)) ∙ bit-zero k;
      }

  -- D is the most crossings, where some device is so many away and all can be got to by no more
  pub farthest-of : (s : State) (kind k from D : ℕ) → from < devices plan → (e : ℕ) × Away plan s kind k from D e
      → ((e : ℕ) → e < devices plan → (n : ℕ) × (n ≤ D) × Walk plan s kind k from n e) → Farthest plan s kind k from D
  farthest-of s kind k from D h some near =
      record {
        some = some;
        most = λ n e a. let c = near e (walk-device plan held s kind k from h a.there) in le_trans (away-least a c.2) c.1;
      }

-- ---- rounds before each of which the master ticks

module _ (plan : Plan) (held : Held plan) (d p : ℕ) (there : d < devices plan) (is-master : plan.core.master ≡ d + 1) (small : p < 8) where
  -- port p of the master runs
  record Ticks-on (s : State) : Type 0 where
    sound : Sound plan s
    runs : running s (8 * d + p) ≡ 1

  room : d < 32
  room = omega (arith, few plan held)

  tick-on : {s : State} → Ticks-on s → Ticks-on (advanced d s)
  tick-on {s} x = record { sound = tick-sound plan held s x.sound d there; runs = tick-left d room s (port_at (8 * d + p) running_at) (omega (arith, room)) ∙ x.runs }

  round-on : {s : State} → Ticks-on s → Ticks-on (round plan s).next
  round-on {s} x =
      record { sound = round-sound plan held s x.sound; runs = round-runs plan held (8 * d + p) (omega (arith, room)) s x.sound ∙ x.runs }

  -- so the tick is taken
  ticks : (k : ℕ) {s t : State} → Calls plan k s t → Ticks-on t → Calls plan k s (advanced d t)
  ticks k {t = t} before x =
      tick d 0 before (outcome-done (passed (tick_asks plan d t) [] 0 (held, (x.sound, (there, (is-master, ((p, small, x.runs), tt))))) refl) refl refl)

  module _ (k : ℕ) {s u : State} (before : Calls plan k s u) (x : Sound plan u) (runs : running u (8 * d + p) ≡ 1) where
    at_tick : (t : ℕ) → Ticks-on (ticking plan d u t)
    unfolding ticking
    at_tick t =
        keeps (λ i s. advanced d (round plan s).next) Ticks-on t (λ i s b y. tick-on (round-on y)) (advanced d u) (tick-on (record { sound = x; runs = runs }))

    pub ticked : (n : ℕ) → Course plan k n s (ticking plan d u)
    unfolding ticking up_to
    ticked n =
        record {
          begins = ticks k before (record { sound = x; runs = runs });
          goes_on = λ t h. ticks k none (round-on (at_tick t));
        }

-- 15 grants all four permissions
pub all-grant : (kind : ℕ) → kind < 2 → (may_send kind 15 ≡ true) × (may_receive kind 15 ≡ true)
unfolding may_send may_receive bit
all-grant = both-kinds (λ kind. (may_send kind 15 ≡ true) × (may_receive kind 15 ≡ true)) (refl, refl) (refl, refl)

-- ---- rounds with no call between them

pub on : (plan : Plan) (k : ℕ) (u : State) (t : ℕ) → Calls plan k (round plan (rounds plan t u)).next (rounds plan (suc t) u)
unfolding up_to
on plan k u t = none

pub played : {plan : Plan} {k : ℕ} {s u : State} → Calls plan k s u → (n : ℕ) → Course plan k n s (λ t. rounds plan t u)
unfolding up_to
played {plan} {k} {u = u} first n = record { begins = first; goes_on = λ t h. on plan k u t }

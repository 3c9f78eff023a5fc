-- What a request or an acknowledge asks in a star, what a window asks from then on, and what a cycle asks.
use mathlib.Core.Path.{◌≡◌, refl}
use mathlib.Core.Bool.{true}
use Prim.Native.Nat.{ℕ, suc, ◌+◌, ◌<◌}
use native.Mathlib.Omega.{arith}
use Rattle.answers.specs.Ordered.{Ordered}
use Rattle.bits.specs.Set.{bit}
use Rattle.device.specs.Reaction.{is_used}
use Rattle.plan.specs.declared.Plan.{Plan}
use Rattle.state.specs.State.{State, register}
use Rattle.state.specs.Network.{source, handler, events}
use Rattle.state.specs.Sound.{Sound}
use Rattle.calls.specs.Calls.{owns, call_asks, called}
use Rattle.bench.specs.Settling.{rounds}
use Rattle.assurance.specs.Demand3.{Calls, none, Course, window, Given}
use Rattle.assurance.specs.Return.{FoundBack}
use Rattle.assurance.specs.Cycle.{AtRest, Cycle}
use Rattle.assurance.specs.Event.{Event}
use Rattle.assurance.proofs.Begun.{call-taken}
use Rattle.assurance.proofs.Instances.{on, played}
use Rattle.cycles.proofs.Stars.{lasts, Star}
use Rattle.cycles.proofs.Ways.{Links, node-there, leads-in, permits, far, gets, found_back, far-back}

-- ---- node i + 1 calls, by links that run as at the start

module _ {plan : Plan} {n : ℕ} (x : Star plan n) (k : ℕ) (l : k < 32) (i : ℕ) (h : i < n) (s : State) (links : Links plan s) where
  pub asked : (kind : ℕ) → kind < 2 → Sound plan s → bit (owns plan kind (suc i)) k ≡ 1 → is_used (events plan) kind k ≡ true
      → bit (register s (suc i)) k ≡ kind → Ordered (call_asks plan kind (suc i) k s) 0
  asked kind g y own used stands =
      let way = leads-in x kind k g s links i h in
      call-taken plan x.held kind (suc i) k 0 s y (node-there x i h) l own used (omega arith) way.runs way.sends stands

  -- a request, where k is at rest, meets demand 3's conditions
  pub meets : lasts k ≡ true → AtRest plan k s → bit (source plan (suc i)) k ≡ 1 → (at : ℕ → State) → Course plan k (window 2) (called plan 0 (suc i) k s) at
      → Given plan k (suc i) 2 s at
  unfolding is_used
  meets long rest own at course =
      record {
        held = x.held;
        sound = rest.sound;
        unset = rest.unset;
        idle = rest.idle;
        taken = asked 0 (omega arith) rest.sound own refl (rest.unset (suc i) (node-there x i h));
        farthest = far x 0 k (omega arith) s links i h;
        course = course;
        loads = λ e b. omega (arith, x.long k e l long b);
      }

  -- a cycle, with node j + 1 as its handler; other calls follow the request, and none later
  pub a-cycle : lasts k ≡ true → AtRest plan k s → bit (source plan (suc i)) k ≡ 1 → bit (events plan) k ≡ 0 → (u : State) → Calls plan k (called plan 0 (suc i) k s) u
      → (j gap : ℕ) → j < n → bit (handler plan (suc j)) k ≡ 1 → gap < 416
      → Cycle plan k (suc i) (suc j) 2 2 gap s (λ t. rounds plan t u) (λ t. rounds plan t (called plan 1 (suc j) k (rounds plan (window 2 + gap) u)))
      × FoundBack plan k (suc i) (suc j) s
  a-cycle long rest own no-event u first j gap m handles short = (
    record {
      request = meets long rest own (λ t. rounds plan t u) (played first (window 2));
      permits = permits x k s links;
      no-event = no-event;
      between = λ t a b. on plan k u t;
      handles = handles;
      was-reached = gets x k s links i h (suc j) (node-there x j m);
      farthest = far-back x k s links i h j m;
      course = played none (window 2);
      loads = λ e b. omega (arith, x.long k e l long b);
    },
    found_back x k s links i h j m,
  )

  -- an event; other calls follow the request, and none later
  pub an-event : lasts k ≡ true → AtRest plan k s → bit (source plan (suc i)) k ≡ 1 → bit (events plan) k ≡ 1 → (u : State) → Calls plan k (called plan 0 (suc i) k s) u
      → Event plan k (suc i) 2 s (λ t. rounds plan t u)
  an-event long rest own event u first =
      record {
        request = meets long rest own (λ t. rounds plan t u) (played first (window 2));
        event = event;
        after = λ t since b. on plan k u t;
      }

-- RULES, "When a link stops": what a link leaves as it was, and what a stop changes. Port p of device d is q = 8 x d + p.
use Rattle.std.specs.Prelude.{◌≡◌, Bool, false, ◌≢◌, ℕ, ◌+◌, ◌*◌, ◌<◌}
use Rattle.plan.specs.declared.Plan.{Plan}
use Rattle.state.specs.State.{State, word, port_words, port_at, register, timer, waiting, next, running, counter, time, drops}
use Rattle.state.specs.Network.{peer}
use Rattle.calls.specs.Calls.{Links}

-- the link at port q: every register, every timer, every counter, every next, what every port dropped, and every port that is neither end of it are as
-- they were
pub record Keeps (plan : Plan) (q : ℕ) (before after : State) : Type 0 where
  pub registers : (d : ℕ) → d < 32 → register after d ≡ register before d
  pub timers : (d k : ℕ) → d < 32 → k < 32 → timer after d k ≡ timer before d k
  pub counters : (d : ℕ) → d < 32 → counter after d ≡ counter before d
  pub nexts : (p : ℕ) → p < 256 → next after p ≡ next before p
  pub others : (p i : ℕ) → p < 256 → i < port_words → p ≢ q → p ≢ peer plan q → word after (port_at p i) ≡ word before (port_at p i)
  pub times : (p : ℕ) → p < 256 → p ≢ q → p ≢ peer plan q → time after p ≡ time before p
  pub counts : (p kind : ℕ) → p < 256 → kind < 2 → drops after kind p ≡ drops before kind p

-- neither end of it runs, nothing waits at either, and the mark of a Time-Code that was sent last is gone from both
pub record Stopped (plan : Plan) (q : ℕ) (after : State) : Type 0 where
  pub flags : (running after q ≡ 0) × (running after (peer plan q) ≡ 0)
  pub sets : (kind : ℕ) → kind < 2 → (waiting after kind q ≡ 0) × (waiting after kind (peer plan q) ≡ 0)
  pub times : (time after q ≡ 0) × (time after (peer plan q) ≡ 0)

-- whether the link is to run or to stop, and whatever the call answers
unfoldable pub LinkKeeps : Type 0
LinkKeeps =
    (plan : Plan) (d p : ℕ) (runs : Bool) (before : State) (number : ℕ) (after : State) → Links plan d p runs before number after
    → Keeps plan (8 * d + p) before after

-- a stop that is done
unfoldable pub LinkStops : Type 0
LinkStops = (plan : Plan) (d p : ℕ) (before after : State) → Links plan d p false before 0 after → Stopped plan (8 * d + p) after

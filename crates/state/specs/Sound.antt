-- RULES, "State": the states that are sound.
use Rattle.std.specs.Prelude.{◌≡◌, true, false, List, [], ◌∷◌, ℕ, ◌+◌, ◌*◌, ◌^◌, ◌≤◌, ◌<◌, length}
use Rattle.std.specs.Int.Bits.{bit_and}
use Rattle.answers.specs.Ordered.{Condition, ask}
use Rattle.bits.specs.Set.{bit}
use Rattle.device.specs.Permissions.{may_send}
use Rattle.plan.specs.Fields.{nobody}
use Rattle.plan.specs.Reading.{Held}
use Rattle.plan.specs.declared.Plan.{Plan}
use Rattle.state.specs.State.{State, words, word, device_words, port_words, register, timer, waiting, next, running, port_at, counter, time, time_waits, drops, most_drops}
use Rattle.state.specs.Network.{devices, exists, peer, permissions, guards, load_of}

-- a timer runs where its bit is 1, and is no greater than its load; where the bit is 0 it is 0
pub record Timed (plan : Plan) (s : State) (d k : ℕ) : Type 0 where
  pub on : bit (register s d) k ≡ 1 → (1 ≤ timer s d k) × (timer s d k ≤ load_of plan d k)
  pub off : bit (register s d) k ≡ 0 → timer s d k ≡ 0

-- an existing port
pub record Kept (plan : Plan) (s : State) (q : ℕ) : Type 0 where
  pub next-below : next s q < 32
  pub flag : running s q < 2
  pub both_ends : peer plan q < nobody → running s q ≡ running s (peer plan q)
  pub loose : peer plan q ≡ nobody → running s q ≡ 0
  pub apart : bit_and (waiting s 0 q) (waiting s 1 q) ≡ 0
  pub stopped : running s q ≡ 0 → (kind : ℕ) → kind < 2 → waiting s kind q ≡ 0
  pub mute : (kind : ℕ) → kind < 2 → may_send kind (permissions plan q) ≡ false → waiting s kind q ≡ 0

-- the counters and the ports' words of Time-Codes
pub record Clocked (plan : Plan) (s : State) : Type 0 where
  pub counters : (d : ℕ) → d < 32 → counter s d < 64
  -- 0 to 64, or 128 more
  pub ranges : (q : ℕ) → q < 256 → (time_waits s q ≤ 64) × (time s q < 256)
  pub stopped : (q : ℕ) → q < 256 → running s q ≡ 0 → time_waits s q ≡ 0
  -- what belongs to no device and no port of the plan is 0
  pub no-counter : (d : ℕ) → devices plan ≤ d → d < 32 → counter s d ≡ 0
  pub no_word : (q : ℕ) → q < 256 → exists plan q ≡ false → time s q ≡ 0

-- the counts of what ports dropped: 0 at a port that no router has
pub record Guarded (plan : Plan) (s : State) : Type 0 where
  pub counts : (q kind : ℕ) → q < 256 → kind < 2 → drops s kind q ≤ most_drops
  pub no-count : (q kind : ℕ) → q < 256 → kind < 2 → guards plan q ≡ false → drops s kind q ≡ 0

pub record Sound (plan : Plan) (s : State) : Type 0 where
  pub size : length s ≡ words
  pub fits : (i : ℕ) → word s i < 2 ^ 32
  pub timers : (d k : ℕ) → d < devices plan → d < 32 → k < 32 → Timed plan s d k
  pub ports : (q : ℕ) → q < 256 → exists plan q ≡ true → Kept plan s q
  -- what belongs to no device and no port of the plan is 0
  pub no-device : (d i : ℕ) → devices plan ≤ d → d < 32 → i < device_words → word s (device_words * d + i) ≡ 0
  pub no-port : (q i : ℕ) → q < 256 → exists plan q ≡ false → i < port_words → word s (port_at q i) ≡ 0
  pub clock : Clocked plan s
  pub guard : Guarded plan s

-- what every call on a state asks first
abbrev pub state_asks : Plan → State → List Condition
state_asks plan s = ask 1 (Held plan) ∷ ask 2 (Sound plan s) ∷ []

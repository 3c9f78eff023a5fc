-- No rules: what a round passes over, since nothing happens there. `Idles` proves it of every sound state of a held plan.
use Rattle.std.specs.Prelude.{◌≡◌, List, ℕ, ◌+◌, ◌*◌, ◌/◌, ◌≤◌, ◌<◌, length, get_or}
use Rattle.bits.specs.Set.{bit}
use Rattle.plan.specs.Fields.{nobody}
use Rattle.plan.specs.declared.Plan.{Plan}
use Rattle.state.specs.State.{State, words, word, register_at, ports_at, ports_end, port_words, register, timer, waiting, counter_at, time_at, time, drops_start}
use Rattle.state.specs.Network.{devices, ports_of, peer}
use Rattle.bench.specs.Round.{nothing, sent_words}

-- no timer of device d runs whose bit is clear
pub record Rests (s : State) (d : ℕ) : Type 0 where
  pub rests : (k : ℕ) → k < 32 → bit (register s d) k ≡ 0 → timer s d k ≡ 0

-- of the eight ports that device d could have it has so many, and nothing waits at the others, and no Time-Code was sent there
pub record Unused (s : State) (d ports : ℕ) : Type 0 where
  pub most : ports ≤ 8
  pub unused : (q kind : ℕ) → 8 * d + ports ≤ q → q < 8 * d + 8 → kind < 2 → waiting s kind q ≡ 0
  pub untimed : (q : ℕ) → 8 * d + ports ≤ q → q < 8 * d + 8 → time s q ≡ 0

-- where the ports of n devices end
abbrev pub ports_past : ℕ → ℕ
ports_past n = ports_at + port_words * (8 * n)

-- behind the ports, word i is none of the counters of n devices, none of their ports' Time-Codes, and none of their drops
abbrev pub Behind : ℕ → ℕ → Type 0
Behind n i = (ports_end ≤ i → counter_at n ≤ i) × (time_at 0 ≤ i → time_at (8 * n) ≤ i) × (drops_start ≤ i → drops_start + 16 * n ≤ i)

-- there are n devices: the words that are not theirs and not their ports' are 0
pub record Blank (n : ℕ) (s : State) : Type 0 where
  pub size : length s ≡ words
  pub blank : (i : ℕ) → register_at n ≤ i → (ports_at ≤ i → ports_past n ≤ i) → Behind n i → word s i ≡ 0

-- in a state, of the devices of a plan
pub record Idles (plan : Plan) (s : State) : Type 0 where
  pub resting : (d : ℕ) → d < devices plan → Rests s d
  pub unused : (d : ℕ) → d < devices plan → Unused s d (ports_of plan d)
  pub absent : Blank (devices plan) s

-- the ports that a device lacks lead nowhere
pub record Laid (plan : Plan) : Type 0 where
  pub few : devices plan ≤ 32
  pub most : (d : ℕ) → d < devices plan → ports_of plan d ≤ 8
  pub nowhere : (d p : ℕ) → d < devices plan → ports_of plan d ≤ p → p < 8 → peer plan (8 * d + p) ≡ nobody

-- from place to place, all words are as in another state; the others are as before
pub record Copies (from to : ℕ) (old before after : State) : Type 0 where
  pub size : length after ≡ length before
  pub there : (i : ℕ) → from ≤ i → i < to → word after i ≡ word old i
  pub left : (i : ℕ) → (from ≤ i → i < to → ⊥) → word after i ≡ word before i

-- ports that the devices lack have sent nothing
pub record Silent (n : ℕ) (ports sent : List ℕ) : Type 0 where
  pub size : length sent ≡ sent_words
  pub unsent : (q : ℕ) → q < sent_words → (q < 8 * n → 8 * (q / 8) + get_or ports (q / 8) 0 ≤ q) → get_or sent q nothing ≡ nothing

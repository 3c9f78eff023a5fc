-- RULES, "Rounds": identifiers share links, and only that way affect each other.
use Rattle.std.specs.Prelude.{◌≡◌, ℕ, ◌<◌, get_or}
use Rattle.bits.specs.Set.{bit}
use Rattle.codes.specs.Codes.{byte_of}
use Rattle.plan.specs.declared.Plan.{Plan}
use Rattle.state.specs.State.{State, register, timer, waiting, running}
use Rattle.bench.specs.Round.{nothing, sent_bytes}

-- two states that are alike in all that concerns identifier k
pub record Alike (k : ℕ) (s t : State) : Type 0 where
  pub marks : (d : ℕ) → d < 32 → bit (register s d) k ≡ bit (register t d) k
  pub timers : (d : ℕ) → d < 32 → timer s d k ≡ timer t d k
  pub waits : (kind q : ℕ) → kind < 2 → q < 256 → bit (waiting s kind q) k ≡ bit (waiting t kind q) k
  pub runs : (q : ℕ) → q < 256 → running s q ≡ running t q

-- port q sends identifier k, as a code of a kind
abbrev pub SendsIt : Plan → ℕ → State → ℕ → ℕ → Type 0
SendsIt plan k s kind q = get_or (sent_bytes plan s) q nothing ≡ byte_of kind k

-- the same ports send k in both
abbrev pub SendAlike : Plan → ℕ → State → State → Type 0
SendAlike plan k s t = (kind q : ℕ) → kind < 2 → (SendsIt plan k s kind q → SendsIt plan k t kind q) × (SendsIt plan k t kind q → SendsIt plan k s kind q)

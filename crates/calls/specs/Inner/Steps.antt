-- What the four functions of a reset leave, one after the other: words that become 0.
use Rattle.std.specs.Prelude.{◌≡◌, cond, not, ◌&&◌, ℕ, ◌/◌, ◌≤◌, ◌<◌, eqb, length}
use Rattle.state.specs.State.{State, word, port_at, register, timer, running_at, counter, time, drops, state_of}

-- the words from one place up to another are 0, and all else is as it was
pub record Zeros (from to : ℕ) (s t : State) : Type 0 where
  pub size : length t ≡ length s
  pub gone : (i : ℕ) → from ≤ i → i < to → word t i ≡ 0
  pub left : (i : ℕ) → (from ≤ i → i < to → ⊥) → word t i ≡ word s i

-- the register and the timers of device d
abbrev pub cleared : ℕ → State → State
cleared d s =
    state_of
    (record {
      registers = λ e. cond (eqb e d) 0 (register s e);
      timers = λ e k. cond (eqb e d) 0 (timer s e k);
      ports = λ q i. word s (port_at q i);
      counters = counter s;
      times = time s;
      drops = λ q kind. drops s kind q;
    })

-- the waiting sets and next of its ports: all but the flags
abbrev pub emptied : ℕ → State → State
emptied d s =
    state_of
    (record {
      registers = register s;
      timers = timer s;
      ports = λ q i. cond (eqb (q / 8) d && not (eqb i running_at)) 0 (word s (port_at q i));
      counters = counter s;
      times = time s;
      drops = λ q kind. drops s kind q;
    })

-- its counter, and what its ports have of Time-Codes
abbrev pub untimed : ℕ → State → State
untimed d s =
    state_of
    (record {
      registers = register s;
      timers = timer s;
      ports = λ q i. word s (port_at q i);
      counters = λ e. cond (eqb e d) 0 (counter s e);
      times = λ q. cond (eqb (q / 8) d) 0 (time s q);
      drops = λ q kind. drops s kind q;
    })

-- what its ports dropped
abbrev pub uncounted : ℕ → State → State
uncounted d s =
    state_of
    (record {
      registers = register s;
      timers = timer s;
      ports = λ q i. word s (port_at q i);
      counters = counter s;
      times = time s;
      drops = λ q kind. cond (eqb (q / 8) d) 0 (drops s kind q);
    })

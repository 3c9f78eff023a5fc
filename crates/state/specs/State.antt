-- RULES, "State": how many words of 32 bits it has, and where each stands.
use Rattle.std.specs.Prelude.{◌≡◌, List, ◌∷◌, ◌++◌, ℕ, ◌+◌, ◌*◌, ◌/◌, ◌%◌, get_or, set}
use Rattle.lists.specs.Table.{table, joined}

abbrev pub State : Type 0
State = List ℕ

abbrev pub words : ℕ
words = 2880

-- two areas are each as long as a state
abbrev pub BothFit : ℕ → ℕ → Type 0
BothFit state second = (state ≡ words) × (second ≡ words)

unfoldable pub word : State → ℕ → ℕ
word s i = get_or s i 0

unfoldable pub put : State → ℕ → ℕ → State
put s i v = set s i v

-- ---- a device has its register, and its 32 timers behind it

abbrev pub device_words : ℕ
device_words = 33

abbrev pub register_at : ℕ → ℕ
register_at d = device_words * d

abbrev pub timer_at : ℕ → ℕ → ℕ
timer_at d k = device_words * d + 1 + k

abbrev pub register : State → ℕ → ℕ
register s d = word s (register_at d)

abbrev pub timer : State → ℕ → ℕ → ℕ
timer s d k = word s (timer_at d k)

-- ---- behind all devices are the ports: port p of device d is q = 8 x d + p, and has four words

abbrev pub ports_at : ℕ
ports_at = 1056

abbrev pub port_words : ℕ
port_words = 4

abbrev pub port_at : ℕ → ℕ → ℕ
port_at q i = ports_at + port_words * q + i

-- behind the last port
abbrev pub ports_end : ℕ
ports_end = ports_at + port_words * 256

-- the waiting codes of a kind come first: interrupts (0), then acknowledges (1)
abbrev pub waiting : State → ℕ → ℕ → ℕ
waiting s kind q = word s (port_at q kind)

abbrev pub next_at : ℕ
next_at = 2

abbrev pub next : State → ℕ → ℕ
next s q = word s (port_at q next_at)

abbrev pub running_at : ℕ
running_at = 3

abbrev pub running : State → ℕ → ℕ
running s q = word s (port_at q running_at)

-- ---- behind the ports are the Time-Codes: a counter for each device, and then a word for each port

abbrev pub counter_at : ℕ → ℕ
counter_at d = ports_end + d

abbrev pub counter : State → ℕ → ℕ
counter s d = word s (counter_at d)

abbrev pub time_at : ℕ → ℕ
time_at q = ports_end + 32 + q

abbrev pub time : State → ℕ → ℕ
time s q = word s (time_at q)

-- the Time-Code that waits at the port, as its value plus 1; 0 is none
abbrev pub time_waits : State → ℕ → ℕ
time_waits s q = time s q % 128

-- and 128 more where the last code that it sent was a Time-Code: 1 for that, else 0
abbrev pub lately : State → ℕ → ℕ
lately s q = time s q / 128 % 2

-- ---- behind these are the drops: of each port how many codes of a kind it dropped, interrupts (0) and acknowledges (1)

abbrev pub drops_start : ℕ
drops_start = time_at 256

abbrev pub drops_at : ℕ → ℕ → ℕ
drops_at q kind = drops_start + 2 * q + kind

abbrev pub drops : State → ℕ → ℕ → ℕ
drops s kind q = word s (drops_at q kind)

-- no count goes above this
abbrev pub most_drops : ℕ
most_drops = 65535

-- ---- a state made of its parts

pub record Parts : Type 0 where
  pub registers : ℕ → ℕ
  pub timers : ℕ → ℕ → ℕ
  pub ports : ℕ → ℕ → ℕ
  pub counters : ℕ → ℕ
  pub times : ℕ → ℕ
  pub drops : ℕ → ℕ → ℕ

unfoldable pub state_of : Parts → State
state_of parts =
    joined 32 (λ d. parts.registers d ∷ table 32 (parts.timers d))
    ++ (joined 256 (λ q. table port_words (parts.ports q))
    ++ (table 32 parts.counters ++ (table 256 parts.times ++ joined 256 (λ q. table 2 (parts.drops q)))))

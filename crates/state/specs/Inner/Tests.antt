-- No rules: whether a state is sound, as one computed test. Nothing here has to be believed; `Tested` proves what it comes to.
use Rattle.std.specs.Prelude.{Bool, cond, not, ◌&&◌, ◌||◌, List, [], ℕ, ◌+◌, ◌-◌, ◌*◌, ◌/◌, ◌%◌, min, eqb, ltb, leb, length, get_or}
use Rattle.std.specs.Int.Bits.{bit_and}
use Rattle.lists.specs.Table.{every}
use Rattle.bits.specs.Set.{bit}
use Rattle.device.specs.Permissions.{may_send}
use Rattle.plan.specs.Fields.{nobody}
use Rattle.plan.specs.Inner.Memory.{free_masks}
use Rattle.plan.specs.declared.Plan.{Plan}
use Rattle.state.specs.State.{State, words, word, device_words, ports_at, port_words, port_at, register, timer, waiting, next, running, counter, time, drops_start, most_drops}
use Rattle.state.specs.Network.{peer_in, load_for}

-- a timer whose load is given
unfoldable pub timer_sound : ℕ → ℕ → ℕ → Bool
timer_sound on timer load = cond (eqb on 1) (leb 1 timer && leb timer load) (eqb timer 0)

-- those of a device of the role
unfoldable pub device_timed : List ℕ → ℕ → State → ℕ → Bool
device_timed loads role s d = every 32 (λ k. timer_sound (bit (register s d) k) (timer s d k) (load_for loads role k))

-- of n devices; a state has room for 32
unfoldable pub all_timed : ℕ → List ℕ → List ℕ → State → Bool
all_timed n loads roles s = every (min n 32) (λ d. device_timed loads (get_or roles d 0) s d)

-- the words from one place to another are 0
unfoldable pub zeros_in : ℕ → ℕ → State → Bool
zeros_in from to s = every (to - from) (λ i. eqb (word s (from + i)) 0)

-- those behind n devices, up to the ports
abbrev pub rest_zero : ℕ → State → Bool
rest_zero n s = zeros_in (device_words * n) ports_at s

-- the flag is 0 or 1, as at the other end, and 0 where there is none; a peer above 256 is no port
unfoldable pub flag_sound : State → ℕ → ℕ → Bool
flag_sound s flag peer = leb flag 1 && cond (eqb peer nobody) (eqb flag 0) (ltb nobody peer || eqb flag (running s peer))

-- codes of a kind wait only where the port runs and may send them
unfoldable pub may_wait : ℕ → ℕ → ℕ → ℕ → Bool
may_wait kind codes flag permissions = eqb codes 0 || (not (eqb flag 0) && may_send kind permissions)

unfoldable pub waiting_sound : ℕ → ℕ → ℕ → ℕ → Bool
waiting_sound interrupts acknowledges flag permissions =
    eqb (bit_and interrupts acknowledges) 0 && may_wait 0 interrupts flag permissions && may_wait 1 acknowledges flag permissions

unfoldable pub port_kept : State → ℕ → ℕ → ℕ → Bool
port_kept s q peer permissions =
    leb (next s q) 31 && flag_sound s (running s q) peer && waiting_sound (waiting s 0 q) (waiting s 1 q) (running s q) permissions

unfoldable pub port_zero : State → ℕ → Bool
port_zero s q = every port_words (λ i. eqb (word s (port_at q i)) 0)

unfoldable pub port_sound : State → ℕ → ℕ → ℕ → ℕ → Bool
port_sound s q ports peer permissions = cond (ltb (q % 8) ports) (port_kept s q peer permissions) (port_zero s q)

-- the ports of device d, which has so many
unfoldable pub device_ports : State → ℕ → ℕ → List ℕ → List (List ℕ) → Bool
device_ports s d ports permissions peers = every 8 (λ p. port_sound s (8 * d + p) ports (get_or (get_or peers d []) p 0) (get_or permissions (8 * d + p) 0))

module _ (ports permissions : List ℕ) (peers : List (List ℕ)) (s : State) where
  -- port q, by what stands in the arrays of a plan
  abbrev pub place_sound : ℕ → Bool
  place_sound q = port_sound s q (get_or ports (q / 8) 0) (peer_in peers q) (get_or permissions q 0)

  unfoldable pub ports_sound : Bool
  ports_sound = every 256 place_sound

-- a counter of six bits, and 0 behind n devices; d is one of 32
unfoldable pub counter_sound : State → ℕ → ℕ → Bool
counter_sound s n d = cond (ltb d n) (ltb (counter s d) 64) (eqb (counter s d) 0)

unfoldable pub counters_sound : ℕ → State → Bool
counters_sound n s = every 32 (counter_sound s n)

-- a port's word of Time-Codes, by whether the port runs
unfoldable pub time_kept : ℕ → ℕ → Bool
time_kept time flag = leb (time % 128) 64 && ltb time 256 && (not (eqb flag 0) || eqb (time % 128) 0)

unfoldable pub time_sound : State → ℕ → ℕ → Bool
time_sound s q ports = cond (ltb (q % 8) ports) (time_kept (time s q) (running s q)) (eqb (time s q) 0)

unfoldable pub times_sound : List ℕ → State → Bool
times_sound ports s = every 256 (λ q. time_sound s q (get_or ports (q / 8) 0))

-- of the 16 counts of a device, those in front, as many as it has of them, are within their bound, and the others 0
unfoldable pub count_sound : ℕ → ℕ → ℕ → Bool
count_sound own j count = cond (ltb j own) (leb count most_drops) (eqb count 0)

unfoldable pub counts_sound : State → ℕ → ℕ → Bool
counts_sound s d own = every 16 (λ j. count_sound own j (word s (drops_start + 16 * d + j)))

-- two for each port of a router; of n devices
unfoldable pub own_counts : ℕ → List ℕ → List ℕ → ℕ → ℕ
own_counts n role ports d = cond (ltb d n) (free_masks (get_or role d 0) (get_or ports d 0)) 0

unfoldable pub drops_sound : ℕ → List ℕ → List ℕ → State → Bool
drops_sound n role ports s = every 32 (λ d. counts_sound s d (own_counts n role ports d))

unfoldable pub sounds : Plan → State → Bool
sounds plan s =
    eqb (length s) words
    && all_timed plan.core.devices plan.core.loads plan.core.role s
    && rest_zero plan.core.devices s
    && ports_sound plan.core.ports plan.core.permissions plan.peers s
    && counters_sound plan.core.devices s
    && times_sound plan.core.ports s
    && drops_sound plan.core.devices plan.core.role plan.core.ports s

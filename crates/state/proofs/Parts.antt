-- A state made of its parts: how long it is, what stands where, and that it is the only one with these parts.
use mathlib.Core.Path.{◌≡◌, sym, ap, ◌∙◌}
use mathlib.Core.List.{List, ◌∷◌, ◌++◌}
use mathlib.Core.Logic.{dite}
use Prim.Native.Nat.{ℕ, suc, ◌+◌, ◌-◌, ◌*◌, ◌/◌, ◌%◌, ◌≤◌, ◌<◌}
use native.Mathlib.Decide.{dec_lt, ℕ_discrete}
use native.Mathlib.Omega.{arith}
use lib.ListN.{length, get_or, length-append, get_or-append}
use lib.Seq.{ext_get_or, get_or-append-add}
use Rattle.lists.specs.Table.{table, joined}
use Rattle.lists.proofs.Tables.{length-table, get_d-table, length-joined, get_d-joined}
use Rattle.state.specs.State.{State, words, word, device_words, ports_at, ports_end, port_words, register_at, timer_at, port_at, register, timer, counter_at, counter, time_at, time, drops_start, drops_at, drops, Parts, state_of}
use Rattle.state.proofs.Words.{word-past}

-- every place is that of a register, of a timer, of a port's word, or behind the ports
pub by_place : (P : ℕ → Type 0) → ((d : ℕ) → d < 32 → P (register_at d)) → ((d k : ℕ) → d < 32 → k < 32 → P (timer_at d k))
    → ((q i : ℕ) → q < 256 → i < port_words → P (port_at q i)) → ((i : ℕ) → ports_end ≤ i → P i) → (i : ℕ) → P i
by_place P registers timers ports behind i =
    dite (dec_lt i ports_at)
    (λ l. elim (ℕ_discrete (i % device_words) 0) [
      | yes z ↦ at (register_at (i / device_words)) (omega arith) (registers (i / device_words) (omega arith))
      | no n ↦ at (timer_at (i / device_words) (i % device_words - 1)) (omega arith) (timers (i / device_words) (i % device_words - 1) (omega arith) (omega arith))
    ])
    (λ l. dite (dec_lt i ports_end)
    (λ h. at (port_at ((i - ports_at) / port_words) ((i - ports_at) % port_words)) (omega arith)
    (ports ((i - ports_at) / port_words) ((i - ports_at) % port_words) (omega arith) (omega arith)))
    (λ h. behind i (omega arith)))
  where
    at : (j : ℕ) → i ≡ j → P j → P i
    at j e p = rw e p

-- and behind the ports, that of a counter, of a port's word of Time-Codes, of a port's drops, or past the end
pub by-behind : (P : ℕ → Type 0) → ((d : ℕ) → d < 32 → P (counter_at d)) → ((q : ℕ) → q < 256 → P (time_at q))
    → ((q kind : ℕ) → q < 256 → kind < 2 → P (drops_at q kind)) → ((i : ℕ) → words ≤ i → P i) → (i : ℕ) → ports_end ≤ i → P i
by-behind P counters times dropped past i h =
    dite (dec_lt i (time_at 0)) (λ l. at (counter_at (i - ports_end)) (omega arith) (counters (i - ports_end) (omega arith)))
    (λ l. dite (dec_lt i drops_start) (λ m. at (time_at (i - time_at 0)) (omega arith) (times (i - time_at 0) (omega arith)))
    (λ m. dite (dec_lt i words)
    (λ o. at (drops_at ((i - drops_start) / 2) ((i - drops_start) % 2)) (omega arith) (dropped ((i - drops_start) / 2) ((i - drops_start) % 2) (omega arith) (omega arith)))
    (λ o. past i (omega arith))))
  where
    at : (j : ℕ) → i ≡ j → P j → P i
    at j e p = rw e p

module _ (parts : Parts) where
  abbrev device : ℕ → List ℕ
  device d = parts.registers d ∷ table 32 (parts.timers d)

  abbrev port : ℕ → List ℕ
  port q = table port_words (parts.ports q)

  device-long : (d : ℕ) → d < 32 → length (device d) ≡ device_words
  device-long d h = ap suc (length-table 32 (parts.timers d))

  port-long : (q : ℕ) → q < 256 → length (port q) ≡ port_words
  port-long q h = length-table port_words (parts.ports q)

  abbrev dropped : ℕ → List ℕ
  dropped q = table 2 (parts.drops q)

  dropped-long : (q : ℕ) → q < 256 → length (dropped q) ≡ 2
  dropped-long q h = length-table 2 (parts.drops q)

  abbrev timed : List ℕ
  timed = table 256 parts.times ++ joined 256 dropped

  abbrev behind : List ℕ
  behind = table 32 parts.counters ++ timed

  abbrev rest : List ℕ
  rest = joined 256 port ++ behind

  devices-long : length (joined 32 device) ≡ ports_at
  devices-long = length-joined device_words device 32 device-long

  ports-long : length (joined 256 port) ≡ ports_end - ports_at
  ports-long = length-joined port_words port 256 port-long

  pub length-state : length (state_of parts) ≡ words
  unfolding state_of
  length-state =
      length-append (joined 32 device) rest
      ∙ omega (
        arith,
        devices-long,
        ports-long,
        length-append (joined 256 port) behind,
        length-append (table 32 parts.counters) timed,
        length-append (table 256 parts.times) (joined 256 dropped),
        length-table 32 parts.counters,
        length-table 256 parts.times,
        length-joined 2 dropped 256 dropped-long,
      )

  -- word i of device d
  device-word : (d i : ℕ) → d < 32 → i < device_words → word (state_of parts) (device_words * d + i) ≡ get_or (device d) i 0
  unfolding state_of word
  device-word d i h l =
      get_or-append (joined 32 device) rest 0 (device_words * d + i) (omega (arith, devices-long))
      ∙ get_d-joined device_words device 32 device-long d i 0 h l

  pub register_of : (d : ℕ) → d < 32 → register (state_of parts) d ≡ parts.registers d
  register_of d h = ap (word (state_of parts)) (omega arith) ∙ device-word d 0 h (omega arith)

  pub timer-of : (d k : ℕ) → d < 32 → k < 32 → timer (state_of parts) d k ≡ parts.timers d k
  timer-of d k h l = ap (word (state_of parts)) (omega arith) ∙ device-word d (suc k) h (omega arith) ∙ get_d-table 32 (parts.timers d) k 0 l

  pub port-of : (q i : ℕ) → q < 256 → i < port_words → word (state_of parts) (port_at q i) ≡ parts.ports q i
  unfolding state_of word
  port-of q i h l =
      ap (λ j. get_or (joined 32 device ++ rest) j 0) (omega (arith, devices-long))
      ∙ get_or-append-add (joined 32 device) rest (port_words * q + i) 0
      ∙ get_or-append (joined 256 port) behind 0 (port_words * q + i) (omega (arith, ports-long))
      ∙ get_d-joined port_words port 256 port-long q i 0 h l
      ∙ get_d-table port_words (parts.ports q) i 0 l

  behind-word : (i : ℕ) → word (state_of parts) (ports_end + i) ≡ get_or behind i 0
  unfolding state_of word
  behind-word i =
      ap (λ j. get_or (joined 32 device ++ rest) j 0) (omega (arith, devices-long, ports-long))
      ∙ get_or-append-add (joined 32 device) rest (length (joined 256 port) + i) 0
      ∙ get_or-append-add (joined 256 port) behind i 0

  pub counter-of : (d : ℕ) → d < 32 → counter (state_of parts) d ≡ parts.counters d
  counter-of d h =
      behind-word d
      ∙ get_or-append (table 32 parts.counters) timed 0 d (omega (arith, length-table 32 parts.counters))
      ∙ get_d-table 32 parts.counters d 0 h

  timed-word : (i : ℕ) → word (state_of parts) (time_at i) ≡ get_or timed i 0
  timed-word i =
      ap (word (state_of parts)) {x = time_at i} {y = ports_end + (32 + i)} (omega arith)
      ∙ behind-word (32 + i)
      ∙ ap (λ j. get_or behind j 0) (omega (arith, length-table 32 parts.counters))
      ∙ get_or-append-add (table 32 parts.counters) timed i 0

  pub time-of : (q : ℕ) → q < 256 → time (state_of parts) q ≡ parts.times q
  time-of q h =
      timed-word q
      ∙ get_or-append (table 256 parts.times) (joined 256 dropped) 0 q (omega (arith, length-table 256 parts.times))
      ∙ get_d-table 256 parts.times q 0 h

  pub drops-of : (q kind : ℕ) → q < 256 → kind < 2 → drops (state_of parts) kind q ≡ parts.drops q kind
  drops-of q kind h l =
      ap (word (state_of parts)) {x = drops_at q kind} {y = time_at (256 + (2 * q + kind))} (omega arith)
      ∙ timed-word (256 + (2 * q + kind))
      ∙ ap (λ j. get_or timed j 0) (omega (arith, length-table 256 parts.times))
      ∙ get_or-append-add (table 256 parts.times) (joined 256 dropped) (2 * q + kind) 0
      ∙ get_d-joined 2 dropped 256 dropped-long q kind 0 h l
      ∙ get_d-table 2 (parts.drops q) kind 0 l

  -- behind the ports it is as another state
  pub behind-kept : (s : State) → length s ≡ words → ((d : ℕ) → d < 32 → parts.counters d ≡ counter s d) → ((q : ℕ) → q < 256 → parts.times q ≡ time s q)
      → ((q kind : ℕ) → q < 256 → kind < 2 → parts.drops q kind ≡ drops s kind q) → (i : ℕ) → ports_end ≤ i → word (state_of parts) i ≡ word s i
  behind-kept s long counters times counts =
      by-behind (λ i. word (state_of parts) i ≡ word s i) (λ d h. counter-of d h ∙ counters d h) (λ q h. time-of q h ∙ times q h)
      (λ q kind h l. drops-of q kind h l ∙ counts q kind h l)
      (λ i h. word-past (state_of parts) i (omega (arith, length-state)) ∙ sym (word-past s i (omega (arith, long))))

  -- a state with these parts
  module _ (s : State) (long : length s ≡ words) (registers : (d : ℕ) → d < 32 → register s d ≡ parts.registers d)
      (timers : (d k : ℕ) → d < 32 → k < 32 → timer s d k ≡ parts.timers d k)
      (ports : (q i : ℕ) → q < 256 → i < port_words → word s (port_at q i) ≡ parts.ports q i)
      (counters : (d : ℕ) → d < 32 → counter s d ≡ parts.counters d) (times : (q : ℕ) → q < 256 → time s q ≡ parts.times q)
      (counts : (q kind : ℕ) → q < 256 → kind < 2 → drops s kind q ≡ parts.drops q kind)
    where
      same : (i : ℕ) → word s i ≡ word (state_of parts) i
      same =
          by_place (λ i. word s i ≡ word (state_of parts) i) (λ d h. registers d h ∙ sym (register_of d h))
          (λ d k h l. timers d k h l ∙ sym (timer-of d k h l)) (λ q i h l. ports q i h l ∙ sym (port-of q i h l))
          (λ i h. sym (behind-kept s long (λ d l. sym (counters d l)) (λ q l. sym (times q l)) (λ q kind l m. sym (counts q kind l m)) i h))

      pub is_state : s ≡ state_of parts
      unfolding word
      is_state = ext_get_or 0 s (state_of parts) (long ∙ sym length-state) (λ i h. same i)

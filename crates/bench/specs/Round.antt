-- RULES, "Rounds": the next state, what is sent, and what hosts are told.
use Rattle.std.specs.Prelude.{Bool, true, false, cond, List, [], ◌∷◌, ◌++◌, ℕ, zero, suc, ◌+◌, ◌-◌, ◌*◌, ◌/◌, ◌%◌, eqb, ltb, get_or}
use Rattle.std.specs.Int.Bits.{bit_or}
use Rattle.lists.specs.Loop.{up_to}
use Rattle.lists.specs.Table.{table}
use Rattle.bits.specs.Set.{bit, leave}
use Rattle.bits.specs.First.{first_from, following}
use Rattle.std.specs.Prelude.{Option, Some, None}
use Rattle.codes.specs.Codes.{byte_of}
use Rattle.codes.specs.declared.Code.{Code}
use Rattle.codes.specs.declared.Code.TheVariants.{Time, Interrupt, Acknowledge, Reserved}
use Rattle.device.specs.Reaction.{reacts}
use Rattle.device.specs.declared.Action.{Action}
use Rattle.device.specs.declared.Action.TheVariants.{Named, LinkError, Ignored, Dropped, Forwarded, Told}
use Rattle.device.specs.declared.Side.{Side}
use Rattle.plan.specs.declared.Plan.{Plan}
use Rattle.state.specs.State.{State, put, register_at, timer_at, port_at, register, timer, waiting, next_at, next, running, counter_at, counter, time_at, time_waits, lately, drops_at, drops, most_drops}
use Rattle.state.specs.Network.{devices, router, peer, events, load_of}
use Rattle.state.specs.Queue.{queue_all_at, queue_time_all}

-- a state, and the words told so far
pub record World : Type 0 where
  pub state : State
  pub told : List ℕ

-- what a host is told of
abbrev pub of_interrupt : ℕ
of_interrupt = 1

abbrev pub of_acknowledge : ℕ
of_acknowledge = 2

abbrev pub of_timeout : ℕ
of_timeout = 3

abbrev pub of_time : ℕ
of_time = 4

-- a word told: the identifier, or the Time-Code's value, in its low byte, the device in the next, what it is about above them
abbrev pub told_word : ℕ → ℕ → ℕ → ℕ
told_word kind d k = 65536 * kind + 256 * d + k

-- ---- 1. timers: one that runs goes down by 1; where it comes to 0 its bit goes too, and a node tells its host

unfoldable pub fall : Bool → ℕ → ℕ → World → World
fall is_router d k w =
    elim (timer w.state d k) [
      | zero ↦ w
      | suc t ↦
          cond (eqb t 0)
          (record {
            state = put (put w.state (register_at d) (leave (register w.state d) k)) (timer_at d k) 0;
            told = cond is_router w.told (w.told ++ (told_word of_timeout d k ∷ []));
          })
          (record { state = put w.state (timer_at d k) t; told = w.told })
    ]

-- ---- 2. each port with anything waiting sends; what, is chosen from what waited, and what was sent last, in the old state

-- the first waiting identifier at or after next
unfoldable pub first_waits : State → ℕ → Option ℕ
first_waits old q = first_from (bit_or (waiting old 0 q) (waiting old 1 q)) (next old q)

-- whether a Time-Code goes: by its value plus 1, or 0; by whether the last code sent was one, 1 or 0; and by what else waits
unfoldable pub goes : ℕ → ℕ → Option ℕ → Bool
goes zero late other = false
goes (suc v) late None = true
goes (suc v) late (Some k) = eqb late 0

unfoldable pub time_goes : State → ℕ → Bool
time_goes old q = goes (time_waits old q) (lately old q) (first_waits old q)

-- the identifier that is sent: the first, where no Time-Code goes
unfoldable pub chosen : State → ℕ → Option ℕ
chosen old q = cond (time_goes old q) None (first_waits old q)

-- the word where no byte is sent
abbrev pub nothing : ℕ
nothing = 256

-- the word for what was chosen, by the interrupts that wait: the byte of an interrupt or of an acknowledge, or nothing
unfoldable pub sent_word : ℕ → Option ℕ → ℕ
sent_word interrupts (Some k) = cond (eqb (bit interrupts k) 1) (byte_of 0 k) (byte_of 1 k)
sent_word interrupts None = nothing

-- a Time-Code's byte is its value, of six bits
unfoldable pub sends : State → ℕ → ℕ
sends old q = cond (time_goes old q) ((time_waits old q - 1) % 64) (sent_word (waiting old 0 q) (chosen old q))

-- the identifier that is sent leaves its set, and next moves behind it; no identifier waits as both kinds, so to leave both sets is to leave its own
unfoldable pub unqueued : State → ℕ → State → State
unqueued old q s =
    elim (chosen old q) [
      | Some k ↦ put (put (put s (port_at q 0) (leave (waiting s 0 q) k)) (port_at q 1) (leave (waiting s 1 q) k)) (port_at q next_at) (following (next old q) (Some k))
      | None ↦ s
    ]

-- the port's word of Time-Codes: one went, and waits no more; another code went; or nothing did
unfoldable pub stamped : Bool → Option ℕ → ℕ → State → State
stamped time other q s =
    cond time (put s (time_at q) 128)
    (elim other [
      | Some k ↦ put s (time_at q) (time_waits s q)
      | None ↦ s
    ])

abbrev pub posts : State → ℕ → State → State
posts old q s = stamped (time_goes old q) (chosen old q) q (unqueued old q s)

-- ---- 3. codes arrive, and each device reacts

-- an accepted interrupt loads its timer, and an accepted acknowledge stops it
unfoldable pub timed : (ℕ → ℕ) → ℕ → Code → State → State
timed load d (Interrupt k) s = put s (timer_at d k) (load k)
timed load d (Acknowledge k) s = put s (timer_at d k) 0
timed load d (Time v) s = s
timed load d (Reserved top low) s = s

-- a forwarded code waits at every other port of the device
unfoldable pub forwarded : List ℕ → ℕ → Code → State → State
forwarded permissions q (Interrupt k) s = queue_all_at permissions 0 k (q / 8) q s
forwarded permissions q (Acknowledge k) s = queue_all_at permissions 1 k (q / 8) q s
forwarded permissions q (Time v) s = queue_time_all v (q / 8) q s
forwarded permissions q (Reserved top low) s = s

-- a count goes up by one, to the most that there can be
unfoldable pub one_more : ℕ → ℕ
one_more count = cond (ltb count most_drops) (count + 1) count

-- a code that port q drops is counted there, by its kind, and goes no further
unfoldable pub lost : ℕ → Code → State → State
lost q (Interrupt k) s = put s (drops_at q 0) (one_more (drops s 0 q))
lost q (Acknowledge k) s = put s (drops_at q 1) (one_more (drops s 1 q))
lost q (Time v) s = s
lost q (Reserved top low) s = s

-- what a host is told of a code
unfoldable pub tells : ℕ → Code → List ℕ
tells d (Interrupt k) = told_word of_interrupt d k ∷ []
tells d (Acknowledge k) = told_word of_acknowledge d k ∷ []
tells d (Time v) = told_word of_time d v ∷ []
tells d (Reserved top low) = []

-- port q's side of a reaction; what it bars stands at 2 x q + kind
abbrev pub side_at : Bool → List ℕ → List ℕ → ℕ → ℕ → State → Side
side_at is_router permissions barred events q s =
    record {
      router = is_router;
      running = eqb (running s q) 1;
      permissions = get_or permissions q 0;
      events = events;
      barred = get_or barred (2 * q) 0 ∷ get_or barred (2 * q + 1) 0 ∷ [];
    }

-- by a plan
abbrev pub side_of : Plan → ℕ → State → Side
side_of plan q s = side_at (router plan (q / 8)) plan.core.permissions plan.barred (events plan) q s

module _ (load : ℕ → ℕ) (permissions : List ℕ) (q : ℕ) where
  -- what becomes of the code
  unfoldable pub acted : Action → World → World
  acted (Forwarded code) w = record { state = forwarded permissions q code (timed load (q / 8) code w.state); told = w.told }
  acted (Told code) w = record { state = timed load (q / 8) code w.state; told = w.told ++ tells (q / 8) code }
  acted (Named code) w = w
  acted (LinkError code) w = w
  acted (Ignored code) w = w
  acted (Dropped code) w = record { state = lost q code w.state; told = w.told }

  -- a byte arrives at port q, and its device reacts
  unfoldable pub arrived : List ℕ → Bool → ℕ → ℕ → World → World
  arrived barred is_router events byte w =
      let r = reacts (side_at is_router permissions barred events q w.state) (register w.state (q / 8)) (counter w.state (q / 8)) byte in
      acted r.action (record { state = put (put w.state (counter_at (q / 8)) r.counter) (register_at (q / 8)) r.register; told = w.told })

-- ---- the round of a plan

-- the areas that a round fills: the next state, the bytes sent, the words told
pub record Areas : Type 0 where
  pub next : State
  pub sent : List ℕ
  pub told : List ℕ

abbrev pub areas : State → List ℕ → List ℕ → Areas
areas next sent told = record { next = next; sent = sent; told = told }

abbrev pub sent_words : ℕ
sent_words = 256

module _ (plan : Plan) where
  -- by device, then identifier
  unfoldable pub fallen : World → World
  fallen w = up_to (λ i. fall (router plan (i / 32)) (i / 32) (i % 32)) (32 * devices plan) w

  -- a word for each of 256 ports, at 8 x d + p the byte sent
  unfoldable pub sent_bytes : State → List ℕ
  sent_bytes old = table sent_words (λ q. cond (ltb q (8 * devices plan)) (sends old q) nothing)

  unfoldable pub posted : State → State → State
  posted old s = up_to (posts old) (8 * devices plan) s

  -- what the far end sent arrives at port q
  unfoldable pub arrives : List ℕ → ℕ → World → World
  arrives sent q w =
      let byte = get_or sent (peer plan q) nothing in
      cond (ltb byte nothing) (arrived (load_of plan (q / 8)) plan.core.permissions q plan.barred (router plan (q / 8)) (events plan) byte w) w

  -- by receiving device, then port
  unfoldable pub reached : List ℕ → World → World
  reached sent w = up_to (arrives sent) (8 * devices plan) w

  module _ (old : State) where
    abbrev pub after_timers : World
    after_timers = fallen (record { state = old; told = [] })

    abbrev pub after_sending : World
    after_sending = record { state = posted old after_timers.state; told = after_timers.told }

    abbrev pub after_arrivals : World
    after_arrivals = reached (sent_bytes old) after_sending

    unfoldable pub round : Areas
    round = record { next = after_arrivals.state; sent = sent_bytes old; told = after_arrivals.told }

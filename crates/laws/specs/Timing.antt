-- RULES, "Rounds" and "One device": which codes of an identifier a device accepts in a round, and how its timer falls.
use Rattle.std.specs.Prelude.{◌≡◌, Bool, true, false, ◌≢◌, ℕ, suc, ◌+◌, ◌*◌, ◌/◌, ◌≤◌, ◌<◌, get_or}
use mathlib.Core.List.{Memᴰ}
use Rattle.lists.specs.Loop.{up_to}
use Rattle.bits.specs.Set.{bit}
use Rattle.codes.specs.Codes.{byte_of}
use Rattle.device.specs.Reaction.{reacts}
use Rattle.device.specs.declared.Action.{Action}
use Rattle.device.specs.declared.Action.TheVariants.{Named, LinkError, Ignored, Dropped, Forwarded, Told}
use Rattle.plan.specs.declared.Plan.{Plan}
use Rattle.state.specs.State.{State, register, timer, counter}
use Rattle.state.specs.Network.{router, peer}
use Rattle.bench.specs.Round.{World, of_timeout, told_word, nothing, side_of, sent_bytes, arrives, after_sending}
use Rattle.bench.specs.Settling.{rounds}

-- a code is accepted where a router forwards it or a node tells its host
unfoldable pub accepts : Action → Bool
accepts (Forwarded code) = true
accepts (Told code) = true
accepts (Named code) = false
accepts (LinkError code) = false
accepts (Ignored code) = false
accepts (Dropped code) = false

-- what becomes of a byte that arrives at port q
abbrev pub action : Plan → ℕ → ℕ → State → Action
action plan q byte s = (reacts (side_of plan q s) (register s (q / 8)) (counter s (q / 8)) byte).action

-- ---- in the round from s

module _ (plan : Plan) (s : State) where
  -- when port q's turn to receive comes: timers and sending are done, and the ports before it have received
  abbrev pub before : ℕ → World
  before q = up_to (arrives plan (sent_bytes plan s)) q (after_sending plan s)

  -- what the far end of port q sends
  abbrev pub incoming : ℕ → ℕ
  incoming q = get_or (sent_bytes plan s) (peer plan q) nothing

  -- a code of a kind (0 interrupt, 1 acknowledge) and identifier k arrives at port q, and is accepted
  abbrev pub AcceptedAt : ℕ → ℕ → ℕ → Type 0
  AcceptedAt q kind k = (incoming q ≡ byte_of kind k) × (accepts (action plan q (incoming q) (before q).state) ≡ true)

  -- not at any port of device d
  abbrev pub NoneAccepted : ℕ → ℕ → ℕ → Type 0
  NoneAccepted d kind k = (p : ℕ) → p < 8 → AcceptedAt (8 * d + p) kind k → ⊥

  -- neither an interrupt nor an acknowledge of k
  abbrev pub Unaccepted : ℕ → ℕ → Type 0
  Unaccepted d k = NoneAccepted d 0 k × NoneAccepted d 1 k

  -- none is even sent to a port of device d
  abbrev pub Unsent : ℕ → ℕ → Type 0
  Unsent d k = (p kind : ℕ) → p < 8 → kind < 2 → incoming (8 * d + p) ≢ byte_of kind k

  -- an interrupt of k is accepted at a port of device d, and no acknowledge of k at the ports whose turn comes later
  pub record Loaded (d k : ℕ) : Type 0 where
    pub port : ℕ
    pub small : port < 8
    pub came : AcceptedAt (8 * d + port) 0 k
    pub stays : (p : ℕ) → port < p → p < 8 → AcceptedAt (8 * d + p) 1 k → ⊥

-- for T rounds from s on device d accepts no acknowledge of k, and in the last of them no interrupt of k. Of the rounds before it no more is
-- asked: an interrupt of k may come round, as in a ring, and finds the bit set
pub record Undisturbed (plan : Plan) (s : State) (d k T : ℕ) : Type 0 where
  pub kept : (i : ℕ) → i < T → NoneAccepted plan (rounds plan i s) d 1 k
  pub last : (i : ℕ) → suc i ≡ T → NoneAccepted plan (rounds plan i s) d 0 k

-- ---- how a timer falls

-- a timer is at t: while it runs its bit is set; where it is 0 the bit is cleared, and just then a node's timeout is told
pub record Fell (plan : Plan) (w : World) (d k t : ℕ) : Type 0 where
  pub now : timer w.state d k ≡ t
  pub runs : 1 ≤ t → bit (register w.state d) k ≡ 1
  pub ends : t ≡ 0 → bit (register w.state d) k ≡ 0
  pub tells : t ≡ 0 → router plan d ≡ false → Memᴰ (told_word of_timeout d k) w.told
  pub only : Memᴰ (told_word of_timeout d k) w.told → (t ≡ 0) × (router plan d ≡ false)

-- RULES, "One device": the reaction to a byte (000, 2.2 l, o and w, 2.3.2 d and e, 2.3.3 e and f; 002 on what a port bars).
use Rattle.std.specs.Prelude.{Bool, cond, ◌||◌, ℕ, ◌+◌, ◌%◌, eqb, get_or}
use Rattle.bits.specs.Set.{bit, join, leave}
use Rattle.codes.specs.Codes.{reads}
use Rattle.codes.specs.declared.Code.{Code}
use Rattle.codes.specs.declared.Code.TheVariants.{Time, Interrupt, Acknowledge, Reserved}
use Rattle.device.specs.Permissions.{may_receive}
use Rattle.device.specs.declared.Action.{Action}
use Rattle.device.specs.declared.Action.TheVariants.{Named, LinkError, Ignored, Dropped, Forwarded, Told}
use Rattle.device.specs.declared.Reaction.{Reaction}
use Rattle.device.specs.declared.Side.{Side}

-- an interrupt (kind 0) sets the bit of its identifier, an acknowledge (kind 1) clears it; a number that is no kind changes nothing
unfoldable pub marked : ℕ → ℕ → ℕ → ℕ
marked kind register k = cond (eqb kind 0) (join register k) (cond (eqb kind 1) (leave register k) register)

-- register and counter stay
abbrev pub kept : ℕ → ℕ → Action → Reaction
kept register counter action = record { register = register; counter = counter; action = action }

-- the value of a Time-Code that follows upon a counter
abbrev pub next_time : ℕ → ℕ
next_time counter = (counter + 1) % 64

-- a router forwards a code, a node tells its host
abbrev pub passed_on : Bool → Code → Action
passed_on is_router code = cond is_router (Forwarded code) (Told code)

-- an interrupt (kind 0) is there for every identifier, an acknowledge for those that are no events
unfoldable pub is_used : ℕ → ℕ → ℕ → Bool
is_used events kind k = eqb kind 0 || eqb (bit events k) 0

-- what a port bars of codes of a kind, as a set: a router's port what it is given for the kind, and a node's nothing
unfoldable pub bars_of : Side → ℕ → ℕ
bars_of side kind = cond side.router (get_or side.barred kind 0) 0

-- a port's side: whether its device is a router, whether it runs, its permissions, what it is to bar, and the events
module _ (side : Side) (register counter : ℕ) where
  -- accepted: the bit changes, and the code is passed on
  abbrev pub accepted : ℕ → ℕ → Code → Reaction
  accepted kind k code = record { register = marked kind register k; counter = counter; action = passed_on side.router code }

  -- a code of a kind: a port not running, no permission, a bar, no such code for the identifier, then the bit, which an interrupt finds 0 and
  -- an acknowledge 1
  unfoldable pub ruled : ℕ → ℕ → Code → Reaction
  ruled kind k code =
      cond side.running
      (cond (may_receive kind side.permissions)
      (cond (eqb (bit (bars_of side kind) k) 0)
      (cond (is_used side.events kind k)
      (cond (eqb (bit register k) kind) (accepted kind k code) (kept register counter (Ignored code)))
      (kept register counter (Ignored code)))
      (kept register counter (Dropped code)))
      (kept register counter (Ignored code)))
      (kept register counter (LinkError code))

  -- a Time-Code becomes the counter's value, and is passed on where that is one more than it was; the register stays
  unfoldable pub counted : ℕ → Reaction
  counted v = record { register = register; counter = v; action = cond (eqb v (next_time counter)) (passed_on side.router (Time v)) (Named (Time v)) }

  unfoldable pub reacts_to : Code → Reaction
  reacts_to (Time v) = counted v
  reacts_to (Reserved top low) = kept register counter (Named (Reserved top low))
  reacts_to (Interrupt k) = ruled 0 k (Interrupt k)
  reacts_to (Acknowledge k) = ruled 1 k (Acknowledge k)

  unfoldable pub reacts : ℕ → Reaction
  reacts byte = reacts_to (reads byte)

-- the number of what becomes of a code
abbrev pub action_of : Action → ℕ
action_of (Named code) = 0
action_of (LinkError code) = 1
action_of (Ignored code) = 2
action_of (Forwarded code) = 3
action_of (Told code) = 4
action_of (Dropped code) = 5

-- the code that it hands on
abbrev pub code_in : Action → Code
code_in (Named code) = code
code_in (LinkError code) = code
code_in (Ignored code) = code
code_in (Forwarded code) = code
code_in (Told code) = code
code_in (Dropped code) = code

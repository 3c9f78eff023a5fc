-- RULES, "Why": the ports that lead out of what a source reaches, and why nothing goes over each.
use Rattle.std.specs.Prelude.{◌≡◌, true, cond, List, [], ◌∷◌, ◌⊎◌, ℕ, zero, suc, ◌+◌, ◌/◌, ◌<◌, eqb, length, get_or, Result, MatchResult}
use Rattle.answers.specs.Ordered.{Condition, ask, Ordered, Tells}
use Rattle.bits.specs.Set.{bit}
use Rattle.device.specs.Permissions.{may_send, may_receive}
use Rattle.plan.specs.Fields.{nobody}
use Rattle.plan.specs.declared.Plan.{Plan}
use Rattle.state.specs.State.{State, running}
use Rattle.state.specs.Network.{router, peer, permissions, bars}
use Rattle.reach.specs.Walk.{Walk}
use Rattle.ways.specs.Calls.{way_asks}
use Rattle.ways.specs.declared.Cause.{Cause as Why}
use Rattle.ways.specs.declared.Cause.TheVariants.{Stopped, MayNotSend, MayNotReceive, DoesNotForward, Barred}
use Rattle.ways.specs.declared.UnknownCause.{UnknownCause}

-- the number of a cause
abbrev pub number_of : Why → ℕ
number_of Stopped = 1
number_of MayNotSend = 2
number_of MayNotReceive = 3
number_of DoesNotForward = 4
number_of Barred = 5

-- the cause that has the number, or the number itself where it is 0 or above 5 and no cause has it
abbrev pub Names : ℕ → Result Why UnknownCause → Type 0
Names n r = MatchResult r (λ cause. number_of cause ≡ n) (λ e. (e.0 ≡ n) × ((n ≡ 0) ⊎ (5 < n)))

-- how many of the first n are not 0
unfoldable pub marks : ℕ → (ℕ → ℕ) → ℕ
marks zero f = 0
marks (suc n) f = marks n f + cond (eqb (f n) 0) 0 1

-- interrupts of identifier k, from device d
module _ (plan : Plan) (s : State) (d k : ℕ) where
  -- port q is connected, its device is reached, and the device at its other end is not
  pub record Out (q : ℕ) : Type 0 where
    pub joined : peer plan q < nobody
    pub near : (n : ℕ) × Walk plan s 0 k d n (q / 8)
    pub beyond : (n : ℕ) → Walk plan s 0 k d n (peer plan q / 8) → ⊥

  -- what it takes to go over it, each with the number of its cause: stopped, may not send, may not receive, barred, does not forward. Numbers are
  -- names, and the order is that of the list
  abbrev pub go_asks : ℕ → List Condition
  go_asks q =
      ask 1 (running s q ≡ 1) ∷ ask 2 (may_send 0 (permissions plan q) ≡ true) ∷ ask 3 (may_receive 0 (permissions plan (peer plan q)) ≡ true)
      ∷ ask 5 (bit (bars plan 0 (peer plan q)) k ≡ 0) ∷ ask 4 ((q / 8 ≡ d) ⊎ (router plan (q / 8) ≡ true)) ∷ []

  -- the first that fails, at a port that leads out; 0 at any other
  pub data Cause (q : ℕ) : ℕ → Type 0 where
    inside : (Out q → ⊥) → Cause q 0
    out : {c : ℕ} → Out q → Ordered (go_asks q) c → Cause q c

  -- a word for each port, and how many lead out
  pub record AllCauses (value : ℕ) (causes : List ℕ) : Type 0 where
    pub size : length causes ≡ 256
    pub each : (q : ℕ) → q < 256 → Cause q (get_or causes q 0)
    pub many : value ≡ marks 256 (λ q. get_or causes q 0)

  -- the call; it is given no device, and asks of the source in its place
  abbrev pub TellsCut : List ℕ → ℕ → ℕ → List ℕ → Type 0
  TellsCut before = Tells (way_asks plan s (length before ≡ 256) d k d) AllCauses before

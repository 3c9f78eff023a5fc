-- RULES, "Guarding the edge": what a device sends that is barred at every port it leads to gets nowhere, and how many codes a port has dropped.
use Rattle.std.specs.Prelude.{◌≡◌, true, ◌≢◌, ℕ, ◌+◌, ◌*◌, ◌/◌, ◌<◌, min}
use Rattle.bits.specs.Set.{bit}
use Rattle.device.specs.Permissions.{may_receive}
use Rattle.plan.specs.Fields.{nobody}
use Rattle.plan.specs.Reading.{Held}
use Rattle.plan.specs.declared.Plan.{Plan}
use Rattle.state.specs.State.{State, register, waiting, drops, most_drops}
use Rattle.state.specs.Network.{devices, peer, permissions, bars}
use Rattle.state.specs.Sound.{Sound}
use Rattle.bench.specs.Round.{of_interrupt}
use Rattle.laws.specs.Alike.{SendsIt}
use Rattle.laws.specs.Events.{Step, host, tick, link, reset, round}
use Rattle.laws.specs.Telling.{told_in}
use Rattle.laws.specs.Timing.{NoneAccepted}
use Rattle.reach.specs.Walk.{Walk}

-- ---- a device that is fenced in, for codes of a kind (0 interrupts, 1 acknowledges) and an identifier k

-- wherever a port of device x leads to another device, they are barred
abbrev pub Fenced : Plan → ℕ → ℕ → ℕ → Type 0
Fenced plan x kind k =
    (p : ℕ) → p < 8 → peer plan (8 * x + p) < nobody → peer plan (8 * x + p) / 8 ≢ x → bit (bars plan kind (peer plan (8 * x + p))) k ≡ 1

-- a sound state in which none waits at any port of another device; and, of interrupts, no other device holds k
pub record Outside (plan : Plan) (x kind k : ℕ) (s : State) : Type 0 where
  pub sound : Sound plan s
  pub idle : (q : ℕ) → q < 256 → q / 8 ≢ x → bit (waiting s kind q) k ≡ 0
  pub unset : kind ≡ 0 → (e : ℕ) → e < devices plan → e ≢ x → bit (register s e) k ≡ 0

-- x does whatever it likes, be it what no call does: the state is any sound one in which other devices hold what they held and have waiting what they had
pub record Babbles (plan : Plan) (x : ℕ) (s t : State) : Type 0 where
  pub sound : Sound plan t
  pub registers : (e : ℕ) → e < devices plan → e ≢ x → register t e ≡ register s e
  pub waits : (kind q : ℕ) → kind < 2 → q < 256 → q / 8 ≢ x → waiting t kind q ≡ waiting s kind q

-- another device's host requests k, or acknowledges it, by the kind, and the call is taken
unfoldable pub Asks : (plan : Plan) (x kind k : ℕ) (s t : State) → Step plan s t → Type 0
Asks plan x kind k s t (host c e j number g call) = (c ≡ kind) × (e ≢ x) × (j ≡ k) × (number ≡ 0)
Asks plan x kind k s t (tick e number call) = ⊥
Asks plan x kind k s t (link e p runs number call) = ⊥
Asks plan x kind k s t (reset e number call) = ⊥
Asks plan x kind k s t round = ⊥

-- calls and rounds from s on, in any number and order, and between them whatever x likes; but nobody else asks for k
pub data Meanwhile (plan : Plan) (x kind k : ℕ) (s : State) : State → Type 0 where
  none : Meanwhile plan x kind k s s
  step : {t u : State} → Meanwhile plan x kind k s t → (step : Step plan t u) → (Asks plan x kind k t u step → ⊥) → Meanwhile plan x kind k s u
  fault : {t u : State} → Meanwhile plan x kind k s t → Babbles plan x t u → Meanwhile plan x kind k s u

-- then it is so for ever: and in no round does another device take such a code in, or is its host told of one
unfoldable pub Contained : Type 0
Contained =
    (plan : Plan) (x kind k : ℕ) (s t : State) → Held plan → kind < 2 → k < 32 → Fenced plan x kind k → Outside plan x kind k s → Meanwhile plan x kind k s t
    → Outside plan x kind k t × ((e : ℕ) → e < devices plan → e ≢ x → NoneAccepted plan t e kind k × (told_in plan (of_interrupt + kind) e k t ≡ 0))

-- and reach says the same: such codes go from x to x alone
unfoldable pub ReachesItself : Type 0
ReachesItself = (plan : Plan) (x kind k : ℕ) (s : State) → Fenced plan x kind k → (n e : ℕ) → Walk plan s kind k x n e → e ≡ x

-- ---- how many codes of a kind a port has dropped

-- a reset of the device of port q is taken
unfoldable pub Restarts : (plan : Plan) (q : ℕ) (s t : State) → Step plan s t → Type 0
Restarts plan q s t (reset e number call) = (e ≡ q / 8) × (number ≡ 0)
Restarts plan q s t (host kind e j number g call) = ⊥
Restarts plan q s t (tick e number call) = ⊥
Restarts plan q s t (link e p runs number call) = ⊥
Restarts plan q s t round = ⊥

module _ (plan : Plan) (kind q : ℕ) where
  -- port q drops one in the round from s: its other end sends it, it may receive codes of the kind, and it bars this one
  pub record Drops (s : State) : Type 0 where
    pub identifier : ℕ
    pub small : identifier < 32
    pub sent : SendsIt plan identifier s kind (peer plan q)
    pub may : may_receive kind (permissions plan q) ≡ true
    pub barred : bit (bars plan kind q) identifier ≡ 1

  -- it is a round in which the port drops one
  unfoldable pub Counts : (s t : State) → Step plan s t → Type 0
  Counts s t round = Drops s
  Counts s t (host kind e j number g call) = ⊥
  Counts s t (tick e number call) = ⊥
  Counts s t (link e p runs number call) = ⊥
  Counts s t (reset e number call) = ⊥

  -- calls and rounds from s on, without such a reset, and so many of the rounds drop one
  pub data Dropped (s : State) : ℕ → State → Type 0 where
    none : Dropped s 0 s
    one : {n : ℕ} {t u : State} → Dropped s n t → (step : Step plan t u) → Counts t u step → Dropped s (1 + n) u
    rest : {n : ℕ} {t u : State} → Dropped s n t → (step : Step plan t u) → (Restarts plan q t u step → ⊥) → (Counts t u step → ⊥) → Dropped s n u

-- the count goes up to the most and stays there
abbrev pub up_to_most : ℕ → ℕ
up_to_most n = min n most_drops

-- each of them is counted, and nothing else
unfoldable pub EachCounted : Type 0
EachCounted =
    (plan : Plan) (kind q n : ℕ) (s t : State) → Held plan → Sound plan s → kind < 2 → q < 256 → Dropped plan kind q s n t
    → drops t kind q ≡ up_to_most (drops s kind q + n)

-- a reset of its device clears the count, and nothing else makes it fall
unfoldable pub OnlyResets : Type 0
OnlyResets =
    (plan : Plan) (kind q : ℕ) (s t : State) (step : Step plan s t) → Held plan → Sound plan s → kind < 2 → q < 256
    → (Restarts plan q s t step → drops t kind q ≡ 0) × (drops t kind q < drops s kind q → Restarts plan q s t step)

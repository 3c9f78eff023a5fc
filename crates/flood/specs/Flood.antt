-- RULES, "How a code spreads": what is asked of a network and of its rounds, for one code, and what it comes to.
use Rattle.std.specs.Prelude.{◌≡◌, ◌⊎◌, ℕ, suc, ◌+◌, ◌*◌, ◌≤◌, ◌<◌}

-- where the code can go: sent from port q it gets into device e where q leads to e, and a device that it gets into hands it on if
-- it passes codes
pub record Net : Type 1 where
  pub Device : Type 0
  pub Port : Type 0
  pub owner : Port → Device
  pub leads : Port → Device → Type 0
  pub passes : Device → Type 0
  pub source : Device

-- what is seen of the code at one moment: who holds it, where it waits, and how often it may still be passed over there
pub record Sight (N : Net) : Type 1 where
  pub holds : N.Device → Type 0
  pub waits : N.Port → Type 0
  pub rank : N.Port → ℕ

-- ---- crossings

-- the devices that send the code: the source, and those that hand it on
abbrev pub Relays : (N : Net) → N.Device → Type 0
Relays N d = (d ≡ N.source) ⊎ N.passes d

-- d is n crossings away from the source
pub data Crossed (N : Net) : ℕ → N.Device → Type 0 where
  here : Crossed N 0 N.source
  cross : {n : ℕ} {e : N.Device} (q : N.Port) → Crossed N n (N.owner q) → Relays N (N.owner q) → N.leads q e → Crossed N (suc n) e

-- no device that is reached at all needs more than D crossings
pub record Within (N : Net) (D : ℕ) : Type 0 where
  pub shorter : {n : ℕ} {d : N.Device} → Crossed N n d → (m : ℕ) × (m ≤ D) × Crossed N m d

-- ---- the laws

-- at the start the source alone holds the code, and it waits at the source's ports and nowhere else
pub record Start (N : Net) (a : Sight N) : Type 0 where
  pub source-holds : a.holds N.source
  pub alone : {d : N.Device} → a.holds d → d ≡ N.source
  pub waits_there : {q : N.Port} → a.waits q → N.owner q ≡ N.source
  pub waits-all : {q : N.Port} {e : N.Device} → N.owner q ≡ N.source → N.leads q e → a.waits q ⊎ a.holds e

-- a round and the calls after it lead from sight a to sight b; where `sends q`, port q sends the code in it
pub record Step (N : Net) (W : ℕ) (a : Sight N) (sends : N.Port → Type 0) (b : Sight N) : Type 0 where
  -- a device that holds the code goes on holding it
  pub keeps : {d : N.Device} → a.holds d → b.holds d
  -- what is sent was waiting
  pub waited : {q : N.Port} → sends q → a.waits q
  -- a waiting code is passed over fewer than W times
  pub bounded : {q : N.Port} → a.waits q → a.rank q < W
  -- it is sent, or it waits on at a lower rank
  pub served : {q : N.Port} → a.waits q → sends q ⊎ (b.waits q × (b.rank q < a.rank q))
  -- what is sent gets into the device that the port leads to
  pub arrives : {q : N.Port} {e : N.Device} → sends q → N.leads q e → b.holds e
  -- a device begins to hold only by an arrival
  pub begins : {e : N.Device} → b.holds e → a.holds e ⊎ ((q : N.Port) × sends q × N.leads q e)
  -- a code waits because it waited and was not sent, or because its device has just begun to hold it and passes codes
  pub waiting : {q : N.Port} → b.waits q
      → (a.waits q × (sends q → ⊥)) ⊎ ((a.holds (N.owner q) → ⊥) × b.holds (N.owner q) × N.passes (N.owner q))
  -- a device that begins to hold and passes codes has it waiting at each port that leads anywhere, but where the far end sent it
  pub relayed : {q : N.Port} {e : N.Device} → b.holds (N.owner q) → N.passes (N.owner q) → N.leads q e
      → a.holds (N.owner q) ⊎ (b.waits q ⊎ ((p : N.Port) × sends p × (N.owner p ≡ e)))

-- some rounds: `at t` is the sight after t of them, and `sends t` what the next one sends
pub record Run (N : Net) (W last : ℕ) (at : ℕ → Sight N) (sends : ℕ → N.Port → Type 0) : Type 0 where
  pub start : Start N (at 0)
  pub step : (t : ℕ) → t < last → Step N W (at t) (sends t) (at (suc t))

-- ---- what it comes to

pub record Flooded (N : Net) (W last D : ℕ) (at : ℕ → Sight N) (sends : ℕ → N.Port → Type 0) : Type 0 where
  -- a device n crossings away holds the code from the end of round W x n on
  pub reached : {n : ℕ} {d : N.Device} → Crossed N n d → (t : ℕ) → W * n ≤ t → t ≤ last → (at t).holds d
  -- none out of reach holds it, and nobody sooner than a round for each crossing
  pub only : (t : ℕ) → t ≤ last → {d : N.Device} → (at t).holds d → (n : ℕ) × (n ≤ t) × Crossed N n d
  -- no port sends it twice
  pub once : {q : N.Port} (t u : ℕ) → t < u → u < last → sends t q → sends u q → ⊥
  -- wherever it waits nowhere, it has got to all devices that it can get to
  pub complete : (t : ℕ) → t ≤ last → ((q : N.Port) → (at t).waits q → ⊥) → {n : ℕ} {d : N.Device} → Crossed N n d → (at t).holds d
  -- after W x (D + 1) rounds it waits nowhere
  pub done : (t : ℕ) → W * (D + 1) ≤ t → t ≤ last → {q : N.Port} → (at t).waits q → ⊥

-- No rules: how the code says what a round does. It has a state, an area into which words are told as far as there is room, and how many were told.
use Rattle.std.specs.Prelude.{◌≡◌, List, ◌++◌, ℕ, ◌+◌, ◌≤◌, cond, ltb, length, take, drop, Option, Some, None}
use Rattle.plan.specs.declared.Plan.{Plan}
use Rattle.state.specs.State.{State}
use Rattle.bench.specs.Round.{World, of_interrupt, of_acknowledge, of_timeout, of_time, nothing, round}
use Rattle.bench.specs.declared.rounds.About.{About}
use Rattle.bench.specs.declared.rounds.About.TheVariants.{Interrupt, Acknowledge, Timeout, Time}
use Rattle.bench.specs.declared.rounds.Told.{Told}

-- what a host is told of, by its number
abbrev pub about : About → ℕ
about Interrupt = of_interrupt
about Acknowledge = of_acknowledge
about Timeout = of_timeout
about Time = of_time

-- the byte that a port sent
abbrev pub byte_in : ℕ → Option ℕ
byte_in word = cond (ltb word nothing) (Some word) None

-- the words told, as far as there is room, over what stood there before
unfoldable pub shown : List ℕ → List ℕ → List ℕ
shown before words = take (length before) words ++ drop (length words) before

-- these words were told: behind whatever the area and the count show, they now show these, in the same area
pub record Notes (words : List ℕ) (told after : Told) : Type 0 where
  pub notes : (before l : List ℕ) → told.area.now ≡ shown before l → told.count ≡ length l
      → (after.area.now ≡ shown before (l ++ words)) × (after.count ≡ length (l ++ words))
  pub more : after.count ≡ told.count + length words
  pub same : after.area.ghost_name ≡ told.area.ghost_name

-- what the code has in hand
pub record Seen : Type 0 where
  pub state : State
  pub area : List ℕ
  pub count : ℕ

abbrev pub seen : State → List ℕ → ℕ → Seen
seen state area count = record { state = state; area = area; count = count }

-- it shows a world of the rules, over what the area held before
pub record Shows (before : List ℕ) (w : World) (x : Seen) : Type 0 where
  pub state : x.state ≡ w.state
  pub area : x.area ≡ shown before w.told
  pub count : x.count ≡ length w.told

-- the code led from x to y as the rule leads from world to world
pub record Follows (rule : World → World) (x y : Seen) : Type 0 where
  pub follows : (before : List ℕ) (w : World) → Shows before w x → Shows before (rule w) y

-- so from a state and the words told; at most so many words more were told, into the same area
pub record Leads (rule : World → World) (most : ℕ) (s : State) (told : Told) (t : State) (after : Told) : Type 0 where
  pub follows : Follows rule (seen s told.area.now told.count) (seen t after.area.now after.count)
  pub more : after.count ≤ told.count + most
  pub same : after.area.ghost_name ≡ told.area.ghost_name

-- a round was played: the next state, the bytes sent, and the words told over what the area held before
pub record Played (plan : Plan) (old : State) (before : List ℕ) (next : State) (sent told : List ℕ) (count : ℕ) : Type 0 where
  pub state : next ≡ (round plan old).next
  pub bytes : sent ≡ (round plan old).sent
  pub words : told ≡ shown before (round plan old).told
  pub number : count ≡ length (round plan old).told

-- No rules: what private functions promise. Nothing here has to be believed.
use Rattle.std.specs.Prelude.{◌≡◌, Result, Ok, Err, List, [], ◌∷◌, ◌++◌, ℕ, ◌<◌, length, get_or}
use Rattle.answers.specs.Ordered.{Ordered}
use Rattle.answers.specs.Refusals.{number_of}
use Rattle.answers.specs.declared.Refusal.{Refusal}
use Rattle.lists.specs.Table.{joined}
use Rattle.text.specs.Inner.Within.{WritesWithin}
use Rattle.text.specs.Text.{ascii, headed, joint}
use Rattle.text.specs.declared.page.Page.{Page}
use Rattle.plan.specs.declared.Plan.{Plan}
use Rattle.state.specs.State.{State, words}
use Rattle.state.specs.Network.{peer_in}
use Rattle.ways.specs.Cut.{AllCauses}
use Rattle.reasons.specs.Why.{outward, Explains, why_asks, longest}

-- ---- lines

-- the lines of some ports, by the peers of a plan
unfoldable pub joints : List (List ℕ) → List ℕ → List ℕ
joints peers [] = []
joints peers (q ∷ rest) = joint q (peer_in peers q) ++ joints peers rest

-- a port and the one at its other end, by the peers of a plan, are numbers of ports
abbrev pub Joined : List (List ℕ) → ℕ → Type 0
Joined peers q = (q < 256) × (peer_in peers q < 256)

-- the lines of the ports that have a cause
abbrev pub outwards : ℕ → List ℕ → List ℕ
outwards n causes = joined n (λ q. outward q (get_or causes q 0))

-- no crossing's line is longer than `31 7 31 7` and its end
abbrev pub longest_crossing : ℕ
longest_crossing = 10

-- no line of a cause is longer than `31 7 does-not-forward` and its end, nor the line `cut 256`
abbrev pub longest_outward : ℕ
longest_outward = 22

abbrev pub longest_cut : ℕ
longest_cut = 8

-- nor is `reached 31` and its end
abbrev pub longest_reached : ℕ
longest_reached = 11

-- ---- texts

-- the ports that lead out, with their causes
pub data CutText (plan : Plan) (s : State) (d k : ℕ) : List ℕ → Type 0 where
  cut-text : {n : ℕ} {causes : List ℕ} → AllCauses plan s d k n causes → CutText plan s d k (headed (ascii "cut ") n ++ outwards 256 causes)

-- some such text was put
pub record WritesSome (Right : List ℕ → Type 0) (page after : Page) : Type 0 where
  pub text : List ℕ
  pub right : Right text
  pub within : WritesWithin longest text page after

-- what is said of a plan and a state, or the number of a refusal, which puts nothing
abbrev pub Answers : Plan → State → ℕ → ℕ → ℕ → Page → Result (Unit {0}) Refusal → Page → Type 0
Answers plan s d k e page (Ok v) after = Ordered (why_asks plan s d k e) 0 × WritesSome (Explains plan s d k e) page after
Answers plan s d k e page (Err r) after = Ordered (why_asks plan s d k e) (number_of r) × (after ≡ page)

-- ---- the state

-- the one that is due was taken, or what is due is none
abbrev pub Takes : State → Result (Unit {0}) Refusal → State → Type 0
Takes due (Ok v) after = after ≡ due
Takes due (Err r) after = (number_of r ≡ 2) × (length due ≡ words → ⊥)

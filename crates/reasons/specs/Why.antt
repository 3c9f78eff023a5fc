-- RULES, "What why prints": the whole text.
use Rattle.std.specs.Prelude.{◌≡◌, Bool, true, false, cond, Option, Some, None, List, [], ◌∷◌, ◌++◌, ℕ, ◌*◌, ◌/◌, ◌%◌, ◌≤◌, eqb, length, get_or}
use Rattle.std.specs.Borrow.{Bor}
use Rattle.answers.specs.Ordered.{Condition, ask, Ordered, Tells}
use Rattle.areas.specs.Put.{over}
use Rattle.lists.specs.Table.{table, joined}
use Rattle.text.specs.Text.{ascii, decimal, headed, bad}
use Rattle.plan.specs.Block.{number_at}
use Rattle.plan.specs.Refusals.{verdict}
use Rattle.plan.specs.Reading.{plan_of}
use Rattle.plan.specs.declared.Plan.{Plan}
use Rattle.state.specs.State.{State}
use Rattle.state.specs.Network.{peer}
use Rattle.state.specs.Sound.{state_asks}
use Rattle.state.specs.Start.{started}
use Rattle.ways.specs.Calls.{question_asks}
use Rattle.ways.specs.Chain.{Chain, Shown}
use Rattle.ways.specs.Cut.{AllCauses}

-- ---- lines

-- port q, as its device and its number there
unfoldable pub port : ℕ → List ℕ
port q = decimal (q / 8) ++ ascii " " ++ decimal (q % 8)

-- a crossing: the port, and the one at its other end
unfoldable pub crossing : Plan → ℕ → List ℕ
crossing plan q = port q ++ ascii " " ++ port (peer plan q) ++ ascii "\n"

unfoldable pub crossings_of : Plan → List ℕ → List ℕ
crossings_of plan [] = []
crossings_of plan (q ∷ rest) = crossing plan q ++ crossings_of plan rest

-- what the causes are called; the fifth is looked for before the fourth
unfoldable pub called : ℕ → List ℕ
called c =
    cond (eqb c 1) (ascii "stopped") (cond (eqb c 2) (ascii "may-not-send") (cond (eqb c 3) (ascii "may-not-receive")
    (cond (eqb c 5) (ascii "barred") (ascii "does-not-forward"))))

-- a port that leads out, and its cause; one that has none has no line
unfoldable pub outward : ℕ → ℕ → List ℕ
outward q c = cond (eqb c 0) [] (port q ++ ascii " " ++ called c ++ ascii "\n")

-- ---- the text

-- what is said of interrupts of identifier k, from device d to device e
pub data Explains (plan : Plan) (s : State) (d k e : ℕ) : List ℕ → Type 0 where
  reached : {ports : List ℕ} → Shown plan s k d e ports → Explains plan s d k e (headed (ascii "reached ") (length ports) ++ crossings_of plan ports)
  cut : {n : ℕ} {causes : List ℕ} → ((ports : List ℕ) → Chain plan s k d ports e → ⊥) → AllCauses plan s d k n causes
      → Explains plan s d k e (headed (ascii "cut ") n ++ joined 256 (λ q. outward q (get_or causes q 0)))

abbrev pub why_asks : Plan → State → ℕ → ℕ → ℕ → List Condition
why_asks plan s d k e = state_asks plan s ++ question_asks plan d k e

-- the state that a file's bytes hold, four for each word, the low one first; other bytes hold no word
unfoldable pub state_in : List ℕ → State
state_in bytes = cond (eqb (length bytes % 4) 0) (table (length bytes / 4) (λ i. number_at bytes (4 * i) 4)) []

-- whether the bytes of a state file are given, and these; none where none are
abbrev pub is_given : Option (Bor (List ℕ)) → Bool
is_given (Some bytes) = true
is_given None = false

abbrev pub bytes_of : Option (Bor (List ℕ)) → List ℕ
bytes_of (Some bytes) = bytes.now
bytes_of None = []

-- a state that is given, by its file's bytes, or the start state
abbrev pub state_for : Plan → Bool → List ℕ → State
state_for plan given bytes = cond given (state_in bytes) (started plan)

pub data Prints (file : List ℕ) (given : Bool) (bytes : List ℕ) (d k e : ℕ) : List ℕ → Type 0 where
  bad-file : ((verdict file).number ≡ 0 → ⊥) → Prints file given bytes d k e (bad (verdict file).number (verdict file).at)
  refused : {number : ℕ} → (verdict file).number ≡ 0 → Ordered (why_asks (plan_of file) (state_for (plan_of file) given bytes) d k e) number
      → (number ≡ 0 → ⊥) → Prints file given bytes d k e (headed (ascii "r") number)
  explained : {text : List ℕ} → (verdict file).number ≡ 0 → Ordered (why_asks (plan_of file) (state_for (plan_of file) given bytes) d k e) 0
      → Explains (plan_of file) (state_for (plan_of file) given bytes) d k e text → Prints file given bytes d k e text

-- ---- the call that makes it

-- no text is longer: `cut 256`, and 256 lines like `31 7 does-not-forward`
abbrev pub longest : ℕ
longest = 5640

-- done, the value is the length of the text, which stands in front of its area. Refused, nothing changes
abbrev pub TellsWhy : List ℕ → Bool → List ℕ → ℕ → ℕ → ℕ → List ℕ → ℕ → ℕ → List ℕ → Type 0
TellsWhy file given bytes d k e before =
    Tells (ask 3 (longest ≤ length before) ∷ [])
    (λ value after. (text : List ℕ) × Prints file given bytes d k e text × (value ≡ length text) × (after ≡ over text before)) before

-- RULES, "What settle prints": the whole text.
use Rattle.std.specs.Prelude.{◌≡◌, cond, List, [], ◌∷◌, ◌++◌, ℕ, suc, ◌*◌, ◌/◌, ◌%◌, ◌≤◌, eqb, length}
use Rattle.answers.specs.Ordered.{Condition, ask, Ordered}
use Rattle.areas.specs.Put.{over}
use Rattle.lists.specs.Table.{table}
use Rattle.bits.specs.Set.{bit}
use Rattle.text.specs.Text.{ascii, decimal, headed, bad}
use Rattle.plan.specs.Refusals.{verdict}
use Rattle.plan.specs.Reading.{plan_of}
use Rattle.plan.specs.declared.Plan.{Plan}
use Rattle.state.specs.State.{words, BothFit}
use Rattle.state.specs.Network.{devices, source}
use Rattle.bench.specs.Trials.{Tries}

-- what stands for n rounds, where the request is answered with a number; 12 says that something waits still
unfoldable pub field : ℕ → ℕ → List ℕ
field number n = cond (eqb number 0) (decimal n) (cond (eqb number 12) (ascii "-") (ascii "r" ++ decimal number))

-- device, identifier, rounds, devices then holding the bit
unfoldable pub line : ℕ → ℕ → ℕ → ℕ → ℕ → List ℕ
line d k number n held = decimal d ++ ascii " " ++ decimal k ++ ascii " " ++ field number n ++ ascii " " ++ decimal held ++ ascii "\n"

-- the lines of the first places, by device then identifier; place 32 x d + k has one if device d is a source of k
pub data Lines (plan : Plan) : ℕ → List ℕ → Type 0 where
  none : Lines plan 0 []
  pass : {i : ℕ} {text : List ℕ} → Lines plan i text → (bit (source plan (i / 32)) (i % 32) ≡ 1 → ⊥) → Lines plan (suc i) text
  more : {i number n held : ℕ} {text : List ℕ} → Lines plan i text → bit (source plan (i / 32)) (i % 32) ≡ 1
      → Tries plan (i / 32) (i % 32) number n held → Lines plan (suc i) (text ++ line (i / 32) (i % 32) number n held)

abbrev pub heading : ℕ → List ℕ
heading n = headed (ascii "network ") n

-- the text that is printed for a file
pub data Prints (file : List ℕ) : List ℕ → Type 0 where
  refused : ((verdict file).number ≡ 0 → ⊥) → Prints file (bad (verdict file).number (verdict file).at)
  network : {lines : List ℕ} → (verdict file).number ≡ 0 → Lines (plan_of file) (32 * devices (plan_of file)) lines
      → Prints file (heading (devices (plan_of file)) ++ lines)

-- ---- the call that makes it

-- the areas: two for states, and one for the text
pub record Areas : Type 0 where
  pub state : List ℕ
  pub second : List ℕ
  pub text : List ℕ

abbrev pub lent : List ℕ → List ℕ → List ℕ → Areas
lent state second text = record { state = state; second = second; text = text }

-- as long as a text can be: the first line, and 1,024 lines like `31 31 4096 32`
abbrev pub longest : ℕ
longest = 14347

-- their lengths are right
abbrev pub Fits : ℕ → ℕ → ℕ → Type 0
Fits state second text = BothFit state second × (longest ≤ text)

abbrev pub report_asks : Areas → List Condition
report_asks areas = ask 3 (Fits (length areas.state) (length areas.second) (length areas.text)) ∷ []

-- done, the value is the length of the text, which stands in front of its area; the other two are zeros. Refused, nothing changes
pub record Reports (file : List ℕ) (before : Areas) (number value : ℕ) (after : Areas) : Type 0 where
  pub answers : Ordered (report_asks before) number
  pub made : number ≡ 0
      → (text : List ℕ) × Prints file text × (value ≡ length text)
      × (after ≡ record { state = table words (λ i. 0); second = table words (λ i. 0); text = over text before.text })
  pub kept : (number ≡ 0 → ⊥) → (value ≡ 0) × (after ≡ before)

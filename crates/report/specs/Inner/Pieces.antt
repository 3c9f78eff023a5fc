-- No rules: what private functions promise. Nothing here has to be believed.
use Rattle.std.specs.Prelude.{List, ◌++◌, ℕ, ◌+◌, ◌*◌, ◌/◌, ◌%◌, get_or}
use Rattle.text.specs.Inner.Within.{WritesWithin}
use Rattle.text.specs.Text.{ascii, decimal}
use Rattle.text.specs.declared.page.Page.{Page}
use Rattle.plan.specs.declared.Plan.{Plan}
use Rattle.report.specs.Report.{field, line, Lines, Prints, longest}

-- the first three fields of a line
unfoldable pub front : ℕ → ℕ → ℕ → ℕ → List ℕ
front d k number n = decimal d ++ ascii " " ++ decimal k ++ ascii " " ++ field number n

-- the line of place i, by the table of what is found
abbrev pub line_at : List ℕ → ℕ → List ℕ
line_at found i = line (i / 32) (i % 32) (get_or found (3 * i) 0) (get_or found (3 * i + 1) 0) (get_or found (3 * i + 2) 0)

-- no line is longer than `31 31 4096 32` and its end
abbrev pub longest_line : ℕ
longest_line = 14

-- nor the lines of all 1,024 places
abbrev pub longest_lines : ℕ
longest_lines = 14336

-- what place i adds to the lines of the places before it was put, and is no longer than a line can be
pub record PutsPlace (plan : Plan) (i : ℕ) (page after : Page) : Type 0 where
  pub added : List ℕ
  pub right : (lines : List ℕ) → Lines plan i lines → Lines plan (i + 1) (lines ++ added)
  pub within : WritesWithin longest_line added page after

-- the lines of the first i places were put
pub record PutsLines (plan : Plan) (i : ℕ) (page after : Page) : Type 0 where
  pub lines : List ℕ
  pub right : Lines plan i lines
  pub within : WritesWithin (longest_line * i) lines page after

-- the whole text of a file was put
pub record PutsText (file : List ℕ) (page after : Page) : Type 0 where
  pub text : List ℕ
  pub right : Prints file text
  pub within : WritesWithin longest text page after

use mathlib.Core.Path.{◌≡◌}
use mathlib.Core.List.{◌++◌}
use Prim.Native.Nat.{ℕ, ◌+◌, ◌≤◌}
use native.Mathlib.Omega.{arith}
use lib.ListN.{length, length-append}
use Rattle.codes.specs.Codes.{reads}
use Rattle.codes.specs.declared.Code.{Code}
use Rattle.text.specs.Page.{Writes}
use Rattle.text.specs.Text.{ascii, decimal}
use Rattle.text.specs.declared.page.Page.{Page}
use Rattle.text.proofs.Pages.{as_long, goes_on, then}
use Rattle.listing.specs.Listing.{name, line}
use Rattle.listing.proofs.put_line.Goals as goal

-- the line's parts, each put where the one before it ends
module _
    (b : ℕ) {p o q : Page} {code : Code} (number : Writes (decimal b) p o) (space : Writes (ascii " ") o q) (is : code ≡ reads b)
    (room : p.at + length (line b) ≤ length p.area.now)
  where
    parts : length (line b) ≡ length (decimal b ++ ascii " ") + length (name code) + 1
    unfolding line ascii
    parts = rw is (simp length-append (omega arith))

    front : Writes (decimal b ++ ascii " ") p q
    front = then number (omega (arith, parts)) space

    name-room : q.at + length (name code) ≤ length q.area.now
    name-room = omega (arith, parts, as_long front, goes_on front (omega (arith, parts)))

    whole : {r s : Page} → Writes (name code) q r → Writes (ascii "\n") r s → Writes (line b) p s
    unfolding line
    whole second last =
        rw (← is)
        (then (then front (omega (arith, parts, length-append (decimal b ++ ascii " ") (name code))) second) (rw is room) last)

pub put_name-requires : goal.put_name-requires
unfolding ascii
put_name-requires c = name-room c.args.byte (rw c.from.ensures at c.number.ensures) c.word.ensures c.read.ensures c.requires

pub returns : goal.returns
unfolding ascii
returns c = whole c.args.byte (rw c.from.ensures at c.number.ensures) c.word.ensures c.read.ensures c.requires c.put_name.ensures c.word-2.ensures

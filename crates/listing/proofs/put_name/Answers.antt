use mathlib.Core.Path.{◌≡◌, ap}
use mathlib.Core.List.{List, ◌++◌}
use Prim.Native.Nat.{ℕ, ◌+◌, ◌≤◌}
use native.Mathlib.Omega.{arith}
use lib.ListN.{length, length-append}
use Rattle.codes.specs.declared.Code.TheVariants.{Reserved}
use Rattle.text.specs.Page.{Writes}
use Rattle.text.specs.Text.{ascii, decimal}
use Rattle.text.specs.declared.page.Page.{Page}
use Rattle.text.proofs.Pages.{as_long, goes_on, then}
use Rattle.listing.specs.Listing.{name}
use Rattle.listing.proofs.put_name.Goals as goal

-- what a reserved byte says: its two top bits, and its low six behind them
module _ (top low : ℕ) where
  size : length (name (Reserved top low)) ≡ length (ascii "reserved " ++ decimal top) + length (ascii " " ++ decimal low)
  unfolding name
  size = length-append (ascii "reserved " ++ decimal top) (ascii " " ++ decimal low)

  module _ {p q : Page} (first : Writes (ascii "reserved " ++ decimal top) p q) (room : p.at + length (name (Reserved top low)) ≤ length p.area.now) where
    second-room : q.at + length (ascii " " ++ decimal low) ≤ length q.area.now
    second-room = omega (arith, size, as_long first, goes_on first (omega (arith, size)))

    whole : {r : Page} → Writes (ascii " " ++ decimal low) q r → Writes (name (Reserved top low)) p r
    unfolding name
    whole second = then first room second

pub put_valued-requires : goal.put_valued-requires
unfolding name ascii
put_valued-requires c = omega (arith, ap (λ x. length (name x)) c.in-Time.is)

pub put_valued-requires-in-Interrupt : goal.put_valued-requires-in-Interrupt
unfolding name ascii
put_valued-requires-in-Interrupt c = omega (arith, ap (λ x. length (name x)) c.in-Interrupt.is)

pub put_valued-requires-in-Acknowledge : goal.put_valued-requires-in-Acknowledge
unfolding name ascii
put_valued-requires-in-Acknowledge c = omega (arith, ap (λ x. length (name x)) c.in-Acknowledge.is)

pub put_valued-requires-in-Reserved : goal.put_valued-requires-in-Reserved
unfolding ascii
put_valued-requires-in-Reserved c =
    let r = c.in-Reserved in
    omega (arith, size r.top r.low, ap (λ x. length (name x)) r.is)

pub put_valued-requires-in-Reserved-2 : goal.put_valued-requires-in-Reserved-2
unfolding ascii
put_valued-requires-in-Reserved-2 c =
    let r = c.in-Reserved in
    second-room r.top r.low c.put_valued-in-Reserved.ensures (rw r.is at c.requires)

pub returns-in-Time : goal.returns-in-Time
unfolding name ascii
returns-in-Time c = rw c.in-Time.is c.put_valued.ensures

pub returns-in-Interrupt : goal.returns-in-Interrupt
unfolding name ascii
returns-in-Interrupt c = rw c.in-Interrupt.is c.put_valued-in-Interrupt.ensures

pub returns-in-Acknowledge : goal.returns-in-Acknowledge
unfolding name ascii
returns-in-Acknowledge c = rw c.in-Acknowledge.is c.put_valued-in-Acknowledge.ensures

pub returns-in-Reserved : goal.returns-in-Reserved
unfolding ascii
returns-in-Reserved c =
    let r = c.in-Reserved in
    rw r.is (whole r.top r.low c.put_valued-in-Reserved.ensures (rw r.is at c.requires) c.put_valued-in-Reserved-2.ensures)

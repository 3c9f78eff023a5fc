-- What a caller wants to know of a page on which a piece was put.
use mathlib.Core.Path.{◌≡◌, ◌∙◌}
use mathlib.Core.List.{List, ◌++◌}
use Prim.Native.Nat.{ℕ, ◌+◌, ◌≤◌}
use lib.ListN.{length}
use Rattle.areas.specs.Put.{over}
use Rattle.areas.proofs.Puts.{joined, same_size, next_place}
use Rattle.text.specs.Page.{Writes}
use Rattle.text.specs.declared.page.Page.{Page}
use Rattle.text.proofs.Parts.{in-front, Three, three}

module _ {u : List ℕ} {p q : Page} (first : Writes u p q) where
  -- the page is as long as before
  pub as_long : length q.area.now ≡ length p.area.now
  as_long = same_size first.puts

  -- where it has room, it goes on behind the piece
  pub goes_on : p.at + length u ≤ length p.area.now → q.at ≡ p.at + length u
  goes_on = next_place first.puts

  -- two pieces put one after the other are the joined piece put
  pub then : {v : List ℕ} {r : Page} → p.at + length (u ++ v) ≤ length p.area.now → Writes v q r → Writes (u ++ v) p r
  then room second = record { puts = joined first.puts room second.puts; same = second.same ∙ first.same }

  -- on a page that goes on at its front it stands in front of the area, and the place behind it is its length
  pub at-front : p.at ≡ 0 → length u ≤ length p.area.now → (q.at ≡ length u) × (q.area.now ≡ over u p.area.now)
  at-front z room = in-front (rw z at first.puts) room

-- a text of three parts, each put where the one before it ends
pub three-parts : {whole a b c : List ℕ} → Three whole a b c → {p q r s : Page} → Writes a p q → p.at + length whole ≤ length p.area.now → Writes b q r → Writes c r s
    → Writes whole p s
three-parts parts x room y z = record { puts = three parts x.puts room y.puts z.puts; same = z.same ∙ y.same ∙ x.same }

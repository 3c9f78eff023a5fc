-- RULES, "Text": a page is a lent area and the place where its text goes on.
use Rattle.std.specs.Prelude.{◌≡◌, List, ℕ}
use Rattle.areas.specs.Put.{Puts}
use Rattle.text.specs.declared.page.Page.{Page}

-- the word was put where the text goes on, and it goes on behind the word, in the same area
pub record Writes (word : List ℕ) (page after : Page) : Type 0 where
  pub puts : Puts page.area.now page.at word after.area.now after.at
  pub same : after.area.ghost_name ≡ page.area.ghost_name

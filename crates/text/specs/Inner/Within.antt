-- No rules: what the contracts of private functions say, here and in crates that make texts. Nothing here has to be believed.
use Rattle.std.specs.Prelude.{List, ℕ, ◌≤◌, length}
use Rattle.areas.specs.Put.{Puts}
use Rattle.text.specs.Page.{Writes}
use Rattle.text.specs.declared.page.Page.{Page}

-- a word was put, and is no longer than so many bytes
pub record Within (most : ℕ) (before : List ℕ) (at : ℕ) (word after : List ℕ) (place : ℕ) : Type 0 where
  pub short : length word ≤ most
  pub put : Puts before at word after place

-- the same on a page
pub record WritesWithin (most : ℕ) (word : List ℕ) (page after : Page) : Type 0 where
  pub short : length word ≤ most
  pub writes : Writes word page after

-- RULES, "Areas": a word is put into an area whole, or not at all, and so an area is copied; and whether all words of one are 0, or short.
use Rattle.std.specs.Prelude.{◌≡◌, Bool, cond, List, ◌++◌, ℕ, ◌+◌, eqb, ltb, leb, length, get_or, take, drop}
use Rattle.lists.specs.Table.{every}

-- the area with the word at a place, if the whole word has room there
unfoldable pub put_at : List ℕ → ℕ → List ℕ → List ℕ
put_at area at word = cond (leb (at + length word) (length area)) (take at area ++ word ++ drop (at + length word) area) area

-- the place after the word; without room, the place itself
unfoldable pub place_after : List ℕ → ℕ → List ℕ → ℕ
place_after area at word = cond (leb (at + length word) (length area)) (at + length word) at

-- the word was put: the area after it, and the place after it
pub record Puts (area : List ℕ) (at : ℕ) (word after : List ℕ) (place : ℕ) : Type 0 where
  pub exit : after ≡ put_at area at word
  pub next : place ≡ place_after area at word

-- what was written stands in front, and behind it the area is as it was before
unfoldable pub over : List ℕ → List ℕ → List ℕ
over written before = written ++ drop (length written) before

-- an area is copied into one of its length; one of another length stays as it was
unfoldable pub copied : List ℕ → List ℕ → List ℕ
copied from to = cond (eqb (length to) (length from)) from to

-- every word of the area is 0
unfoldable pub all_zero : List ℕ → Bool
all_zero area = every (length area) (λ i. eqb (get_or area i 0) 0)

-- every word of the area has 16 bits
unfoldable pub all_short : List ℕ → Bool
all_short area = every (length area) (λ i. ltb (get_or area i 0) 65536)

-- Each public function's promise allows one result and one exit of the area.
use mathlib.Core.Path.{◌≡◌, refl, sym, ◌∙◌}
use mathlib.Core.List.{List}
use Prim.Native.Nat.{ℕ}
use Rattle.std.specs.Prelude.{Option}
use Rattle.areas.specs.Put.{Puts}
use Rattle.areas.proofs.Unique.{put-unique}
use Rattle.text.specs.Page.{Writes}
use Rattle.text.specs.declared.page.Page.{Page}
use Rattle.text.specs.Text.{Says, number, no_number}

-- the five that put something promise this, each of its own word
pub put-text-unique : (word : List ℕ) {area : List ℕ} {at : ℕ} {a b : List ℕ} {r s : ℕ}
    → Puts area at word a r → Puts area at word b s → (r ≡ s) × (a ≡ b)
put-text-unique word p q = put-unique p q

-- and the six of a page this: what its area holds, where its text goes on, and that it is the same area
pub write-page-unique : (word : List ℕ) {page a b : Page} → Writes word page a → Writes word page b
    → (a.at ≡ b.at) × (a.area.now ≡ b.area.now) × (a.area.ghost_name ≡ b.area.ghost_name)
write-page-unique word p q = let w = put-unique p.puts q.puts in (w.0, w.1, p.same ∙ sym q.same)

pub read-number-unique : {w : List ℕ} {a b : Option ℕ} → Says w a → Says w b → a ≡ b
read-number-unique (number d) (number e) = refl
read-number-unique (number d) (no_number n) = absurd (n d)
read-number-unique (no_number n) (number d) = absurd (n d)
read-number-unique (no_number n) (no_number o) = refl

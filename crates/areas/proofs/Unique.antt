-- Each public function's promise allows one result and one exit of the area.
use mathlib.Core.Path.{◌≡◌, sym, ◌∙◌}
use mathlib.Core.Bool.{Bool}
use mathlib.Core.List.{List}
use Prim.Native.Nat.{ℕ, ◌+◌}
use lib.Dec.{leb}
use lib.ListN.{length}
use Rattle.areas.specs.Put.{Puts, copied, all_zero, all_short}
use Rattle.lists.specs.Table.{table}

pub put-unique : {area : List ℕ} {at : ℕ} {word a b : List ℕ} {r s : ℕ} → Puts area at word a r → Puts area at word b s → (r ≡ s) × (a ≡ b)
put-unique p q = (p.next ∙ sym q.next, p.exit ∙ sym q.exit)

pub has-room-unique : (length at size : ℕ) (r s : Bool) → r ≡ leb (at + size) length → s ≡ leb (at + size) length → r ≡ s
has-room-unique length at size r s p q = p ∙ sym q

pub copy-unique : (src dst a b : List ℕ) → a ≡ copied src dst → b ≡ copied src dst → a ≡ b
copy-unique src dst a b p q = p ∙ sym q

pub fill-unique : (area : List ℕ) (value : ℕ) (a b : List ℕ) → a ≡ table (length area) (λ _. value) → b ≡ table (length area) (λ _. value) → a ≡ b
fill-unique area value a b p q = p ∙ sym q

pub zeros-unique : (area : List ℕ) (r s : Bool) → r ≡ all_zero area → s ≡ all_zero area → r ≡ s
zeros-unique area r s p q = p ∙ sym q

pub short-unique : (area : List ℕ) (r s : Bool) → r ≡ all_short area → s ≡ all_short area → r ≡ s
short-unique area r s p q = p ∙ sym q

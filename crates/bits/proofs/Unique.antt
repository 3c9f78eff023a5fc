-- Each public function's promise allows one result. That of `first` is `Firsts.first-unique`.
use mathlib.Core.Path.{◌≡◌, sym, ◌∙◌}
use Prim.Native.Nat.{ℕ}
use Rattle.bits.specs.Set.{bit, join, leave, size}

pub get-unique : (x k r s : ℕ) → r ≡ bit x k → s ≡ bit x k → r ≡ s
get-unique x k r s p q = p ∙ sym q

pub join-unique : (x k r s : ℕ) → r ≡ join x k → s ≡ join x k → r ≡ s
join-unique x k r s p q = p ∙ sym q

pub leave-unique : (x k r s : ℕ) → r ≡ leave x k → s ≡ leave x k → r ≡ s
leave-unique x k r s p q = p ∙ sym q

pub count-unique : (x r s : ℕ) → r ≡ size x → s ≡ size x → r ≡ s
count-unique x r s p q = p ∙ sym q

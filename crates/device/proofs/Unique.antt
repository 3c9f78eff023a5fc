-- Each public function's promise allows one result.
use mathlib.Core.Path.{◌≡◌, refl, sym, ap, ◌∙◌}
use mathlib.Core.Bool.{Bool}
use Prim.Native.Nat.{ℕ}
use native.Mathlib.Omega.{arith}
use Rattle.std.specs.Prelude.{Result, Ok, Err}
use Rattle.device.specs.Kinds.{kind_of, Names}
use Rattle.device.specs.Permissions.{may_send, may_receive}
use Rattle.device.specs.Reaction.{marked, next_time, is_used, reacts}
use Rattle.device.specs.declared.Kind.{Kind}
use Rattle.device.specs.declared.Kind.TheVariants.{Interrupt, Acknowledge}
use Rattle.device.specs.declared.Reaction.{Reaction}
use Rattle.device.specs.declared.Side.{Side}
use Rattle.device.specs.declared.UnknownKind.{UnknownKind}

pub kind-unique : (n : ℕ) (r s : Result Kind UnknownKind) → Names n r → Names n s → r ≡ s
kind-unique n (Ok Interrupt) (Ok Interrupt) p q = refl
kind-unique n (Ok Interrupt) (Ok Acknowledge) p q = absurd (omega arith)
kind-unique n (Ok Acknowledge) (Ok Interrupt) p q = absurd (omega arith)
kind-unique n (Ok Acknowledge) (Ok Acknowledge) p q = refl
kind-unique n (Ok Interrupt) (Err e) p q = absurd (omega arith)
kind-unique n (Ok Acknowledge) (Err e) p q = absurd (omega arith)
kind-unique n (Err e) (Ok Interrupt) p q = absurd (omega arith)
kind-unique n (Err e) (Ok Acknowledge) p q = absurd (omega arith)
kind-unique n (Err e) (Err f) p q = ap (λ (i : ℕ). Err (record { 0 = i })) (p.0 ∙ sym q.0)

pub kind-number-unique : (kind : Kind) (r s : ℕ) → r ≡ kind_of kind → s ≡ kind_of kind → r ≡ s
kind-number-unique kind r s p q = p ∙ sym q

pub may-send-unique : (kind permissions : ℕ) (r s : Bool) → r ≡ may_send kind permissions → s ≡ may_send kind permissions → r ≡ s
may-send-unique kind permissions r s p q = p ∙ sym q

pub may-receive-unique : (kind permissions : ℕ) (r s : Bool) → r ≡ may_receive kind permissions → s ≡ may_receive kind permissions → r ≡ s
may-receive-unique kind permissions r s p q = p ∙ sym q

pub marked-unique : (kind register k r s : ℕ) → r ≡ marked kind register k → s ≡ marked kind register k → r ≡ s
marked-unique kind register k r s p q = p ∙ sym q

pub next-time-unique : (counter r s : ℕ) → r ≡ next_time counter → s ≡ next_time counter → r ≡ s
next-time-unique counter r s p q = p ∙ sym q

pub is-used-unique : (events kind k : ℕ) (r s : Bool) → r ≡ is_used events kind k → s ≡ is_used events kind k → r ≡ s
is-used-unique events kind k r s p q = p ∙ sym q

pub react-unique : (side : Side) (register counter byte : ℕ) (r s : Reaction) → r ≡ reacts side register counter byte → s ≡ reacts side register counter byte → r ≡ s
react-unique side register counter byte r s p q = p ∙ sym q

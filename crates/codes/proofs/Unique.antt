-- Each public function's promise allows one result.
use mathlib.Core.Path.{◌≡◌, sym, ◌∙◌}
use Prim.Native.Nat.{ℕ}
use Rattle.std.specs.Prelude.{Result}
use Rattle.answers.specs.Refusals.{answer_of}
use Rattle.answers.specs.declared.Refusal.{Refusal}
use Rattle.answers.proofs.Refusals.{answer-once}
use Rattle.codes.specs.Codes.{reads, writes}
use Rattle.codes.specs.declared.Code.{Code}

pub read-unique : (byte : ℕ) (r s : Code) → r ≡ reads byte → s ≡ reads byte → r ≡ s
read-unique byte r s p q = p ∙ sym q

pub write-unique : (code : Code) (r s : Result ℕ Refusal) → answer_of r ≡ writes code → answer_of s ≡ writes code → r ≡ s
write-unique code r s p q = answer-once r s (p ∙ sym q)

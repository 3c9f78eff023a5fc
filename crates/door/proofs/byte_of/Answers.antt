use mathlib.Core.Path.{sym, ap, ◌∙◌}
use Rattle.codes.specs.Codes.{writes}
use Rattle.codes.proofs.Numbers.{any-top, no_byte}
use Rattle.door.proofs.Told.{handed_on}
use Rattle.door.proofs.byte_of.Goals as goal

pub returns-then-value-gt63 : goal.returns-then-value-gt63
returns-then-value-gt63 c top = sym (no_byte _ top _ c.if-value-gt63.true)

pub returns-in_err-byte : goal.returns-in_err-byte
returns-in_err-byte c top = handed_on _ _ c.from_residual.ensures ∙ c.in_err-byte.ensures ∙ ap writes c.code_of.ensures ∙ any-top _ 0 top _

pub returns : goal.returns
returns c top = rw c.from.ensures (c.in_ok-byte.ensures ∙ ap writes c.code_of.ensures ∙ any-top _ 0 top _)

use mathlib.Core.Path.{◌∙◌}
use Rattle.door.proofs.Told.{parts}
use Rattle.door.proofs.bench_for_header_code_write.Goals as goal

pub returns : goal.returns
returns c top =
    let told = c.number_and_value.ensures in
    rw (told.number, told.value) (parts c.byte_of.result ∙ c.byte_of.ensures top)

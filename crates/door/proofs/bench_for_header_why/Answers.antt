use Rattle.door.proofs.Told.{given_or_none}
use Rattle.door.proofs.bench_for_header_why.Goals as goal

pub returns : goal.returns
returns c =
    let told = c.number_and_value.ensures in
    rw (told.number, told.value) (given_or_none _ _ (rw c.then_some-bytes.ensures at c.why.ensures))

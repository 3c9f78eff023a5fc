use Rattle.std.proofs.Common.{refl}
use Rattle.bench.proofs.Idles.{filled}
use Rattle.bench.proofs.settling.Turns.end.Goals as goal

pub returns-clause-cleared : goal.returns-clause-cleared
returns-clause-cleared c = filled _ 0 refl

use Rattle.bench.proofs.Idles.{silent-played}
use Rattle.bench.proofs.settling.Turns.play.Goals as goal

pub returns-clause-mute : goal.returns-clause-mute
returns-clause-mute c = silent-played c.requires.1 c.play.ensures.bytes

use Rattle.bench.proofs.Idles.{brought}
use Rattle.bench.proofs.rounds.bring.Goals as goal

pub returns : goal.returns
returns c =
    brought c.requires.0 c.requires.1 c.requires.2 c.copy.ensures c.copy-2.ensures c.copy-3.ensures c.copy-4.ensures c.copy-5.ensures

use Rattle.planfile.proofs.WrittenBlocks.{header_made, clean}
use Rattle.planfile.proofs.header.made.Goals as goal

pub returns : goal.returns
returns c = header_made c.args.header.now clean c.put_common.ensures c.put_pairs.ensures c.seal.ensures

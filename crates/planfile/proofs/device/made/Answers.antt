use Rattle.planfile.proofs.WrittenBlocks.{device-made, clean}
use Rattle.planfile.proofs.device.made.Goals as goal

pub returns : goal.returns
returns c =
    device-made c.args.core.now c.args.peers.now c.args.barred.now c.args.device clean c.put_own.ensures c.put_entries.ensures c.put_bars.ensures c.seal.ensures

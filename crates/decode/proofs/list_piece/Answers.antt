use Rattle.std.proofs.Common.{arith}
use Rattle.listing.proofs.Unique.{all_listed}
use Rattle.decode.proofs.list_piece.Goals as goal

pub returns : goal.returns
returns c =
    let listed = c.list.ensures in
    rw (all_listed _ (λ i l. omega (arith, c.type_inv.piece i)) c.requires listed) at listed

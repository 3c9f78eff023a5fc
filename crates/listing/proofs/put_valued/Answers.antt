use Rattle.text.proofs.Pages.{then}
use Rattle.listing.proofs.put_valued.Goals as goal

pub returns : goal.returns
returns c = then c.word.ensures c.requires (rw c.from.ensures at c.number.ensures)

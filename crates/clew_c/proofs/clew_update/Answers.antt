use Rattle.clew_c.proofs.Told.{updated-is}
use Rattle.clew_c.proofs.clew_update.Goals as goal

pub returns : goal.returns
returns c = updated-is c.numbers_of.ensures (rw c.state_of.ensures at c.update-o.ensures)

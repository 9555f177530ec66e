use Rattle.clew_c.proofs.Told.{told_is}
use Rattle.clew_c.proofs.clew_change_rows.Goals as goal

pub returns : goal.returns
returns c = told_is c.numbers_of.ensures (rw c.state_of.ensures at c.change_rows-o.ensures)

use Rattle.clew_c.proofs.Told.{read_is}
use Rattle.clew_c.proofs.clew_read.Goals as goal

pub returns : goal.returns
returns c = read_is (rw c.state_of.ensures at c.read.ensures)

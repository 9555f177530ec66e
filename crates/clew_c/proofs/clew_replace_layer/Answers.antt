use Rattle.clew_c.proofs.Told.{replaced-is}
use Rattle.clew_c.proofs.clew_replace_layer.Goals as goal

pub returns : goal.returns
returns c = replaced-is c.numbers_of.ensures (rw c.state_of.ensures at c.replace_layer-o.ensures)

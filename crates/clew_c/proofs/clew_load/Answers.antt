use Rattle.clew_c.proofs.Told.{told_is}
use Rattle.clew_c.proofs.clew_load.Goals as goal

pub returns : goal.returns
returns c = told_is c.numbers_of.ensures c.load-o.ensures

use Rattle.std.proofs.Common.{ap}
use Rattle.clew_c.specs.Flat.{sizes_told}
use Rattle.clew_c.proofs.clew_sizes.Goals as goal

pub returns : goal.returns
returns c = ap sizes_told c.sizes-z.ensures

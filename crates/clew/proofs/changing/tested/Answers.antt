-- `clew::changing::tested` meets its contract.
use Rattle.std.proofs.Common.{refl, arith}
use Rattle.clew.proofs.Entered.{entered}
use Rattle.clew.proofs.changing.tested.Goals as goal

pub rows_fault-requires : goal.rows_fault-requires
rows_fault-requires c = (entered _ _ _ _ (c.in_ok-network.ensures.fault, c.in_ok-network.ensures.network) refl).can.taken.shapes 0 (omega arith)

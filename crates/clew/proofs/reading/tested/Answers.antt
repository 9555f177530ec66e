-- `clew::reading::tested` meets its contract.
use Rattle.std.proofs.Common.{refl}
use native.Mathlib.Nat.{le_refl}
use Rattle.clew.proofs.Entered.{entered}
use Rattle.clew.proofs.reading.tested.Goals as goal

pub slice_fault-requires : goal.slice_fault-requires
slice_fault-requires c =
    let t = (entered _ _ _ _ (c.in_ok-network.ensures.fault, c.in_ok-network.ensures.network) refl).can.taken in
    (t.count-few, t.shapes _ (le_refl _))

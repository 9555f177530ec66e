-- `clew::replacing::tested` meets its contract.
use Rattle.std.proofs.Common.{refl, arith}
use Rattle.clew.proofs.Entered.{entered}
use Rattle.clew.proofs.Rooms.{layer_there, record-there}
use Rattle.clew.proofs.replacing.tested.Goals as goal

pub overflow_sub-number : goal.overflow_sub-number
overflow_sub-number c = (layer_there _ _ c.in_ok-layer_fault.ensures refl).0

pub layer-y-requires : goal.layer-y-requires
layer-y-requires c =
    let t = (entered _ _ _ _ (c.in_ok-network.ensures.fault, c.in_ok-network.ensures.network) refl).can.taken in
    omega (arith, layer_there _ _ c.in_ok-layer_fault.ensures refl, t.count-few)

pub replace_fault-requires : goal.replace_fault-requires
replace_fault-requires c =
    let e = entered _ _ _ _ (c.in_ok-network.ensures.fault, c.in_ok-network.ensures.network) refl in
    let needs = record-there e.can (layer_there _ _ c.in_ok-layer_fault.ensures refl).1 c.layer-y.ensures in
    record { good_shape = needs.0; y_in_bounds = needs.1 }

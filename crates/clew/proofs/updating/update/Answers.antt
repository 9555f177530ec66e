-- `clew::updating::update` meets its contract.
use Rattle.std.proofs.Common.{ap, refl, arith}
use Rattle.fields.proofs.Refusals.{number_some}
use Rattle.bands.specs.State.{all_empty}
use Rattle.clew.specs.Calls.{outcome}
use Rattle.clew.proofs.Answers.{both, update-refused, update-done}
use Rattle.clew.proofs.Entered.{entered}
use Rattle.clew.proofs.updating.update.Goals as goal

pub recompute-requires : goal.recompute-requires
recompute-requires c =
    let e = entered _ _ _ _ (c.in-Ok.ensures.fault, c.in-Ok.ensures.network) refl in
    record { can_recompute = e.can; bands_within = λ t h. omega (arith, e.fair t h) }

pub returns-in-Ok : goal.returns-in-Ok
returns-in-Ok c =
    let a = c.args in
    both (update-done a.file.now a.sums.now a.area.now a.state (entered _ _ _ _ (c.in-Ok.ensures.fault, c.in-Ok.ensures.network) refl))
    (rw c.all_empty.ensures (ap (λ k. outcome 0 k all_empty) (omega (arith, c.recompute.ensures.value))))
    (rw c.recompute.ensures.area_after)

pub returns-in-Err : goal.returns-in-Err
returns-in-Err c =
    let a = c.args in
    both (update-refused a.file.now a.sums.now a.area.now a.state c.in-Err.ensures.fault (number_some c.in-Err.refusal)) (rw c.refused.ensures) refl

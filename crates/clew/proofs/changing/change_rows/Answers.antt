-- `clew::changing::change_rows` meets its contract.
use Rattle.std.proofs.Common.{ap, refl, arith, rules}
use Rattle.refusals.specs.Refusal.{refusal_number}
use Rattle.fields.proofs.Refusals.{number_some}
use Rattle.clew.specs.Calls.{outcome}
use Rattle.clew.proofs.Answers.{both, change-refused, change-done}
use Rattle.clew.proofs.Rooms.{change_fits}
use Rattle.clew.proofs.changing.change_rows.Goals as goal

pub overflow_mul-picture : goal.overflow_mul-picture
overflow_mul-picture c = omega (arith, (change_fits _ _ _ _ _ _ _ c.in-Ok.ensures.fault c.in-Ok.ensures.network).row-few)

pub overflow_mul-first : goal.overflow_mul-first
overflow_mul-first c = omega (arith, (change_fits _ _ _ _ _ _ _ c.in-Ok.ensures.fault c.in-Ok.ensures.network).start-few)

pub copy_in-requires : goal.copy_in-requires
copy_in-requires c = (change_fits _ _ _ _ _ _ _ c.in-Ok.ensures.fault c.in-Ok.ensures.network).inside

pub overflow_cast-first : goal.overflow_cast-first
overflow_cast-first c = omega (arith, (change_fits _ _ _ _ _ _ _ c.in-Ok.ensures.fault c.in-Ok.ensures.network).end-few)

pub overflow_add-first : goal.overflow_add-first
overflow_add-first c = omega (arith, (change_fits _ _ _ _ _ _ _ c.in-Ok.ensures.fault c.in-Ok.ensures.network).end-few)

pub overflow_cast-first-in-Ok : goal.overflow_cast-first-in-Ok
overflow_cast-first-in-Ok c = omega (arith, (change_fits _ _ _ _ _ _ _ c.in-Ok.ensures.fault c.in-Ok.ensures.network).end-few)

pub returns-in-Ok : goal.returns-in-Ok
returns-in-Ok c =
    let a = c.args in
    both (change-done a.file.now a.sums.now a.area.now a.state a.first a.count a.rows.now c.in-Ok.ensures.fault c.in-Ok.ensures.network)
    (rw (c.done.ensures, c.after_change.ensures))
    (rw c.copy_in.ensures)

pub returns-in-Err : goal.returns-in-Err
returns-in-Err c =
    let a = c.args in
    both (change-refused a.file.now a.sums.now a.area.now a.state a.first a.count a.rows.now c.in-Err.ensures.fault (number_some c.in-Err.refusal))
    (rw c.refused.ensures (ap (λ s. outcome (refusal_number c.in-Err.refusal) 0 s) (search rules)))
    refl

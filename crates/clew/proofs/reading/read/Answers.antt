-- `clew::reading::read` meets its contract.
use Rattle.std.proofs.Common.{refl, arith, rules}
use Rattle.fields.proofs.Refusals.{number_some}
use Rattle.clew.proofs.Answers.{both, read-refused, read_done, slice-read}
use Rattle.clew.proofs.Entered.{passed_on}
use Rattle.clew.proofs.Rooms.{read_fits}
use Rattle.clew.proofs.reading.read.Goals as goal

pub place-from-requires : goal.place-from-requires
place-from-requires c = (passed_on _ _ _ _ c.in-Ok.ensures.fault c.in-Ok.ensures.network).0.can.taken.count-few

pub overflow_add-from : goal.overflow_add-from
overflow_add-from c = omega (arith, (read_fits _ _ _ _ _ c.in-Ok.ensures.fault c.in-Ok.ensures.network c.place-from.ensures).2)

pub slice_bounds-copy_in-end : goal.slice_bounds-copy_in-end
slice_bounds-copy_in-end c = let fits = read_fits _ _ _ _ _ c.in-Ok.ensures.fault c.in-Ok.ensures.network c.place-from.ensures in search rules

pub returns-in-Ok : goal.returns-in-Ok
returns-in-Ok c =
    let a = c.args in
    let fits = read_fits _ _ _ _ _ c.in-Ok.ensures.fault c.in-Ok.ensures.network c.place-from.ensures in
    both (read_done a.file.now a.sums.now a.area.now a.state a.out.now c.in-Ok.ensures.fault c.in-Ok.ensures.network)
    (rw c.done.ensures)
    (rw (← (slice-read a.file.now a.sums.now a.area.now a.state a.out.now c.in-Ok.network fits.0 c.place-from.ensures fits.1), c.copy_in.ensures))

pub returns-in-Err : goal.returns-in-Err
returns-in-Err c =
    let a = c.args in
    both (read-refused a.file.now a.sums.now a.area.now a.state a.out.now c.in-Err.ensures.fault (number_some c.in-Err.refusal)) (rw c.refused.ensures) refl

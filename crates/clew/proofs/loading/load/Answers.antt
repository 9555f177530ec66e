-- `clew::loading::load` meets its contract.
use Rattle.std.proofs.Common.{sym, refl}
use Rattle.fields.proofs.Refusals.{number_some}
use Rattle.checks.proofs.Passed.{load_passed}
use Rattle.checks.proofs.Rows.{decoded_rows}
use Rattle.clew.proofs.Answers.{both, load-refused, load-done}
use Rattle.clew.proofs.loading.load.Goals as goal

pub fill_sums-requires : goal.fill_sums-requires
fill_sums-requires c =
    let p = load_passed _ _ _ (sym c.in-Ok.ensures.fault) in
    rw c.in-Ok.ensures.network (record { taken = p.taken; store_in_bounds = p.store_in })

pub tensors_of-requires : goal.tensors_of-requires
tensors_of-requires c = rw c.in-Ok.ensures.network (decoded_rows c.args.file.now)

pub returns-in-Ok : goal.returns-in-Ok
returns-in-Ok c =
    let a = c.args in
    both (load-done a.file.now a.sums.now a.area.now (c.in-Ok.ensures.fault, c.in-Ok.ensures.network) refl)
    (rw (← c.tensors_of.ensures, ← c.after_load.ensures, c.done.ensures))
    (rw c.fill_sums.ensures)

pub returns-in-Err : goal.returns-in-Err
returns-in-Err c =
    let a = c.args in
    both (load-refused a.file.now a.sums.now a.area.now c.in-Err.ensures.fault (number_some c.in-Err.refusal)) (rw (c.refused.ensures, c.all_stale.ensures)) refl

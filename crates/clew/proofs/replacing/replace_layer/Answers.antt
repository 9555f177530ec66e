-- `clew::replacing::replace_layer` meets its contract.
use Rattle.std.proofs.Common.{refl, arith}
use Rattle.fields.proofs.Refusals.{number_some}
use Rattle.clew.proofs.Answers.{all_three, replace-refused, replace-done}
use Rattle.clew.proofs.Rooms.{layer_fits}
use Rattle.clew.proofs.replacing.replace_layer.Goals as goal

pub copy_in-requires : goal.copy_in-requires
copy_in-requires c = (layer_fits _ _ _ _ c.args.number _ c.in-Ok.ensures.fault c.in-Ok.ensures.layer).start

pub put_sums-requires : goal.put_sums-requires
put_sums-requires c =
    let f = layer_fits _ _ _ _ c.args.number _ c.in-Ok.ensures.fault c.in-Ok.ensures.layer in
    rw c.copy_in.auto.dst (record { shape = f.good; weights = f.weights; file_few = f.file-few; terms_few = f.terms-few; room = f.room })

pub overflow_cast-y : goal.overflow_cast-y
overflow_cast-y c = omega (arith, (layer_fits _ _ _ _ c.args.number _ c.in-Ok.ensures.fault c.in-Ok.ensures.layer).output)

pub after_replace-requires : goal.after_replace-requires
after_replace-requires c = (layer_fits _ _ _ _ c.args.number _ c.in-Ok.ensures.fault c.in-Ok.ensures.layer).number-few

pub returns-in-Ok : goal.returns-in-Ok
returns-in-Ok c =
    let a = c.args in
    all_three (replace-done a.file.now a.sums.now a.area.now a.state a.number a.«record».now c.in-Ok.ensures.fault c.in-Ok.ensures.layer)
    (rw (← c.after_replace.ensures, c.done.ensures))
    (rw c.copy_in.ensures)
    (rw (← c.copy_in.ensures, c.put_sums.ensures))

pub returns-in-Err : goal.returns-in-Err
returns-in-Err c =
    let a = c.args in
    all_three (replace-refused a.file.now a.sums.now a.area.now a.state a.number a.«record».now c.in-Err.ensures.fault (number_some c.in-Err.refusal)) (rw c.refused.ensures) refl refl

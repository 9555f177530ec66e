-- `clew::sizing::sizes` meets its contract.
use Rattle.std.proofs.Common.{sym, ap, refl, rules, arith}
use Rattle.fields.proofs.Shapes.{small}
use Rattle.fields.proofs.Refusals.{number_some}
use Rattle.clew.proofs.Sized.{sizes_refused, sizes_taken, decoded_taken}
use Rattle.clew.proofs.sizing.sizes.Goals as goal

pub bytes-requires : goal.bytes-requires
bytes-requires c = small ((decoded_taken _ c.in-Ok.ensures refl).shapes 0 (search rules))

pub tensor-requires : goal.tensor-requires
tensor-requires c = omega (arith, (decoded_taken _ c.in-Ok.ensures refl).count-few)

pub bytes-requires-in-Ok : goal.bytes-requires-in-Ok
bytes-requires-in-Ok c = rw c.tensor.ensures (small ((decoded_taken _ c.in-Ok.ensures refl).shapes _ (omega arith)))

pub returns-in-Ok : goal.returns-in-Ok
returns-in-Ok c = rw (sizes_taken c.args.file.now c.in-Ok.ensures refl) (grind arith)

pub returns-in-Err : goal.returns-in-Err
returns-in-Err c = rw c.from.ensures (sym (sizes_refused c.args.file.now (ap (λ d. d.fault) c.in-Err.ensures) (number_some c.in-Err.refusal)))

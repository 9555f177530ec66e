-- `layers::outputs::Outputs::put_within` meets its contract: the window stands before the outputs, or after them.
use native.Mathlib.Nat.{zero-add}
use native.Mathlib.Omega.{arith}
use Rattle.lists.specs.Lists.{part}
use Rattle.lists.proofs.Pasted.{part-part}
use Rattle.lists.proofs.Laid.{cut_is}
use Rattle.layers.proofs.Lengths.{outputs_length}
use Rattle.layers.proofs.Filled.{pasted_rest, pasted_front}
use Rattle.layers.proofs.outputs.Outputs.put_within.Goals as goal

pub returns-then-from-n : goal.returns-then-from-n
returns-then-from-n c =
    let a = c.args in
    let d = a.area.now in
    let put = c.put_outputs.ensures in
    let s = c.split_at_mut-before.ensures in
    rw (put, s.front, s.back, cut_is, part-part d 0 a.at a.from a.n c.if-from-n.true, zero-add) (pasted_rest d a.at _)

pub returns-else-from-n : goal.returns-else-from-n
returns-else-from-n c =
    let a = c.args in
    let d = a.area.now in
    let put = c.put_outputs-else-from-n.ensures in
    let s = c.split_at_mut-before-else-from-n.ensures in
    rw (put, s.front, s.back) (pasted_front d a.from a.at _ (omega (arith, outputs_length a.self a.stored.file.now a.stored.sums.now (part d a.from a.n))))

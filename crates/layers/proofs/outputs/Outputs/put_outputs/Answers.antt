use native.Mathlib.Omega.{arith}
use Rattle.layers.specs.Outputs.{output_of, outputs_of}
use Rattle.layers.proofs.Filled.{filled}
use Rattle.layers.proofs.outputs.Outputs.put_outputs.Goals as goal

pub returns : goal.returns
unfolding outputs_of
returns c =
    let a = c.args in
    filled a.area.now 0 a.at a.self.count (output_of a.self a.stored.file.now a.stored.sums.now a.q.now) _
    c.requires.room c.loop-f.auto.byte-items (λ k g. c.loop-f.invariant k (omega arith))

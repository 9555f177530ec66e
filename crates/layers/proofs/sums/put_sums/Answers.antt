use mathlib.Core.Path.{ap, ◌∙◌}
use Prim.Native.Nat.{◌+◌, ◌*◌}
use native.Mathlib.Omega.{arith}
use Rattle.numbers.specs.Total.{sum}
use Rattle.lists.specs.Lists.{pasted, part}
use Rattle.layers.proofs.Filled.{filled}
use Rattle.layers.proofs.Weights.{sums-are}
use Rattle.layers.proofs.sums.put_sums.Goals as goal

pub returns : goal.returns
returns c =
    let y = c.args.y in
    let file = c.args.file.now in
    let sums = c.args.sums.now in
    let n = c.terms-n in
    let at = c.weights_at-weights in
    let count = c.sums-count in
    filled sums 0 y.sums count.result (λ f. sum (part file (at.result + f * n.result) n.result)) _
    (omega (arith, c.requires.room, count.ensures.0)) c.loop-f.auto.sum-items (λ k g. c.loop-f.invariant k (omega arith)) ∙
    ap (pasted sums y.sums) (sums-are y file n.ensures.0 count.ensures.0 at.ensures)

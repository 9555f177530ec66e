use mathlib.Core.Path.{refl, ◌∙◌, ap}
use native.Mathlib.Omega.{arith}
use Rattle.lists.specs.Lists.{pasted}
use Rattle.lists.proofs.Laid.{laid_none, laid_store, laid_done, joined_one}
use Rattle.lists.proofs.write.fill_in.Goals as goal

pub loop-i-init : goal.loop-i-init
loop-i-init c = laid_none _ _ _ _

pub loop-i-preserved : goal.loop-i-preserved
loop-i-preserved c =
    let a = c.args in
    laid_store a.n (λ k. a.z) a.dst.now a.at c.loop-i.i (omega arith) (omega arith) c.loop-i.invariant refl

pub returns : goal.returns
returns c =
    let a = c.args in
    laid_done _ _ _ _ c.loop-i.invariant (omega arith) ∙ ap (pasted a.dst.now a.at) (joined_one a.n a.z)

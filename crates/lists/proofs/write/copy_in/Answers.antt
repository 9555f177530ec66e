use mathlib.Core.Path.{refl, ◌∙◌, ap}
use native.Mathlib.Omega.{arith}
use lib.ListN.{length, get_or}
use Rattle.lists.specs.Lists.{pasted}
use Rattle.lists.proofs.Laid.{laid_none, laid_store, laid_done, joined_all}
use Rattle.lists.proofs.write.copy_in.Goals as goal

pub loop-i-init : goal.loop-i-init
loop-i-init c = laid_none _ _ _ _

pub loop-i-preserved : goal.loop-i-preserved
loop-i-preserved c =
    let a = c.args in
    laid_store (length a.src.now) (λ k. get_or a.src.now k 0) a.dst.now a.at c.loop-i.i (omega arith) (omega arith) c.loop-i.invariant refl

pub returns : goal.returns
returns c =
    let a = c.args in
    laid_done _ _ _ _ c.loop-i.invariant (omega arith) ∙ ap (pasted a.dst.now a.at) (joined_all a.src.now 0)

-- `layers::outputs::Outputs::output_at` meets its contract.
use mathlib.Core.Path.{◌∙◌}
use Prim.Native.Nat.{◌+◌, ◌*◌}
use borrow.Author.Rules.{sfits_of}
use lib.ListN.{length}
use mir.Syntax.{w32}
use mir.ValLaws.{to_z-of_z}
use Rattle.lists.proofs.Laid.{cut_is}
use Rattle.layers.proofs.Totals.{output-is}
use Rattle.layers.proofs.outputs.Outputs.output_at.Goals.{Start}
use Rattle.layers.proofs.outputs.Outputs.output_at.Goals as goal

pub returns : goal.returns
returns c =
    let a = c.args in
    let q = a.q.now in
    let bias = to_z-of_z w32 _ (sfits_of c.i32_at-bias.type_inv) ∙ c.i32_at-bias.ensures in
    output-is a.self a.stored.file.now a.stored.sums.now q a.f bias
    (cut_is a.stored.file.now (a.self.weights + a.f * length q) (length q)) c.output.ensures

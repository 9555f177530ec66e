-- `layers::conv::conv_place` meets its contract: the front of the patch is the window of the tensor that stands in the area.
use mathlib.Core.Path.{ap, ◌∙◌}
use mathlib.Core.List.{List}
use Prim.Native.Nat.{ℕ}
use Rattle.lists.specs.Lists.{pasted}
use Rattle.layers.specs.Outputs.{outputs_of}
use Rattle.layers.proofs.Convs.{patch_is}
use Rattle.layers.proofs.conv.conv_place.Goals as goal

pub returns : goal.returns
returns c =
    let a = c.args in
    c.put_outputs.ensures ∙
    ap (λ (q : List ℕ). pasted a.area.now a.at (outputs_of a.o a.stored.file.now a.stored.sums.now q))
    (patch_is a.w a.area.now a.patch.now a.from a.p a.q c.requires.tensor c.gather.ensures)

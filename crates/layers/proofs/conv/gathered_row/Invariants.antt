-- `layers::conv::gathered_row` meets its contract. The loop's invariant: j places of the row are laid from its place, apart from the tensor.
use mathlib.Core.Path.{◌≡◌}
use Prim.Native.Nat.{◌*◌}
use lib.ListN.{length}
use Rattle.lists.specs.Lists.{part}
use Rattle.windows.specs.Asked.{size_of}
use Rattle.windows.specs.Window.{window_of}
use Rattle.layers.specs.Outputs.{outputs_of}
use Rattle.lists.proofs.Laid.{Laid}
use Rattle.layers.proofs.conv.gathered_row.Given as goal

abbrev pub invariant-loop-j : goal.invariant-loop-j
invariant-loop-j l = record {
  laid : Laid l.j-end (λ k. outputs_of l.o l.stored.file.now l.stored.sums.now (window_of l.w (part l.initial.area l.source.from (size_of l.w)) (l.i * l.stride) (k * l.stride))) l.initial.area l.at l.area l.j;
  patch : length l.patch ≡ length l.initial.patch;
}

-- `layers::conv::plain_row` meets its contract. The loop's invariant: j places of the row are laid from its place, apart from the tensor.
use Prim.Native.Nat.{◌+◌, ◌*◌}
use Rattle.lists.specs.Lists.{part}
use Rattle.layers.specs.Outputs.{outputs_of}
use Rattle.lists.proofs.Laid.{Laid}
use Rattle.layers.proofs.conv.plain_row.Given as goal

abbrev pub invariant-loop-j : goal.invariant-loop-j
invariant-loop-j l =
    Laid l.j-end (λ k. outputs_of l.o l.stored.file.now l.stored.sums.now (part l.initial.area (l.start + k * l.n) l.n)) l.initial.area l.at l.area l.j

-- `layers::add::add_row` meets its contract. The loop's invariant: k bytes of the row are laid from its place, apart from both tensors.
use mathlib.Core.List.{[], ◌∷◌}
use Prim.Native.Nat.{◌+◌}
use lib.ListN.{get_or}
use Rattle.layers.specs.Add.{add_byte}
use Rattle.lists.proofs.Laid.{Laid}
use Rattle.layers.proofs.add.add_row.Given as goal

abbrev pub invariant-loop-k : goal.invariant-loop-k
invariant-loop-k l =
    Laid l.k-end (λ j. add_byte l.a l.first.zero l.second.zero (get_or l.initial.area (l.q + j) 0) (get_or l.initial.area (l.r + j) 0) ∷ []) l.initial.area l.at l.area l.k

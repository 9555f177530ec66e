-- `lists::write::copy_in` meets its contract. The loop's invariant: i of the elements are laid from the place.
use mathlib.Core.List.{[], ◌∷◌}
use lib.ListN.{length, get_or}
use Rattle.lists.proofs.Laid.{Laid}
use Rattle.lists.proofs.write.copy_in.Given as goal

abbrev pub invariant-loop-i : goal.invariant-loop-i
invariant-loop-i l = Laid (length l.src) (λ k. get_or l.src k 0 ∷ []) l.initial.dst l.at l.dst l.i

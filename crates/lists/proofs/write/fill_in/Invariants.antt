-- `lists::write::fill_in` meets its contract. The loop's invariant: i of the elements are laid from the place.
use mathlib.Core.List.{[], ◌∷◌}
use Rattle.lists.proofs.Laid.{Laid}
use Rattle.lists.proofs.write.fill_in.Given as goal

abbrev pub invariant-loop-i : goal.invariant-loop-i
invariant-loop-i l = Laid l.n (λ k. l.z ∷ []) l.initial.dst l.at l.dst l.i

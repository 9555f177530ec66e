-- `updates::fill::fill_sums` meets its contract. The loop's invariant: the sums of the first m layers are filled in.
use Rattle.updates.proofs.Fills.{Filled}
use Rattle.updates.proofs.fill.fill_sums.Given as goal

abbrev pub invariant-loop-m : goal.invariant-loop-m
invariant-loop-m l = Filled l.n l.file l.initial.sums l.sums l.m

-- `updates::recompute::recompute` meets its contract. The loop's invariant: the first m layers are recomputed.
use mathlib.Core.Path.{◌≡◌}
use lib.ListN.{length}
use Rattle.updates.proofs.Turns.{Sofar}
use Rattle.updates.proofs.recompute.recompute.Given as goal

abbrev pub invariant-loop-m : goal.invariant-loop-m
invariant-loop-m l = Sofar l.file l.n l.sums l.initial.state l.initial.area l.area l.state l.count l.m × (length l.patch ≡ 12544)

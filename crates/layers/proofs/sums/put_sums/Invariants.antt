-- `layers::sums::put_sums` meets its contract. The loop's invariant: each of the first f places has the sum of its weights.
use mathlib.Core.Path.{◌≡◌}
use Prim.Native.Nat.{ℕ, ◌+◌, ◌*◌, ◌<◌}
use lib.ListN.{get_or}
use Rattle.numbers.specs.Total.{sum}
use Rattle.lists.specs.Lists.{part}
use Rattle.layers.proofs.sums.put_sums.Given as goal

abbrev pub invariant-loop-f : goal.invariant-loop-f
invariant-loop-f l = (k : ℕ) → k < l.f → get_or l.sum-items k 0 ≡ sum (part l.file (l.weights + k * l.n) l.n)

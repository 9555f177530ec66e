-- `layers::outputs::Outputs::put_outputs` meets its contract. The loop's invariant: each of the first f places has its output.
use mathlib.Core.Path.{◌≡◌}
use Prim.Native.Nat.{ℕ, ◌<◌}
use lib.ListN.{get_or}
use Rattle.layers.specs.Outputs.{output_of}
use Rattle.layers.proofs.outputs.Outputs.put_outputs.Given as goal

abbrev pub invariant-loop-f : goal.invariant-loop-f
invariant-loop-f l = (k : ℕ) → k < l.f → get_or l.byte-items k 0 ≡ output_of l.self l.stored.file.now l.stored.sums.now l.q k

-- `fields::stored::bias_faults` meets its contract. The loop's invariant: the faults of the biases that are left are those of all.
use Rattle.std.proofs.Common.{◌≡◌, ◌+◌, ◌-◌, ◌*◌}
use Rattle.fields.specs.Stored.{bias_faults}
use Rattle.fields.proofs.stored.bias_faults.Given as goal

abbrev pub invariant-loop-f : goal.invariant-loop-f
invariant-loop-f l = bias_faults l.s (l.from + 4 * l.f) (l.count - l.f) ≡ bias_faults l.s l.from l.count

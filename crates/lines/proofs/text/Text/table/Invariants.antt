-- The loop's invariant: the lines of the first m layers stand after the picture's.
use Rattle.std.proofs.Common.{◌+◌, ◌*◌, ◌≤◌}
use Rattle.lists.specs.Lists.{joined}
use Rattle.lines.specs.Listing.{layer_line}
use Rattle.lines.specs.Text.{Adds}
use Rattle.lines.proofs.text.Text.table.Given as goal

abbrev pub invariant-loop-m : goal.invariant-loop-m
invariant-loop-m l = record {
  lines : Adds l.initial.self (joined l.m (layer_line l.network)) l.self;
  within : l.self.length ≤ l.initial.self.length + 45 * l.m;
}

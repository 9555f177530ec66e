-- `layers::row::put_rows` meets its contract. The loop's invariant: the rows up to the next one are laid from the first's place.
use mathlib.Core.Path.{◌≡◌}
use Prim.Native.Nat.{◌+◌, ◌*◌, ◌-◌, ◌≤◌}
use lib.ListN.{length}
use Rattle.fields.specs.Shape.{row_bytes}
use Rattle.lists.proofs.Laid.{Laid}
use Rattle.layers.proofs.Rows.{row_from}
use Rattle.layers.proofs.row.put_rows.Given as goal

abbrev pub invariant-loop-i : goal.invariant-loop-i
invariant-loop-i l = record {
  begun : l.fn.rows.start ≤ l.i-iterator.start;
  until : l.i-iterator.end ≡ l.fn.rows.end;
  laid :
      Laid (l.fn.rows.end - l.fn.rows.start)
      (λ k. row_from l.y l.first.zero l.second.zero l.stored.file.now l.stored.sums.now l.first.from l.second.from l.initial.area (l.fn.rows.start + k))
      l.initial.area (l.y.place + l.fn.rows.start * row_bytes l.y.output) l.area (l.i-iterator.start - l.fn.rows.start);
  patch : length l.patch ≡ length l.initial.patch;
}

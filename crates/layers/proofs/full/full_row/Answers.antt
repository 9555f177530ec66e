-- `layers::full::full_row` meets its contract.
use native.Mathlib.Omega.{arith}
use Rattle.layers.proofs.Rows.{full_bytes}
use Rattle.layers.proofs.full.full_row.Goals as goal

pub put_within-requires-clause-apart : goal.put_within-requires-clause-apart
put_within-requires-clause-apart c =
    rw (c.outputs_for-o.ensures, c.bytes.ensures, c.from.ensures)
    (rw (full_bytes c.args.y.output c.args.f c.requires.ready.output) at c.requires.placed.apart)

pub put_within-requires-clause-room : goal.put_within-requires-clause-room
put_within-requires-clause-room c =
    rw (c.outputs_for-o.ensures, c.from.ensures) (omega (arith, full_bytes c.args.y.output c.args.f c.requires.ready.output))

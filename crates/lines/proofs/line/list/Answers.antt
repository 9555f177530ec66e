-- A table, or one line with the refusal number.
use Rattle.std.proofs.Common.{refl, rules}
use Rattle.fields.proofs.Refusals.{number_some}
use Rattle.lines.proofs.Lines.{decoded_taken, taken_listed, refused_listed}
use Rattle.lines.proofs.line.list.Goals as goal

pub table-requires-clause-taken : goal.table-requires-clause-taken
table-requires-clause-taken c = decoded_taken _ c.in-Ok.ensures refl

pub returns-in-Ok-clause-written : goal.returns-in-Ok-clause-written
returns-in-Ok-clause-written c = taken_listed _ c.in-Ok.ensures refl refl c.table.ensures.written (search rules)

pub returns-in-Err-clause-written : goal.returns-in-Err-clause-written
returns-in-Err-clause-written c =
    refused_listed _ c.in-Err.ensures (number_some c.in-Err.refusal) refl c.refusal.ensures.written (search rules)

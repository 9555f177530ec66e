-- The nine texts of a line, one after another.
use Rattle.std.proofs.Common.{arith}
use Rattle.lines.proofs.Lines.{line_written}
use Rattle.lines.proofs.text.Text.line.Goals as goal

pub returns-clause-written : goal.returns-clause-written
returns-clause-written c =
    line_written c.args.tensor c.args.word.now c.args.shape c.args.sums (omega arith) c.bytes.ensures c.number.ensures c.word.ensures c.word-2.ensures
    c.column.ensures.written c.column-2.ensures.written c.column-3.ensures.written c.column-4.ensures.written
    c.column-5.ensures.written c.word-3.ensures

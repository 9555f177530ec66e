-- A space, and then a number after it.
use Rattle.std.proofs.Common.{[], ◌∷◌, arith}
use Rattle.lines.proofs.Texts.{adds_more}
use Rattle.lines.proofs.text.Text.column.Goals as goal

pub returns-clause-written : goal.returns-clause-written
returns-clause-written c = adds_more (0x20 ∷ []) _ (omega arith) c.word.ensures c.number.ensures

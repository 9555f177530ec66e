-- The three texts of the line of a refused file.
use Rattle.std.proofs.Common.{◌∷◌, arith}
use Rattle.refusals.specs.Refusal.{refusal_number}
use Rattle.lines.specs.Listing.{column}
use Rattle.lines.proofs.Texts.{adds_more}
use Rattle.lines.proofs.text.Text.refusal.Goals as goal

pub returns-clause-written : goal.returns-clause-written
returns-clause-written c =
    adds_more (0x72 ∷ 0x65 ∷ 0x66 ∷ 0x75 ∷ 0x73 ∷ 0x65 ∷ 0x64 ∷ column (refusal_number c.args.refusal)) _ (omega arith) (adds_more _ _ (omega arith) c.word.ensures (rw (c.from-2.ensures, c.from.ensures) at c.column.ensures.written)) c.word-2.ensures

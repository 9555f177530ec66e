-- `records::reader::fit_record` meets its contract: the tests that it makes are those left of the definition's.
use Rattle.std.proofs.Common.{arith}
use Rattle.fields.proofs.Refusals.{first_number, first_passed}
use Rattle.records.proofs.Answers.{answer_number, answer_none, read_fit}
use Rattle.records.proofs.Ranges.{own_ok}
use Rattle.records.proofs.reader.fit_record.Goals as goal

pub returns-in_err-suit_fault : goal.returns-in_err-suit_fault
returns-in_err-suit_fault c =
    rw (read_fit c.args.m c.args.kind c.args.s.now c.args.at c.args.b c.args.other c.requires.m_in_bounds c.requires.at_value.0)
    (grind (arith, first_number, answer_number))

pub output_shape-output-requires-clause-kind_ok : goal.output_shape-output-requires-clause-kind_ok
output_shape-output-requires-clause-kind_ok c = rw c.requires.at_value.1 (own_ok _ _ _ c.requires.at_value.0)

pub returns-in_err-size_fault : goal.returns-in_err-size_fault
returns-in_err-size_fault c =
    rw (read_fit c.args.m c.args.kind c.args.s.now c.args.at c.args.b c.args.other c.requires.m_in_bounds c.requires.at_value.0)
    (grind (arith, first_number, first_passed, answer_number))

pub returns-in_err-stored_fault : goal.returns-in_err-stored_fault
returns-in_err-stored_fault c =
    rw (read_fit c.args.m c.args.kind c.args.s.now c.args.at c.args.b c.args.other c.requires.m_in_bounds c.requires.at_value.0)
    (grind (arith, first_number, first_passed, answer_number))

pub returns : goal.returns
returns c =
    rw (read_fit c.args.m c.args.kind c.args.s.now c.args.at c.args.b c.args.other c.requires.m_in_bounds c.requires.at_value.0)
    (grind (arith, first_passed, answer_none))

-- `network::replace::replace_fault` meets its contract.
use Rattle.std.proofs.Common.{arith}
use Rattle.records.specs.Layer.{sums_of, terms_of}
use Rattle.fields.proofs.Refusals.{first_number, first_passed}
use Rattle.network.proofs.Replaced.{agreeing_in, biases_in_record, as_long, replace_parts, ok_none}
use Rattle.network.proofs.replace.replace_fault.Goals as goal

pub returns-in_err-unless : goal.returns-in_err-unless
returns-in_err-unless c = grind (arith, first_number, replace_parts)

pub agrees-requires : goal.agrees-requires
agrees-requires c =
    let y = c.args.y in
    omega (arith, as_long _ _ c.in_ok-unless.ensures, c.agreeing.ensures, c.record_len.ensures.0, agreeing_in y.mark (sums_of y.kind) (terms_of y.kind y.input))

pub returns-in_err-unless-2 : goal.returns-in_err-unless-2
returns-in_err-unless-2 c = grind (arith, first_number, first_passed, replace_parts)

pub record_fault-record-requires : goal.record_fault-record-requires
record_fault-record-requires c =
    let y = c.args.y in
    omega (arith, as_long _ _ c.in_ok-unless.ensures, c.sums.ensures.0, c.record_len.ensures.0, biases_in_record y.mark (sums_of y.kind) (terms_of y.kind y.input))

pub returns : goal.returns
returns c = grind (arith, first_passed, replace_parts, ok_none)

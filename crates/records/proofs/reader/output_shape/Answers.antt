-- `records::reader::output_shape` meets its contract.
use Rattle.records.proofs.Ranges.{suits_fit}
use Rattle.records.proofs.reader.output_shape.Goals as goal

pub output-requires-clause-frame_fits : goal.output-requires-clause-frame_fits
output-requires-clause-frame_fits c = suits_fit _ c.args.b c.args.other (rw c.in-Conv.is at c.requires.other_value)

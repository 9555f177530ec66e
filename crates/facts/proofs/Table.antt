-- The examples P1 to P12, by computing.
-- Assumes nothing.
use mathlib.Core.Path.{refl}
use Rattle.fields.specs.Bytes.{signed}
use Rattle.fields.specs.Faults.{first, within, bias_fault, clamp_fault, padding_fault, spare_fault, cut_fault}
use Rattle.records.specs.Mark.{is_mark, mark_at}
use Rattle.fields.specs.Shape.{bytes_of, size_fault}
use Rattle.fields.specs.Stored.{bias_faults, stored_len, stored_fault}
use Rattle.records.specs.Reader.{own_fault, suit_fault, answer, read_as}
use Rattle.records.specs.Frame.{fits, frame_output}
use Rattle.network.specs.Head.{picture_at, head_mark, head_fault}
use Rattle.network.specs.Decode.{read_layer, stopped, started, start_of, pushed, step_of, steps_of, end_fault, decoded_as, decode_of}
use Rattle.lists.specs.Lists.{pasted, joined}
use Rattle.windows.specs.Window.{cell_of, strip_of, window_of}
use Rattle.layers.specs.Outputs.{output_of, outputs_of}
use Rattle.layers.specs.Conv.{conv_row}
use Rattle.layers.specs.Add.{add_byte}
use Rattle.layers.specs.Sums.{layer_sums}
use Rattle.lists.specs.Choice.{every, some}
use Rattle.bands.specs.Band.{cover, span}
use Rattle.bands.specs.Reach.{is_reached, reached_band}
use Rattle.bands.specs.Grow.{grow_one, grown}
use Rattle.bands.specs.State.{state_fault, loaded}
use Rattle.checks.specs.Tests.{room_fault, layer_sums_fit, sums_fault, load_fault, call_fault, rows_fault}
use Rattle.updates.specs.Recompute.{redone, updated_to, bytes_in, count_to}
use Rattle.clew.specs.Calls.{load_of, change_of, update_of}
use Rattle.facts.specs.Table.{Table}

pub table : Table
unfolding signed first within bias_fault clamp_fault padding_fault spare_fault cut_fault is_mark mark_at bytes_of size_fault bias_faults stored_len
    stored_fault fits frame_output own_fault suit_fault answer read_as picture_at head_mark head_fault read_layer stopped started start_of pushed step_of
    steps_of end_fault decoded_as decode_of pasted joined cell_of strip_of window_of output_of outputs_of conv_row add_byte layer_sums every some cover span
    is_reached reached_band grow_one grown state_fault loaded room_fault layer_sums_fit sums_fault load_fault call_fault rows_fault
    redone updated_to bytes_in count_to load_of change_of update_of
table = record {
  P1 = refl;
  P2-totals = (refl, refl, refl);
  P2 = refl;
  P3-change = refl;
  P3 = refl;
  P4 = refl;
  P5 = refl;
  P6-taken = refl;
  P6 = refl;
  P7 = (refl, refl, refl, refl);
  P8 = (refl, refl, refl, refl);
  P9 = refl;
  P10 = refl;
  P11 = refl;
  P12 = (refl, refl, refl);
}

-- The two mornings, by computing; and that a day which goes so is a history.
-- Assumes nothing.
use Prim.Native.Nat.{ℕ}
use mathlib.Core.Path.{◌≡◌, refl, ap, subst}
use mathlib.Core.List.{List}
use lib.ListN.{length, take, replicate}
use Rattle.fields.specs.Bytes.{signed}
use Rattle.fields.specs.Faults.{first, within, bias_fault, clamp_fault, padding_fault, spare_fault, cut_fault}
use Rattle.fields.specs.Shape.{bytes_of, size_fault, same_shape}
use Rattle.fields.specs.Stored.{bias_faults, stored_len, stored_fault}
use Rattle.records.specs.Mark.{is_mark, mark_at}
use Rattle.records.specs.Frame.{fits, frame_output}
use Rattle.records.specs.Reader.{own_fault, suit_fault, answer, read_as}
use Rattle.network.specs.Head.{picture_at, head_mark, head_fault}
use Rattle.network.specs.Decode.{read_layer, stopped, started, start_of, pushed, step_of, steps_of, end_fault, decoded_as, decode_of}
use Rattle.network.specs.Replace.{agree, replace_fault}
use Rattle.lists.specs.Lists.{pasted, joined}
use Rattle.lists.specs.Choice.{every, some}
use Rattle.windows.specs.Window.{cell_of, strip_of, window_of}
use Rattle.layers.specs.Outputs.{output_of, outputs_of}
use Rattle.layers.specs.Conv.{conv_row}
use Rattle.layers.specs.Add.{add_byte, add_row}
use Rattle.layers.specs.Sums.{layer_sums}
use Rattle.bands.specs.Band.{cover, span}
use Rattle.bands.specs.Reach.{is_reached, reached_band}
use Rattle.bands.specs.Grow.{grow_one, grown}
use Rattle.bands.specs.declared.state.State.{State}
use Rattle.bands.specs.State.{all_empty, state_fault, clean, loaded}
use Rattle.checks.specs.Tests.{room_fault, layer_sums_fit, sums_fault, load_fault, call_fault, rows_fault, layer_fault, slice_fault, stale_fault}
use Rattle.updates.specs.Recompute.{redone, updated_to, bytes_in, count_to}
use Rattle.clew.specs.Calls.{outcome, load_of, change_of, replace_of, update_of, read_of}
use Rattle.clew.specs.declared.outcome.Outcome.{Outcome}
use Rattle.facts.specs.Fresh.{fresh_to, fresh_reading}
use Rattle.facts.specs.History.{System, after_load, with_area, with_file, with_state, Reached}
use Rattle.facts.specs.History.Call.{change, replace, update, read}
use Rattle.facts.specs.History.Reached.{begin, then}
use Rattle.facts.specs.Mornings.{Stage, Day, Worked, Plays, day_of_k, day_of_two, Mornings}
use Rattle.facts.proofs.Demand3.{loads_begin}

-- ---- a day is a history

-- the system that holds these
abbrev held : List ℕ → List ℕ → List ℕ → State → System
held file sums area s = record { file = file; sums = sums; area = area; state = s }

-- an update and a reading more
worked : {file sums : List ℕ} {g : Stage} → Worked file sums g → Reached (held file sums g.before g.bands) → Reached (held file sums g.after all_empty)
worked {file} {sums} {g} w r =
    let s = held file sums g.before g.bands in
    let updated = subst Reached (ap (with_area s) w.updated) (then update r) in
    subst Reached (ap (with_state (held file sums g.after all_empty)) w.read) (then (read (replicate (length g.reading) 0)) updated)

module _ (d : Day) where
  -- after the load
  begun : load_of d.file (replicate (length d.sums) 0) d.loaded.before ≡ (outcome 0 0 d.loaded.bands, d.sums)
      → Reached (held d.file d.sums d.loaded.before d.loaded.bands)
  begun e =
      subst Reached (ap (after_load d.file d.loaded.before) e)
      (begin (loads_begin d.file _ _ (ap (λ (x : Outcome × List ℕ). x.0.number) e)))

  -- the row changed, and the layer replaced
  changed : change_of d.file d.sums d.loaded.after all_empty d.at 1 d.row ≡ (outcome 0 0 d.changed.bands, d.changed.before)
      → Reached (held d.file d.sums d.loaded.after all_empty) → Reached (held d.file d.sums d.changed.before d.changed.bands)
  changed e r = subst Reached (ap (with_area (held d.file d.sums d.loaded.after all_empty)) e) (then (change d.at 1 d.row) r)

  exchanged : replace_of d.file d.sums d.changed.after all_empty d.layer d.new ≡ (outcome 0 0 d.replaced.bands, d.file', d.sums')
      → d.changed.after ≡ d.replaced.before
      → Reached (held d.file d.sums d.changed.after all_empty) → Reached (held d.file' d.sums' d.replaced.before d.replaced.bands)
  exchanged e f r =
      subst (λ area. Reached (held d.file' d.sums' area d.replaced.bands)) f
      (subst Reached (ap (with_file (held d.file d.sums d.changed.after all_empty)) e) (then (replace d.layer d.new) r))

  -- so the day is one
  day :
      (l : load_of d.file (replicate (length d.sums) 0) d.loaded.before ≡ (outcome 0 0 d.loaded.bands, d.sums))
      (w₁ : Worked d.file d.sums d.loaded)
      (c : change_of d.file d.sums d.loaded.after all_empty d.at 1 d.row ≡ (outcome 0 0 d.changed.bands, d.changed.before))
      (w₂ : Worked d.file d.sums d.changed)
      (r : replace_of d.file d.sums d.changed.after all_empty d.layer d.new ≡ (outcome 0 0 d.replaced.bands, d.file', d.sums'))
      (same : d.changed.after ≡ d.replaced.before)
      (w₃ : Worked d.file' d.sums' d.replaced)
      (f : fresh_reading d.file' (take d.picture d.replaced.after) ≡ d.replaced.reading)
      → Plays d
  day l w₁ c w₂ r same w₃ f = record {
    load = l;
    first = w₁;
    change = c;
    second = w₂;
    replace = r;
    third = w₃;
    fresh = f;
    reached = worked w₃ (exchanged r same (worked w₂ (changed c (worked w₁ (begun l)))));
  }

-- ---- the two days

pub mornings : Mornings
unfolding signed first within bias_fault clamp_fault padding_fault spare_fault cut_fault bytes_of size_fault same_shape bias_faults stored_len stored_fault
    is_mark mark_at fits frame_output own_fault suit_fault answer read_as picture_at head_mark head_fault read_layer stopped started start_of pushed step_of
    steps_of end_fault decoded_as decode_of agree replace_fault pasted joined every some cell_of strip_of window_of output_of outputs_of conv_row add_byte add_row
    layer_sums cover span is_reached reached_band grow_one grown state_fault clean loaded room_fault layer_sums_fit sums_fault load_fault call_fault rows_fault
    layer_fault slice_fault stale_fault redone updated_to bytes_in count_to load_of change_of replace_of update_of read_of fresh_to
mornings = record {
  one = day day_of_k refl (record { updated = refl; read = refl }) refl (record { updated = refl; read = refl }) refl refl
      (record { updated = refl; read = refl }) refl;
  two = day day_of_two refl (record { updated = refl; read = refl }) refl (record { updated = refl; read = refl }) refl refl
      (record { updated = refl; read = refl }) refl;
}

-- The frame of a windowed layer: its kernel, its stride and its padding.
-- Assumes nothing.
use Rattle.std.specs.Prelude.{ℕ, ◌+◌, ◌-◌, ◌*◌, ◌/◌, Bool, ◌&&◌, [], ◌∷◌, leb}
use Rattle.fields.specs.Faults.{first_fault, within, padding_fault}
use Rattle.fields.specs.declared.shape.Shape.{Shape}
use Rattle.records.specs.declared.frame.Frame.{Frame}

-- the fields in file order
abbrev pub frame_fields : Frame → ℕ
frame_fields f = first_fault (
    within 1 7 f.height ∷
    within 1 7 f.width ∷
    within 1 4 f.stride ∷
    padding_fault f.padding f.height f.width ∷ [])

-- each padded side is at least the kernel's
unfoldable pub fits : Frame → Shape → Bool
fits f i = leb f.height (i.rows + 2 * f.padding) && leb f.width (i.columns + 2 * f.padding)

-- a side of the output: floor((side + padding − kernel) / stride) + 1, with the padding of both ends
abbrev pub output_side : ℕ → ℕ → ℕ → ℕ → ℕ
output_side side padding kernel stride = (side + padding - kernel) / stride + 1

-- that many output rows, columns likewise, and so many channels
unfoldable pub frame_output : Frame → Shape → ℕ → Shape
frame_output f i channels = record {
  rows = output_side i.rows (2 * f.padding) f.height f.stride;
  columns = output_side i.columns (2 * f.padding) f.width f.stride;
  channels = channels;
}

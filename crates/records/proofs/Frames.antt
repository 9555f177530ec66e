-- A frame: what no fault of its fields says, and the shape that it makes.
-- Assumes nothing.
use Prim.Native.Nat.{ℕ, ◌+◌, ◌-◌, ◌*◌, ◌≤◌, ◌<◌}
use mathlib.Core.Path.{◌≡◌}
use mathlib.Core.Bool.{true, false}
use native.Mathlib.Omega.{arith}
use native.Mathlib.Nat.{div-le_self}
use borrow.Author.Tests.{le-leb, lt-leb, leb-true}
use lib.Dec.{leb}
use Rattle.fields.specs.Shape.{bytes_of}
use Rattle.fields.specs.Asked.{SmallShape, GoodShape}
use Rattle.fields.specs.declared.shape.Shape.{Shape}
use Rattle.fields.proofs.Tests.{first_both, and_both, within_in, padding_in}
use Rattle.fields.proofs.Shapes.{good_shape}
use Rattle.records.specs.Frame.{frame_fields, fits, frame_output}
use Rattle.records.specs.Asked.{FrameOk, FrameFits}
use Rattle.records.specs.declared.frame.Frame.{Frame}

pub frame_ok : (f : Frame) → frame_fields f ≡ 0 → FrameOk f
frame_ok f p =
    let a = first_both _ _ p in
    let b = first_both _ _ a.1 in
    let d = first_both _ _ b.1 in
    let height = within_in 1 7 f.height a.0 in
    let width = within_in 1 7 f.width b.0 in
    let stride = within_in 1 4 f.stride d.0 in
    let padding = padding_in f.padding f.height f.width d.1 in
    record {
      height-some = height.0;
      height-few = height.1;
      width_some = width.0;
      width_few = width.1;
      stride-some = stride.0;
      stride_few = stride.1;
      padding-rows = padding.0;
      padding-columns = padding.1;
    }

pub frame_fits : (f : Frame) (i : Shape) → fits f i ≡ true → FrameFits f i
unfolding fits
frame_fits f i p =
    let a = and_both _ _ p in
    record { rows_fit = leb-true _ _ a.0; columns-fit = leb-true _ _ a.1 }

-- the test of the rows decides, or that of the columns
pub fits_rows : (f : Frame) (i : Shape) → f.height ≤ i.rows + 2 * f.padding → leb f.width (i.columns + 2 * f.padding) ≡ fits f i
unfolding fits
fits_rows f i h = simp (le-leb _ _ h)

pub fits-none : (f : Frame) (i : Shape) → i.rows + 2 * f.padding < f.height → false ≡ fits f i
unfolding fits
fits-none f i h = simp (lt-leb _ _ h)

-- the output is small enough that its size can be worked out, and it is good where that size is
pub frame_small : (f : Frame) (i : Shape) (channels : ℕ) → FrameOk f → GoodShape i → channels ≤ 65536 → SmallShape (frame_output f i channels)
unfolding frame_output
frame_small f i channels ok g few = record {
  rows-small = omega (arith, div-le_self (i.rows + 2 * f.padding - f.height) f.stride);
  columns-small = omega (arith, div-le_self (i.columns + 2 * f.padding - f.width) f.stride);
  channels-small = few;
}

pub frame_good :
    (f : Frame) (i : Shape) (channels : ℕ) →
    1 ≤ channels →
    channels ≤ 256 →
    bytes_of (frame_output f i channels) ≤ 16384 →
    GoodShape (frame_output f i channels)
unfolding frame_output
frame_good f i channels some few b = good_shape _ (omega arith) (omega arith) some few b

-- The kinds of layer: what no fault of a record's own says of its parameters, and what an input that suits them has.
-- Assumes nothing.
use Prim.Native.Nat.{ℕ, ◌≤◌}
use mathlib.Core.Path.{◌≡◌}
use mathlib.Core.List.{List}
use native.Mathlib.Omega.{arith}
use borrow.Author.Tests.{leb-true}
use Rattle.fields.specs.Faults.{shift_fault, multiplier_fault}
use Rattle.fields.specs.Shape.{bytes_of}
use Rattle.fields.specs.Asked.{GoodShape}
use Rattle.fields.specs.declared.shape.Shape.{Shape}
use Rattle.fields.proofs.Tests.{first_both, unless-none, and_both, within_in, clamp_in}
use Rattle.fields.proofs.Shapes.{good_shape, same_equal}
use Rattle.records.specs.Mark.{fixed_len}
use Rattle.records.specs.Asked.{ScaleOk, WeighingOk, ConvOk, FullOk, AddOk, KindOk, KindFits}
use Rattle.records.specs.Weighing.{weighing_fields}
use Rattle.records.specs.Conv.{conv_at, conv_fields}
use Rattle.records.specs.Full.{full_at, full_fields}
use Rattle.records.specs.Add.{add_at, add_fields}
use Rattle.records.specs.Layer.{sums_of, output_shape}
use Rattle.records.specs.Reader.{kind_at, own_fault, suit_fault}
use Rattle.numbers.specs.declared.rescale.Scale.{Scale}
use Rattle.records.specs.declared.weighing.Weighing.{Weighing}
use Rattle.records.specs.declared.conv.Conv.{Conv as ConvParams}
use Rattle.records.specs.declared.full.Full.{Full as FullParams}
use Rattle.records.specs.declared.add.Add.{Add as AddParams}
use Rattle.records.specs.declared.layer.Kind.{Kind}
use Rattle.records.specs.declared.layer.Kind.TheVariants.{Conv, Full, Add}
use Rattle.records.specs.declared.mark.Mark.{Mark}
use Rattle.records.specs.declared.mark.Mark.TheVariants.{CV, FU, AD, Other}
use Rattle.records.specs.declared.reader.Before.{Before}
use Rattle.records.proofs.Frames.{frame_ok, frame_fits, frame_good}

-- a shift and a multiplier in their ranges
scale_ok : (s : Scale) → shift_fault s.shift ≡ 0 → multiplier_fault s.multiplier ≡ 0 → ScaleOk s
scale_ok s p q =
    let m = within_in 1073741824 2147483647 s.multiplier q in
    record { shift-few = (within_in 0 31 s.shift p).1; multiplier-some = m.0; multiplier-few = m.1 }

weighing_ok : (w : Weighing) → weighing_fields w ≡ 0 → WeighingOk w
weighing_ok w p =
    let a = first_both _ _ p in
    let b = first_both _ _ a.1 in
    record {
      clamp = clamp_in w.low w.high a.0;
      scale = scale_ok w.scale b.0 b.1;
    }

conv_ok : (c : ConvParams) → conv_fields c ≡ 0 → ConvOk c
conv_ok c p =
    let a = first_both _ _ p in
    let b = first_both _ _ a.1 in
    let filters = within_in 1 64 c.filters a.0 in
    record {
      filters-some = filters.0;
      filters-few = filters.1;
      frame = frame_ok c.frame b.0;
      weighing = weighing_ok c.weighing b.1;
    }

full_ok : (f : FullParams) → full_fields f ≡ 0 → FullOk f
full_ok f p =
    let a = first_both _ _ p in
    let outputs = within_in 1 256 f.outputs a.0 in
    record { outputs-some = outputs.0; outputs-few = outputs.1; weighing = weighing_ok f.weighing a.1 }

add_ok : (a : AddParams) → add_fields a ≡ 0 → AddOk a
add_ok a p =
    let b = first_both _ _ p in
    let d = first_both _ _ b.1 in
    let e = first_both _ _ d.1 in
    let f = first_both _ _ e.1 in
    let g = first_both _ _ f.1 in
    let h = first_both _ _ g.1 in
    record {
      clamp = clamp_in a.low a.high b.0;
      first = scale_ok a.first g.0 d.0;
      second = scale_ok a.second h.0 e.0;
      third = scale_ok a.third h.1 f.0;
    }

-- no fault of the record's own: its parameters are in their ranges
pub own_ok : (m : Mark) (s : List ℕ) (at : ℕ) → own_fault m s at ≡ 0 → KindOk (kind_at m s at)
unfolding own_fault
own_ok CV s at h = conv_ok (conv_at s at) h
own_ok FU s at h = full_ok (full_at s at) (first_both _ _ h).1
own_ok AD s at h = add_ok (add_at s at) (first_both _ _ h).1
own_ok Other s at h = absurd (omega arith)

-- a fixed part is short
pub fixed_few : (m : Mark) → fixed_len m ≤ 22
fixed_few CV = omega arith
fixed_few FU = omega arith
fixed_few AD = omega arith
fixed_few Other = omega arith

-- a layer has few sums
pub sums_few : (k : Kind) → KindOk k → sums_of k ≤ 256
sums_few (Conv c) ok = omega (arith, ok.filters-few)
sums_few (Full f) ok = ok.outputs-few
sums_few (Add a) ok = omega arith

-- what it makes is of a good shape where it is not too big
pub output_good : (k : Kind) (i : Shape) → KindOk k → GoodShape i → bytes_of (output_shape k i) ≤ 16384 → GoodShape (output_shape k i)
output_good (Conv c) i ok g b = frame_good c.frame i c.filters ok.filters-some (omega (arith, ok.filters-few)) b
output_good (Full f) i ok g b = good_shape _ (omega arith) (omega arith) ok.outputs-some ok.outputs-few b
output_good (Add a) i ok g b = g

-- a frame fits the input that suits the layer
pub suits_fit : (k : Kind) (b : Before) (other : Shape) → suit_fault k b other ≡ 0 → KindFits k b.input
unfolding suit_fault
suits_fit (Conv c) b other h = frame_fits c.frame b.input (unless-none _ 2 h)
suits_fit (Full f) b other h = tt
suits_fit (Add a) b other h = tt

-- an add's other tensor is there, and of the shape of the input that suits it
pub add_suits : (a : AddParams) (b : Before) (other : Shape) → suit_fault (Add a) b other ≡ 0 → (a.other ≤ b.made) × (other ≡ b.input)
unfolding suit_fault
add_suits a b other h =
    let p = and_both _ _ (unless-none _ 2 h) in
    (leb-true _ _ p.0, same_equal other b.input p.1)

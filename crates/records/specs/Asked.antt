-- Parameters in their ranges, as the functions here ask for them. No promise of a call rests on them.
-- Assumes nothing.
use Rattle.std.specs.Prelude.{◌+◌, ◌*◌, ◌≤◌, ◌<◌}
use Rattle.numbers.specs.Asked.{channels_most}
use Rattle.fields.specs.declared.shape.Shape.{Shape}
use Rattle.records.specs.declared.frame.Frame.{Frame}
use Rattle.records.specs.declared.weighing.Weighing.{Weighing}
use Rattle.records.specs.declared.conv.Conv.{Conv as ConvParams}
use Rattle.records.specs.declared.full.Full.{Full as FullParams}
use Rattle.records.specs.declared.add.Add.{Add as AddParams}
use Rattle.numbers.specs.declared.rescale.Scale.{Scale}
use Rattle.records.specs.declared.layer.Kind.{Kind}
use Rattle.records.specs.declared.layer.Kind.TheVariants.{Conv, Full, Add}

-- fields in their ranges
pub record FrameOk (f : Frame) : Type 0 where
  pub height-some : 1 ≤ f.height
  pub height-few : f.height ≤ 7
  pub width_some : 1 ≤ f.width
  pub width_few : f.width ≤ 7
  pub stride-some : 1 ≤ f.stride
  pub stride_few : f.stride ≤ 4
  pub padding-rows : f.padding < f.height
  pub padding-columns : f.padding < f.width

-- a frame that fits its input
pub record FrameFits (f : Frame) (i : Shape) : Type 0 where
  pub rows_fit : f.height ≤ i.rows + 2 * f.padding
  pub columns-fit : f.width ≤ i.columns + 2 * f.padding

pub record ScaleOk (s : Scale) : Type 0 where
  pub shift-few : s.shift ≤ 31
  pub multiplier-some : 1073741824 ≤ s.multiplier
  pub multiplier-few : s.multiplier ≤ 2147483647

pub record WeighingOk (w : Weighing) : Type 0 where
  pub clamp : w.low ≤ w.high
  pub scale : ScaleOk w.scale

pub record ConvOk (c : ConvParams) : Type 0 where
  pub filters-some : 1 ≤ c.filters
  pub filters-few : c.filters ≤ 64
  pub frame : FrameOk c.frame
  pub weighing : WeighingOk c.weighing

pub record FullOk (f : FullParams) : Type 0 where
  pub outputs-some : 1 ≤ f.outputs
  pub outputs-few : f.outputs ≤ channels_most
  pub weighing : WeighingOk f.weighing

pub record AddOk (a : AddParams) : Type 0 where
  pub clamp : a.low ≤ a.high
  pub first : ScaleOk a.first
  pub second : ScaleOk a.second
  pub third : ScaleOk a.third

-- parameters in their ranges
abbrev pub KindOk : Kind → Type 0
KindOk (Conv c) = ConvOk c
KindOk (Full f) = FullOk f
KindOk (Add a) = AddOk a

-- the frame of a windowed layer fits its input
abbrev pub KindFits : Kind → Shape → Type 0
KindFits (Conv c) i = FrameFits c.frame i
KindFits (Full f) i = Unit {0}
KindFits (Add a) i = Unit {0}

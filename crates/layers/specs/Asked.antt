-- What the rows of a layer ask of its record, its sums and the places of its tensors. No promise of a call rests on it.
-- Assumes nothing.
use Rattle.std.specs.Prelude.{ℕ, ◌+◌, ◌*◌, ◌^◌, ◌≤◌, ◌<◌, List, nat_abs, length, get_or, ◌≡◌}
use Rattle.numbers.specs.Limits.{file_most, tensor_most}
use Rattle.numbers.specs.Asked.{channels_most}
use Rattle.fields.specs.Bytes.{i32_at}
use Rattle.layers.specs.declared.outputs.Outputs.{Outputs}
use Rattle.fields.specs.Shape.{bytes_of}
use Rattle.fields.specs.Asked.{GoodShape}
use Rattle.records.specs.Asked.{WeighingOk, FrameFits, ConvOk, FullOk, AddOk}
use Rattle.records.specs.Full.{full_output}
use Rattle.records.specs.Layer.{terms_of, output_shape}
use Rattle.records.specs.declared.conv.Conv.{Conv as ConvParams}
use Rattle.records.specs.declared.full.Full.{Full as FullParams}
use Rattle.records.specs.declared.add.Add.{Add as AddParams}
use Rattle.records.specs.declared.layer.Kind.{Kind}
use Rattle.records.specs.declared.layer.Kind.TheVariants.{Conv, Full, Add}
use Rattle.records.specs.declared.layer.Layer.{Layer}
use Rattle.lists.specs.Asked.{Apart}
use Rattle.layers.specs.Conv.{conv_outputs}
use Rattle.layers.specs.Full.{full_outputs}

-- what the file and the store must hold for windows of n bytes
pub record OutputsReady (o : Outputs) (n : ℕ) (file sums : List ℕ) : Type 0 where
  pub count-few : o.count ≤ channels_most
  pub terms-few : n ≤ tensor_most
  pub file-few : length file ≤ file_most
  pub biases_in : o.biases + 4 * o.count ≤ length file
  pub weights-in : o.weights + o.count * n ≤ length file
  pub biases-small : (f : ℕ) → f < o.count → nat_abs (i32_at file (o.biases + 4 * f)) ≤ 2 ^ 30
  pub sums-in : o.sums + o.count ≤ length sums
  pub sums-small : (f : ℕ) → f < o.count → get_or sums (o.sums + f) 0 ≤ 255 * n
  pub weighing : WeighingOk o.weighing

-- the layer's record and sums, as tests 1 to 3 and 6 leave them
pub record ConvReady (y : Layer) (c : ConvParams) (file sums : List ℕ) : Type 0 where
  pub ok : ConvOk c
  pub fits : FrameFits c.frame y.input
  pub output : y.output ≡ output_shape (Conv c) y.input
  pub outputs : OutputsReady (conv_outputs y c 0) (terms_of (Conv c) y.input) file sums

pub record FullReady (y : Layer) (f : FullParams) (file sums : List ℕ) : Type 0 where
  pub ok : FullOk f
  pub output : y.output ≡ full_output f
  pub outputs : OutputsReady (full_outputs y f 0) (bytes_of y.input) file sums

pub record AddReady (y : Layer) (a : AddParams) : Type 0 where
  pub ok : AddOk a
  pub output : y.output ≡ y.input

abbrev pub KindReady : Kind → Layer → List ℕ → List ℕ → Type 0
KindReady (Conv c) y file sums = ConvReady y c file sums
KindReady (Full f) y file sums = FullReady y f file sums
KindReady (Add a) y file sums = AddReady y a

-- an input that stands in an area of `room` bytes from `from`, apart from the layer's output
pub record Placed (y : Layer) (room from : ℕ) : Type 0 where
  pub input : GoodShape y.input
  pub output : GoodShape y.output
  pub input-in : from + bytes_of y.input ≤ room
  pub apart : Apart from (bytes_of y.input) y.place (bytes_of y.output)
  pub within : y.place + bytes_of y.output ≤ room

-- its inputs stand in an area of `room` bytes, from `from` and `other`
pub record Ready (y : Layer) (file sums : List ℕ) (room from other : ℕ) : Type 0 where
  pub first : Placed y room from
  pub second : Placed y room other
  pub few : room ≤ 2147483648
  pub kind : KindReady y.kind y file sums

-- row i of a convolution can be made of an input that stands in an area of `room` bytes from `from`
pub record ConvRowReady (y : Layer) (c : ConvParams) (file sums : List ℕ) (room from i : ℕ) : Type 0 where
  pub ready : ConvReady y c file sums
  pub placed : Placed y room from
  pub row : i < y.output.rows

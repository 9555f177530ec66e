-- A decoded layer: what it has by its kind, and where the parts of its record stand.
-- Assumes nothing.
use Rattle.std.specs.Prelude.{ℕ, ◌+◌, ◌*◌}
use Rattle.fields.specs.Shape.{bytes_of}
use Rattle.fields.specs.Stored.{stored_len}
use Rattle.fields.specs.declared.shape.Shape.{Shape}
use Rattle.records.specs.Mark.{fixed_len}
use Rattle.records.specs.Frame.{frame_output}
use Rattle.records.specs.Full.{full_output}
use Rattle.records.specs.declared.layer.Kind.{Kind}
use Rattle.records.specs.declared.layer.Kind.TheVariants.{Conv, Full, Add}
use Rattle.records.specs.declared.layer.Layer.{Layer}

-- how many stored sums a layer has: one per filter or output
abbrev pub sums_of : Kind → ℕ
sums_of (Conv c) = c.filters
sums_of (Full f) = f.outputs
sums_of (Add a) = 0

-- N: the terms of each output, of a layer with that input
abbrev pub terms_of : Kind → Shape → ℕ
terms_of (Conv c) i = c.frame.height * c.frame.width * i.channels
terms_of (Full f) i = bytes_of i
terms_of (Add a) i = 0

-- the shape of what a layer makes of an input: a convolution makes a channel per filter
abbrev pub output_shape : Kind → Shape → Shape
output_shape (Conv c) i = frame_output c.frame i c.filters
output_shape (Full f) i = full_output f
output_shape (Add a) i = i

-- the other tensor that a layer reads: an add's j, and tensor m itself where the layer after tensor m reads no other
abbrev pub other_of : Kind → ℕ → ℕ
other_of (Conv c) m = m
other_of (Full f) m = m
other_of (Add a) m = a.other

-- where in the file the layer's biases begin, and its weights
abbrev pub biases_at : Layer → ℕ
biases_at y = y.start + fixed_len y.mark

abbrev pub weights_at : Layer → ℕ
weights_at y = biases_at y + 4 * sums_of y.kind

-- the bytes of the whole record
abbrev pub record_len : Layer → ℕ
record_len y = fixed_len y.mark + stored_len (sums_of y.kind) (terms_of y.kind y.input)

-- A row of a layer of any kind.
-- Assumes nothing.
use Rattle.std.specs.Prelude.{ℕ, List}
use Rattle.fields.specs.Shape.{bytes_of, row_bytes}
use Rattle.fields.specs.declared.shape.Shape.{Shape}
use Rattle.records.specs.declared.layer.Kind.{Kind}
use Rattle.records.specs.declared.layer.Kind.TheVariants.{Conv, Full, Add}
use Rattle.records.specs.declared.layer.Layer.{Layer}
use Rattle.lists.specs.Lists.{part}
use Rattle.layers.specs.Conv.{conv_row}
use Rattle.layers.specs.Full.{full_row}
use Rattle.layers.specs.Add.{add_row}

-- the bytes of a tensor that begins in the area at a place
abbrev pub tensor_at : List ℕ → ℕ → Shape → List ℕ
tensor_at area place s = part area place (bytes_of s)

-- row i of what a layer makes of tensor t, of zero-point z, and, an add, of tensor t', of zero-point z'
abbrev pub row_by : Kind → Layer → ℕ → ℕ → List ℕ → List ℕ → List ℕ → List ℕ → ℕ → List ℕ
row_by (Conv c) y z z' file sums t t' i = conv_row y c z file sums t i
row_by (Full f) y z z' file sums t t' i = full_row y f z file sums t
row_by (Add a) y z z' file sums t t' i = add_row a z z' (row_bytes y.output) t t' i

abbrev pub row_of : Layer → ℕ → ℕ → List ℕ → List ℕ → List ℕ → List ℕ → ℕ → List ℕ
row_of y = row_by y.kind y

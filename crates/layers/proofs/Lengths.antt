-- The lengths of what a layer makes, and of its sums.
-- Assumes nothing.
use mathlib.Core.Path.{◌≡◌, sym, ap, ◌∙◌}
use mathlib.Core.List.{List}
use Prim.Native.Nat.{ℕ, ◌*◌}
use native.Mathlib.Nat.{one-mul}
use lib.ListN.{length}
use Rattle.fields.specs.Shape.{row_bytes}
use Rattle.records.specs.Layer.{sums_of, output_shape}
use Rattle.records.specs.Frame.{frame_output}
use Rattle.records.specs.declared.layer.Kind.{Kind}
use Rattle.records.specs.declared.layer.Kind.TheVariants.{Conv, Full, Add}
use Rattle.records.specs.declared.layer.Layer.{Layer}
use Rattle.lists.proofs.Pasted.{joined_length, ones_length}
use Rattle.layers.specs.Outputs.{output_of, outputs_of}
use Rattle.layers.specs.Conv.{conv_row}
use Rattle.layers.specs.Full.{full_outputs}
use Rattle.layers.specs.Add.{add_row}
use Rattle.layers.specs.Row.{row_by, row_of}
use Rattle.layers.specs.Asked.{KindReady}
use Rattle.layers.specs.Sums.{weight_sum, layer_sums}
use Rattle.layers.specs.declared.outputs.Outputs.{Outputs}

-- the outputs at one place
pub outputs_length : (o : Outputs) (file sums q : List ℕ) → length (outputs_of o file sums q) ≡ o.count
unfolding outputs_of
outputs_length o file sums q = ones_length o.count (output_of o file sums q)

-- the sums of a layer
pub sums_length : (y : Layer) (file : List ℕ) → length (layer_sums y file) ≡ sums_of y.kind
unfolding layer_sums
sums_length y file = ones_length (sums_of y.kind) (weight_sum y file)

-- a layer makes what its kind makes of its input
abbrev pub ShapedBy : Kind → Layer → Type 0
ShapedBy k y = y.output ≡ output_shape k y.input

-- a layer that is ready has it
pub ready_shaped : (y : Layer) (file sums : List ℕ) → KindReady y.kind y file sums → ShapedBy y.kind y
ready_shaped y file sums = by_kind y.kind
  where
    by_kind : (k : Kind) → KindReady k y file sums → ShapedBy k y
    by_kind (Conv c) r = r.output
    by_kind (Full f) r = r.output
    by_kind (Add a) r = r.output

length_by :
    (k : Kind) (y : Layer) (z z' : ℕ) (file sums t t' : List ℕ) (i : ℕ) →
    ShapedBy k y →
    length (row_by k y z z' file sums t t' i) ≡ row_bytes y.output
unfolding conv_row add_row frame_output
length_by (Conv c) y z z' file sums t t' i e =
    joined_length y.output.columns c.filters _ (λ j. outputs_length _ file sums _) ∙
    ap (λ s. y.output.columns * s.channels) (sym e)
length_by (Full f) y z z' file sums t t' i e =
    outputs_length (full_outputs y f z) file sums t ∙ rw e (sym (one-mul f.outputs))
length_by (Add a) y z z' file sums t t' i e = ones_length (row_bytes y.output) _

-- a row of a layer
pub row_length :
    (y : Layer) (z z' : ℕ) (file sums t t' : List ℕ) (i : ℕ) →
    ShapedBy y.kind y →
    length (row_of y z z' file sums t t' i) ≡ row_bytes y.output
row_length y = length_by y.kind y

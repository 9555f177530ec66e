-- The row of a full layer: its window is the whole input tensor.
-- Assumes nothing.
use Rattle.std.specs.Prelude.{ℕ, List}
use Rattle.records.specs.declared.full.Full.{Full}
use Rattle.records.specs.declared.layer.Layer.{Layer}
use Rattle.layers.specs.Outputs.{outputs_for, outputs_of}
use Rattle.layers.specs.declared.outputs.Outputs.{Outputs}

abbrev pub full_outputs : Layer → Full → ℕ → Outputs
full_outputs y f z = outputs_for y f.outputs f.weighing z

abbrev pub full_row : Layer → Full → ℕ → List ℕ → List ℕ → List ℕ → List ℕ
full_row y f z file sums t = outputs_of (full_outputs y f z) file sums t

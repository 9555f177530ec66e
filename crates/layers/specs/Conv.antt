-- A row of a convolution.
-- Assumes nothing.
use Rattle.std.specs.Prelude.{ℕ, ◌*◌, List}
use Rattle.fields.specs.declared.shape.Shape.{Shape}
use Rattle.records.specs.declared.frame.Frame.{Frame}
use Rattle.records.specs.declared.conv.Conv.{Conv}
use Rattle.records.specs.declared.layer.Layer.{Layer}
use Rattle.lists.specs.Lists.{joined}
use Rattle.windows.specs.Window.{window_of}
use Rattle.windows.specs.declared.window.Window.{Window}
use Rattle.layers.specs.Outputs.{outputs_for, outputs_of}
use Rattle.layers.specs.declared.outputs.Outputs.{Outputs}

-- the window of a frame over an input of zero-point z: a cell outside the picture counts as byte z
abbrev pub window_for : Shape → Frame → ℕ → Window
window_for i f z =
    record { rows = i.rows; columns = i.columns; channels = i.channels; zero = z; height = f.height; width = f.width; top = f.padding; left = f.padding }

abbrev pub conv_outputs : Layer → Conv → ℕ → Outputs
conv_outputs y c z = outputs_for y c.filters c.weighing z

-- row i of its output, of the input tensor t with the zero-point z
unfoldable pub conv_row : Layer → Conv → ℕ → List ℕ → List ℕ → List ℕ → ℕ → List ℕ
conv_row y c z file sums t i =
    joined y.output.columns (λ j.
    outputs_of (conv_outputs y c z) file sums (window_of (window_for y.input c.frame z) t (i * c.frame.stride) (j * c.frame.stride)))

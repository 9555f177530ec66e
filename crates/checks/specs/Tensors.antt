-- What the bands need of a network: the rows of its tensors, and how each layer hangs on its inputs.
-- Assumes nothing.
use Rattle.std.specs.Prelude.{ℕ, [], ◌∷◌}
use Rattle.lists.specs.Lists.{joined}
use Rattle.records.specs.declared.frame.Frame.{Frame}
use Rattle.records.specs.declared.layer.Kind.{Kind}
use Rattle.records.specs.declared.layer.Kind.TheVariants.{Conv, Full, Add}
use Rattle.records.specs.declared.layer.Layer.{Layer}
use Rattle.network.specs.Network.{layer_of, tensor_of}
use Rattle.network.specs.declared.net.Network.{Network}
use Rattle.bands.specs.declared.state.Tensors.{Tensors}
use Rattle.bands.specs.declared.reach.Link.{Link}

-- the rows of tensors 0 to 16, 0 for those that the network lacks
abbrev pub tensors_of : Network → Tensors
tensors_of n = record { count = n.count; rows = joined 17 (λ t. (tensor_of n t).rows ∷ []) }

-- row i of a windowed layer looks at the rows from i × stride − p on, as many as the kernel has
abbrev pub frame_link : Frame → ℕ → ℕ → Link
frame_link f m rows = record { other = m; before = f.padding; kernel = f.height; stride = f.stride; rows = rows }

-- a full layer's row looks at all of them; an add's row i at row i of both inputs
abbrev pub link_by : Kind → Layer → ℕ → Link
link_by (Conv c) y m = frame_link c.frame m y.output.rows
link_by (Full f) y m = record { other = m; before = 0; kernel = y.input.rows; stride = 1; rows = y.output.rows }
link_by (Add a) y m = record { other = a.other; before = 0; kernel = 1; stride = 1; rows = y.output.rows }

-- how layer m, counted from 0, hangs on its inputs
abbrev pub link_of : Network → ℕ → Link
link_of n m = link_by (layer_of n m).kind (layer_of n m) m

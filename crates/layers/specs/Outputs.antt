-- One output of a convolution or a full layer: a total of its window, weights, bias, stored sum and zero-points, rescaled and finished.
-- Assumes nothing.
use Rattle.std.specs.Prelude.{ℕ, ◌+◌, ◌*◌, List, [], ◌∷◌, ℤ, length, get_or}
use Rattle.numbers.specs.Total.{total_of}
use Rattle.numbers.specs.Rescale.{rescaled}
use Rattle.numbers.specs.Finish.{finished}
use Rattle.fields.specs.Bytes.{i32_at}
use Rattle.records.specs.Layer.{biases_at, weights_at}
use Rattle.records.specs.declared.weighing.Weighing.{Weighing}
use Rattle.records.specs.declared.layer.Layer.{Layer}
use Rattle.lists.specs.Lists.{joined, part}
use Rattle.layers.specs.declared.outputs.Outputs.{Outputs}

-- what the outputs of a layer need, so many of them, with the input's zero-point z
abbrev pub outputs_for : Layer → ℕ → Weighing → ℕ → Outputs
outputs_for y count w z = record { count = count; biases = biases_at y; weights = weights_at y; sums = y.sums; z = z; weighing = w }

-- the n weights of output f, in a file that has the first output's from place at
abbrev pub weights_of : List ℕ → ℕ → ℕ → ℕ → List ℕ
weights_of file at n f = part file (at + f * n) n

-- the total of output f at the window q
abbrev pub total_at : Outputs → List ℕ → List ℕ → List ℕ → ℕ → ℤ
total_at o file sums q f =
    total_of (i32_at file (o.biases + 4 * f)) q (weights_of file o.weights (length q) f) (get_or sums (o.sums + f) 0) o.z o.weighing.v

-- the byte that a total gives: rescaled and finished
abbrev pub byte_by : Weighing → ℤ → ℕ
byte_by w a = finished (rescaled a w.scale.multiplier w.scale.shift) w.zero w.low w.high

-- output f at the window q
unfoldable pub output_of : Outputs → List ℕ → List ℕ → List ℕ → ℕ → ℕ
output_of o file sums q f = byte_by o.weighing (total_at o file sums q f)

-- the outputs at one place, a byte per filter or output
unfoldable pub outputs_of : Outputs → List ℕ → List ℕ → List ℕ → List ℕ
outputs_of o file sums q = joined o.count (λ f. output_of o file sums q f ∷ [])

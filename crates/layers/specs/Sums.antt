-- The true weight sums, in the order of the sum store.
-- Assumes nothing.
use Rattle.std.specs.Prelude.{ℕ, List, [], ◌∷◌}
use Rattle.numbers.specs.Total.{sum}
use Rattle.records.specs.Layer.{sums_of, terms_of, weights_at}
use Rattle.records.specs.declared.layer.Layer.{Layer}
use Rattle.lists.specs.Lists.{joined}
use Rattle.layers.specs.Outputs.{weights_of}

-- the sum of the weight bytes of output f of a layer
abbrev pub weight_sum : Layer → List ℕ → ℕ → ℕ
weight_sum y file f = sum (weights_of file (weights_at y) (terms_of y.kind y.input) f)

-- one per filter or output
unfoldable pub layer_sums : Layer → List ℕ → List ℕ
layer_sums y file = joined (sums_of y.kind) (λ f. weight_sum y file f ∷ [])

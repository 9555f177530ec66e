-- Where a layer's weights begin, and their sums.
-- Assumes nothing.
use mathlib.Core.Path.{◌≡◌}
use mathlib.Core.List.{List, [], ◌∷◌}
use Prim.Native.Nat.{ℕ, ◌+◌, ◌*◌}
use Rattle.numbers.specs.Total.{sum}
use Rattle.records.specs.Layer.{sums_of, terms_of, weights_at}
use Rattle.records.specs.declared.layer.Layer.{Layer}
use Rattle.lists.specs.Lists.{joined, part}
use Rattle.layers.specs.Sums.{layer_sums}

module _ (y : Layer) where
  -- the sums of a layer, with its numbers as the code has them
  pub sums-are :
      (file : List ℕ) {n count at : ℕ} →
      n ≡ terms_of y.kind y.input →
      count ≡ sums_of y.kind →
      at ≡ weights_at y →
      joined count (λ f. sum (part file (at + f * n) n) ∷ []) ≡ layer_sums y file
  unfolding layer_sums
  sums-are file en ec ea = rw (en, ec, ea)

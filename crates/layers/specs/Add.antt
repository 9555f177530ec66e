-- A row of an add.
-- Assumes nothing.
use Rattle.std.specs.Prelude.{ℕ, ◌+◌, ◌*◌, List, [], ◌∷◌, get_or}
use Rattle.numbers.specs.Finish.{finished}
use Rattle.numbers.specs.Addition.{offset, summed}
use Rattle.records.specs.declared.add.Add.{Add}
use Rattle.lists.specs.Lists.{joined}

-- the byte that q of tensor k − 1, with zero-point z, and q' of tensor j, with zero-point z', give
unfoldable pub add_byte : Add → ℕ → ℕ → ℕ → ℕ → ℕ
add_byte a z z' q q' =
    finished
    (summed (offset q z a.first.multiplier a.first.shift) (offset q' z' a.second.multiplier a.second.shift) a.third.multiplier a.third.shift)
    a.zero a.low a.high

-- row i, w bytes, of the tensors t and t'
unfoldable pub add_row : Add → ℕ → ℕ → ℕ → List ℕ → List ℕ → ℕ → List ℕ
add_row a z z' w t t' i = joined w (λ k. add_byte a z z' (get_or t (i * w + k) 0) (get_or t' (i * w + k) 0) ∷ [])

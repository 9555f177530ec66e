-- A fresh run: every row of every layer, in layer order, worked from a picture with the sums given. It uses no bands and no area.
-- Assumes nothing.
use Rattle.std.specs.Prelude.{ℕ, zero, suc, List, [], ◌∷◌, ◌++◌, get_or}
use Rattle.network.specs.Network.{tensor_of}
use Rattle.network.specs.Decode.{decode_of}
use Rattle.network.specs.declared.net.Network.{Network}
use Rattle.lists.specs.Lists.{joined}
use Rattle.updates.specs.Recompute.{network_sums, row_over}

-- the tensor that layer m makes of the tensors before it: every row
abbrev pub fresh_layer : Network → List ℕ → List ℕ → ℕ → List (List ℕ) → List ℕ
fresh_layer n file sums m tensors = joined (tensor_of n (suc m)).rows (row_over n file sums m (λ t. get_or tensors t []))

-- the picture, and the tensors that the first m layers make of it
unfoldable pub fresh_to : Network → List ℕ → List ℕ → List ℕ → ℕ → List (List ℕ)
fresh_to n file sums picture zero = picture ∷ []
fresh_to n file sums picture (suc m) = fresh_to n file sums picture m ++ (fresh_layer n file sums m (fresh_to n file sums picture m) ∷ [])

-- tensor t of a fresh run
abbrev pub fresh_tensor : Network → List ℕ → List ℕ → List ℕ → ℕ → List ℕ
fresh_tensor n file sums picture t = get_or (fresh_to n file sums picture t) t []

-- the reading of a fresh run over a network file and a picture: the last tensor, with the true sums
abbrev pub fresh_reading : List ℕ → List ℕ → List ℕ
fresh_reading file picture =
    fresh_tensor (decode_of file).network file (network_sums (decode_of file).network file) picture (decode_of file).network.count

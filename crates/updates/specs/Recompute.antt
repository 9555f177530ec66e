-- What an update recomputes, and how many bytes.
-- Assumes nothing.
use Rattle.std.specs.Prelude.{ℕ, zero, suc, ◌+◌, ◌-◌, ◌*◌, cond, List}
use Rattle.network.specs.Network.{layer_of, tensor_of, place_of, zero_of}
use Rattle.network.specs.declared.net.Network.{Network}
use Rattle.lists.specs.Lists.{pasted, joined, part}
use Rattle.fields.specs.Shape.{row_bytes}
use Rattle.layers.specs.Row.{row_of, tensor_at}
use Rattle.layers.specs.Sums.{layer_sums}
use Rattle.bands.specs.Band.{in_band}
use Rattle.bands.specs.State.{band_of}
use Rattle.bands.specs.Grow.{grown}
use Rattle.bands.specs.declared.band.Band.{Band}
use Rattle.bands.specs.declared.state.State.{State}
use Rattle.checks.specs.Tensors.{link_of}

-- the true sums of all layers in order: what load fills the store with
abbrev pub network_sums : Network → List ℕ → List ℕ
network_sums n file = joined n.count (λ m. layer_sums (layer_of n m) file)

-- tensor t as it stands in an area
abbrev pub tensor_in : Network → List ℕ → ℕ → List ℕ
tensor_in n area t = tensor_at area (place_of n t) (tensor_of n t)

-- row i of it
abbrev pub row_in : Network → List ℕ → ℕ → ℕ → List ℕ
row_in n area t i = part area (place_of n t + i * row_bytes (tensor_of n t)) (row_bytes (tensor_of n t))

-- row i of layer m, from tensors by number and the sums given
abbrev pub row_over : Network → List ℕ → List ℕ → ℕ → (ℕ → List ℕ) → ℕ → List ℕ
row_over n file sums m T i =
    row_of (layer_of n m) (zero_of n m) (zero_of n (link_of n m).other) file sums (T m) (T (link_of n m).other) i

-- and from the rows stored in the area and the sums stored
abbrev pub row_from : Network → List ℕ → List ℕ → ℕ → List ℕ → ℕ → List ℕ
row_from n file sums m area = row_over n file sums m (tensor_in n area)

-- layer m's rows in a band recomputed in their places
unfoldable pub redone : Network → List ℕ → List ℕ → ℕ → Band → List ℕ → List ℕ
redone n file sums m b area =
    pasted area (place_of n (suc m) + b.first * row_bytes (tensor_of n (suc m)))
    (joined (b.end - b.first) (λ k. row_from n file sums m area (b.first + k)))

-- the band of tensor t, grown
abbrev pub grown_band_of : Network → State → ℕ → Band
grown_band_of n s t = band_of (grown s (link_of n) t) t

-- the first m layers in order, each at the rows of its grown band
unfoldable pub updated_to : Network → List ℕ → List ℕ → State → ℕ → List ℕ → List ℕ
updated_to n file sums s zero area = area
updated_to n file sums s (suc m) area = redone n file sums m (grown_band_of n s (suc m)) (updated_to n file sums s m area)

-- the bytes of the rows below `rows` that are in a band, w bytes each
unfoldable pub bytes_in : Band → ℕ → ℕ → ℕ
bytes_in b zero w = 0
bytes_in b (suc rows) w = bytes_in b rows w + cond (in_band b rows) w 0

-- the total of bytes recomputed in the first m layers
unfoldable pub count_to : Network → State → ℕ → ℕ
count_to n s zero = 0
count_to n s (suc m) = count_to n s m + bytes_in (grown_band_of n s (suc m)) (tensor_of n (suc m)).rows (row_bytes (tensor_of n (suc m)))

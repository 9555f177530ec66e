-- What recomputing asks of network, sums, area and bands: what tests 1 to 6 leave. No promise of a call rests on it.
-- Assumes nothing.
use Rattle.std.specs.Prelude.{ℕ, ◌≤◌, ◌≡◌, List, length}
use Rattle.network.specs.Network.{tensor_of}
use Rattle.network.specs.Taken.{Taken}
use Rattle.network.specs.declared.net.Network.{Network}
use Rattle.bands.specs.State.{band_of}
use Rattle.bands.specs.declared.state.State.{State}
use Rattle.checks.specs.Tests.{sums_fault}

-- bands within the tensors, as test 5 leaves them
abbrev pub BandsWithin : Network → State → Type 0
BandsWithin n s = (t : ℕ) → t ≤ n.count → ((band_of s t).first ≤ (band_of s t).end) × ((band_of s t).end ≤ (tensor_of n t).rows)

-- what tests 1 to 6 leave: the network of the file, sums within their bounds, room in the area
pub record CanRecompute (file : List ℕ) (n : Network) (sums : List ℕ) (room : ℕ) : Type 0 where
  pub taken : Taken file n
  pub sums-in : n.store ≤ length sums
  pub sums-fit : sums_fault n sums ≡ 0
  pub area_in : n.area ≤ room

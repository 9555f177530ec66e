-- What the reader of the next record asks of a file read so far. No promise of a call rests on it.
-- Assumes nothing.
use Rattle.std.specs.Prelude.{ℕ, ◌≤◌, ◌<◌, ◌≡◌, List, length}
use Rattle.numbers.specs.Limits.{file_most, area_most}
use Rattle.fields.specs.Asked.{GoodShape}
use Rattle.network.specs.Network.{tensor_of}
use Rattle.network.specs.Decode.{Progress}

-- what the next record's reader needs of a file read so far
pub record Next (s : List ℕ) (p : Progress) : Type 0 where
  pub at_in : p.at ≤ length s
  pub made-few : p.made < 16
  pub area-few : p.network.area ≤ area_most
  pub store-few : p.network.store ≤ file_most
  pub last-good : GoodShape (tensor_of p.network p.made)

abbrev pub CanStep : List ℕ → Progress → Type 0
CanStep s p = p.fault ≡ 0 → Next s p

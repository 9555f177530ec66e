-- How the bands grow in an update: for each layer in order, its band becomes the smallest band covering its own and the rows that its
-- inputs' bands reach. Layer m, counted from 0, reads tensor m and tensor `other`, and makes tensor m + 1.
-- Assumes nothing.
use Rattle.std.specs.Prelude.{ℕ, zero, suc}
use Rattle.bands.specs.declared.band.Band.{Band}
use Rattle.bands.specs.declared.state.State.{State}
use Rattle.bands.specs.declared.reach.Link.{Link}
use Rattle.bands.specs.Band.{cover}
use Rattle.bands.specs.State.{band_of, with_band}
use Rattle.bands.specs.Reach.{reached_band}

-- the grown band of the layer's tensor
abbrev pub grown_band : State → Link → ℕ → Band
grown_band s y m = cover (band_of s (suc m)) (cover (reached_band (band_of s m) y) (reached_band (band_of s y.other) y))

-- one layer's step
unfoldable pub grow_one : State → Link → ℕ → State
grow_one s y m = with_band s (suc m) (grown_band s y m)

-- the first m layers, in order
unfoldable pub grown : State → (ℕ → Link) → ℕ → State
grown s links zero = s
grown s links (suc m) = grow_one (grown s links m) (links m) m

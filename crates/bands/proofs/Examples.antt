-- Bands that grow over two and three layers.
-- Assumes nothing.
use Prim.Native.Nat.{ℕ, zero, suc}
use mathlib.Core.Path.{◌≡◌, refl}
use Rattle.lists.specs.Choice.{some}
use Rattle.bands.specs.declared.state.State.{State}
use Rattle.bands.specs.declared.reach.Link.{Link}
use Rattle.bands.specs.Band.{band, cover, span}
use Rattle.bands.specs.State.{band_of, with_band, all_empty}
use Rattle.bands.specs.Reach.{is_reached, reached_band}
use Rattle.bands.specs.Grow.{grow_one, grown}

-- nothing is stale but one row of the picture
changed_row : ℕ → State
changed_row r = with_band all_empty 0 (band r (suc r))

-- five rows, kernel 3, padding 1: a second layer grows from the grown band of the first
twice : ℕ → Link
twice m = record { other = m; before = 1; kernel = 3; stride = 1; rows = 5 }

grows_from_grown : band_of (grown (changed_row 0) twice 2) 2 ≡ band 0 3
unfolding changed_row twice grown grow_one cover reached_band is_reached span some
grows_from_grown = refl

-- the rows between a tensor's own band and the reached rows are in the grown band
covers_the_gap : band_of (grown (with_band (changed_row 4) 1 (band 0 1)) twice 1) 1 ≡ band 0 5
unfolding changed_row twice grown grow_one cover reached_band is_reached span some
covers_the_gap = refl

-- three rows, every second of them taken, grown back to three, and added to the picture: the changed row reaches the sum only by the second input
skipped : ℕ → Link
skipped zero = record { other = 0; before = 0; kernel = 1; stride = 2; rows = 2 }
skipped (suc zero) = record { other = 1; before = 1; kernel = 2; stride = 1; rows = 3 }
skipped (suc (suc m)) = record { other = 0; before = 0; kernel = 1; stride = 1; rows = 3 }

reaches_by_second : (grown (changed_row 1) skipped 3).bands ≡ (with_band (changed_row 1) 3 (band 1 2)).bands
unfolding changed_row skipped grown grow_one cover reached_band is_reached span some
reaches_by_second = refl

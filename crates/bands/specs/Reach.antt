-- The rows of a windowed layer that a band of its input reaches. A convolution, a full layer and an add are all windowed: row i looks at
-- the rows from i × stride − before to i × stride − before + kernel − 1 of its input, a full layer with before 0, the input's rows for
-- its kernel, stride 1 and one row, an add with before 0, kernel 1 and stride 1.
-- Assumes nothing.
use Rattle.std.specs.Prelude.{ℕ, ◌+◌, ◌-◌, ◌*◌, Bool, ◌&&◌, leb}
use Rattle.bands.specs.declared.band.Band.{Band}
use Rattle.bands.specs.declared.reach.Link.{Link}
use Rattle.lists.specs.Choice.{some}
use Rattle.bands.specs.Band.{in_band, span}

-- place p of the padded input, `before` places of padding first, is a row of the band
abbrev pub in_band_at : Band → ℕ → ℕ → Bool
in_band_at b before p = leb before p && in_band b (p - before)

-- row i is reached: some row of its window is in the band
unfoldable pub is_reached : Band → Link → ℕ → Bool
is_reached b y i = some y.kernel (λ a. in_band_at b y.before (i * y.stride + a))

-- the smallest band covering the reached rows
unfoldable pub reached_band : Band → Link → Band
reached_band b y = span y.rows (is_reached b y)

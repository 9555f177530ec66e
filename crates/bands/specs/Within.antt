-- Words in which the laws of the bands are said: the rows of a band, and what the window of a row holds. No promise of a call rests on them.
-- Assumes nothing.
use Rattle.std.specs.Prelude.{ℕ, ◌+◌, ◌*◌, ◌≤◌, ◌<◌}
use Rattle.bands.specs.declared.band.Band.{Band}
use Rattle.bands.specs.declared.reach.Link.{Link}
use Rattle.bands.specs.Band.{In}

-- every row of a is one of b
abbrev pub Inside : Band → Band → Type 0
Inside a b = (i : ℕ) → In i a → In i b

-- no row lies in it
abbrev pub Empty : Band → Type 0
Empty b = b.end ≤ b.first

-- the window of row i, the input's rows i × stride − before up to i × stride − before + kernel − 1, holds row r
abbrev pub Sees : Link → ℕ → ℕ → Type 0
Sees y i r = (i * y.stride ≤ r + y.before) × (r + y.before < i * y.stride + y.kernel)

-- the window of row i holds a row of the band
abbrev pub Hit : Band → Link → ℕ → Type 0
Hit b y i = (r : ℕ) × In r b × Sees y i r

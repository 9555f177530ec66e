-- The state: a band for each of tensors 0 to 16. Test 5, and the state that each call leaves.
-- Assumes nothing.
use Rattle.std.specs.Prelude.{ℕ, Bool, ◌&&◌, ◌||◌, cond, [], ◌∷◌, leb, ltb, eqb, get_or, set, replicate}
use Rattle.lists.specs.Lists.{joined}
use Rattle.bands.specs.declared.band.Band.{Band}
use Rattle.bands.specs.declared.state.State.{State}
use Rattle.bands.specs.declared.state.Tensors.{Tensors}
use Rattle.lists.specs.Choice.{every}
use Rattle.bands.specs.Band.{band, none, is_empty, cover}

-- the band of tensor t
abbrev pub band_of : State → ℕ → Band
band_of s t = get_or s.bands t none

-- the rows of tensor t
abbrev pub rows_of : Tensors → ℕ → ℕ
rows_of n t = get_or n.rows t 0

-- the state with another band for tensor t
abbrev pub with_band : State → ℕ → Band → State
with_band s t b = record { bands = set s.bands t b }

-- the band 1,0 everywhere
abbrev pub all_stale : State
all_stale = record { bands = replicate 17 (band 1 0) }

-- every band empty: what an update leaves
abbrev pub all_empty : State
all_empty = record { bands = replicate 17 none }

-- test 5, of a tensor that the network has: first ≤ end, end ≤ rows, and an empty band is 0,0
abbrev pub fair : ℕ → Band → Bool
fair rows b = leb b.first b.end && leb b.end rows && (ltb b.first b.end || eqb b.end 0)

-- and of one that it lacks: 0,0
abbrev pub absent : Band → Bool
absent b = eqb b.first 0 && eqb b.end 0

-- the test of one tensor
abbrev pub fair_at : State → Tensors → ℕ → Bool
fair_at s n t = cond (leb t n.count) (fair (rows_of n t) (band_of s t)) (absent (band_of s t))

-- test 5: 0, or its number
unfoldable pub state_fault : State → Tensors → ℕ
state_fault s n = cond (every 17 (fair_at s n)) 0 5

-- no band has a row: what test 8 asks of a reading
unfoldable pub clean : State → Bool
clean s = every 17 (λ t. is_empty (band_of s t))

-- load: every existing tensor's band covers all its rows, the others are empty
unfoldable pub loaded : Tensors → State
loaded n = record { bands = joined 17 (λ t. cond (leb t n.count) (band 0 (rows_of n t)) none ∷ []) }

-- change rows: band 0 becomes the smallest band covering the old one and the new rows
abbrev pub changed : State → ℕ → ℕ → State
changed s first end = with_band s 0 (cover (band_of s 0) (band first end))

-- replace layer k: band k covers the whole tensor
abbrev pub replaced : State → ℕ → ℕ → State
replaced s k rows = with_band s k (band 0 rows)

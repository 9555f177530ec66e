-- The answers of the calls as numbers. The state is 34: first and end of the band of tensor 0, then of tensor 1, and so on.
-- Assumes nothing.
use Rattle.std.specs.Prelude.{ℕ, ◌+◌, ◌*◌, List, [], ◌∷◌, get_or}
use Rattle.lists.specs.Lists.{joined}
use Rattle.bands.specs.Band.{band}
use Rattle.bands.specs.State.{band_of}
use Rattle.bands.specs.declared.state.State.{State}
use Rattle.clew.specs.declared.outcome.Outcome.{Outcome}
use Rattle.clew.specs.declared.outcome.Sizes.{Sizes}

abbrev pub flat : State → List ℕ
flat s = joined 17 (λ t. (band_of s t).first ∷ (band_of s t).end ∷ [])

-- the state that 34 numbers stand for
unfoldable pub state_of : List ℕ → State
state_of l = record { bands = joined 17 (λ t. band (get_or l (2 * t) 0) (get_or l (2 * t + 1) 0) ∷ []) }

-- the number of a file, and the four sizes
abbrev pub sizes_told : Sizes → ℕ × List ℕ
sizes_told z = (z.number, z.picture ∷ z.sums ∷ z.area ∷ z.reading ∷ [])

-- an outcome's number and state, and the one buffer that the call may write
abbrev pub told : Outcome × List ℕ → ℕ × List ℕ × List ℕ
told x = (x.0.number, x.1, flat x.0.state)

abbrev pub replace_told : Outcome × List ℕ × List ℕ → ℕ × List ℕ × List ℕ × List ℕ
replace_told x = (x.0.number, x.1, x.2, flat x.0.state)

-- an update tells its count too
abbrev pub update_told : Outcome × List ℕ → ℕ × List ℕ × List ℕ × ℕ
update_told x = (x.0.number, x.1, flat x.0.state, x.0.count)

-- a reading hands back the state that it got
abbrev pub read_told : Outcome × List ℕ → ℕ × List ℕ
read_told x = (x.0.number, x.1)

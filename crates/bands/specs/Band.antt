-- A band of rows, first up to but not including end.
-- Assumes nothing.
use Rattle.std.specs.Prelude.{ℕ, zero, suc, min, max, ◌≤◌, ◌<◌, Bool, ◌&&◌, cond, leb, ltb}
use Rattle.bands.specs.declared.band.Band.{Band}

abbrev pub band : ℕ → ℕ → Band
band f e = record { first = f; end = e }

-- empty is written 0,0
abbrev pub none : Band
none = band 0 0

-- row i is in the band
abbrev pub in_band : Band → ℕ → Bool
in_band b i = leb b.first i && ltb i b.end

-- the same, as a proposition
abbrev pub In : ℕ → Band → Type 0
In i b = (b.first ≤ i) × (i < b.end)

-- no row is
abbrev pub is_empty : Band → Bool
is_empty b = leb b.end b.first

-- the smallest band covering both
unfoldable pub cover : Band → Band → Band
cover a b = cond (is_empty a) b (cond (is_empty b) a (band (min a.first b.first) (max a.end b.end)))

-- the smallest band covering the rows below n that a test picks
unfoldable pub span : ℕ → (ℕ → Bool) → Band
span zero p = none
span (suc n) p = cover (span n p) (cond (p n) (band n (suc n)) none)

-- The output byte.
-- Assumes nothing.
use Rattle.std.specs.Prelude.{ℕ, min, max, ℤ, pos, negsuc, ◌+ℤ◌}

-- z held between two bytes, low ≤ top
abbrev pub held : ℤ → ℕ → ℕ → ℕ
held (pos n) low top = max low (min n top)
held (negsuc n) low top = low

-- r plus the output zero-point, held between low and high
abbrev pub finished : ℤ → ℕ → ℕ → ℕ → ℕ
finished r zero-point low top = held (r +ℤ pos zero-point) low top

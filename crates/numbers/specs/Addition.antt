-- The steps of an add.
-- Assumes nothing.
use Rattle.std.specs.Prelude.{ℕ, ◌^◌, ℤ, pos, ◌+ℤ◌, ◌-ℤ◌, ◌*ℤ◌}
use Rattle.numbers.specs.Rescale.{rescaled}

-- (q − own zero-point) × 2^20, rescaled by its own multiplier and shift
abbrev pub offset : ℕ → ℕ → ℕ → ℕ → ℤ
offset q z m n = rescaled ((pos q -ℤ pos z) *ℤ pos (2 ^ 20)) m n

-- the two are added, rescaled by the third
abbrev pub summed : ℤ → ℤ → ℕ → ℕ → ℤ
summed x y m n = rescaled (x +ℤ y) m n

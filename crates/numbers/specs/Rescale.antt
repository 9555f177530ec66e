-- A total rescaled by a multiplier and a shift.
-- Assumes nothing.
use Rattle.std.specs.Prelude.{ℕ, zero, suc, ◌+◌, ◌*◌, ◌/◌, ◌^◌, ℤ, pos, negsuc, neg_ℤ, ◌+ℤ◌, ◌*ℤ◌}
use Rattle.std.specs.Int.Signed.{shr_z}

-- z / d rounded down, for a d above 0
abbrev pub floor : ℤ → ℕ → ℤ
floor z d = shr_z z d

-- h = floor((a × m + 2^30) / 2^31), so a half goes up
abbrev pub high : ℤ → ℕ → ℤ
high a m = floor (a *ℤ pos m +ℤ pos (2 ^ 30)) (2 ^ 31)

-- a / d to the nearest whole, a half going up
abbrev pub half_up : ℕ → ℕ → ℕ
half_up a d = (2 * a + d) / (2 * d)

-- z / d to the nearest whole, a half going away from zero
abbrev pub nearest : ℤ → ℕ → ℤ
nearest (pos a) d = pos (half_up a d)
nearest (negsuc a) d = neg_ℤ (pos (half_up (suc a) d))

-- the total a rescaled by the multiplier m and the shift n: h if n = 0, else h / 2^n to the nearest whole
abbrev pub rescaled : ℤ → ℕ → ℕ → ℤ
rescaled a m zero = high a m
rescaled a m (suc n) = nearest (high a m) (2 ^ suc n)

-- twice the distance from the exact product may be this, over whole numbers, times 2^(31+n)
abbrev pub slack : ℕ → ℕ
slack zero = 2 ^ 31
slack (suc n) = 2 ^ (31 + suc n) + 2 ^ 31
